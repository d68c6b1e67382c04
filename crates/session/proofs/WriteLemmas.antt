-- Which act a single Write is, and how it ends.
use Rattle.std.proofs.Common.{◌≡◌, ℕ, List, [], ◌∷◌, ◌++◌, length, true, false, refl, sym, ◌∙◌, ap, subst, ◌≢◌, eq-eqb}
use Rattle.std.specs.Prelude.{Bool, Option, Some, None, option_and_then, Result, Ok, Err, OnOk, OnErr, not, ◌==◌, if◌then◌else◌}
use Rattle.std.proofs.lemmas.Bool.{false≢true, eqb-true}
use Rattle.return_codes.specs.declared.code.Code.{Code}
use Rattle.return_codes.specs.declared.code.Code.TheVariants.{C704, C705, C710}
use Rattle.return_codes.specs.Code.{number_of}
use Rattle.spec_plant.specs.Description.{Rights}
use Rattle.spec_plant.specs.World.{PlantPort}
use Rattle.spec_formats.specs.Codes.{not_permitted, invalid_size, symbol_not_found}
use Rattle.spec_formats.specs.Groups.{Group, AreaBytes, AreaBit, ValueByHandle, ReleaseHandle, group_of}
use Rattle.spec_formats.specs.Numbers.{number32}
use Rattle.spec_formats.specs.Request.{Write}
use Rattle.spec_machine.specs.Access.{Addressed, puts_of, memory_after_puts}
use Rattle.spec_machine.specs.Acts.{Act, Refusal, writing, changing, effect_of}
use Rattle.spec_machine.specs.Answers.{if_answered, answered_group, WRITE}
use Rattle.spec_machine.specs.Client.{Client, NoEffect, Releases, client_after}
use Rattle.spec_machine.specs.Client as client
use Rattle.spec_machine.specs.Handles.{HandleStatus, Never, Released, Outdated, Live, Release, kept_status, status_of}
use Rattle.spec_machine.specs.HandleLaws.{AgreeingStatus, AgreeingHandles, handles_of}
use Rattle.spec_machine.specs.Reach.{addressed_by_status, addressed_in_place, reach_of}
use Rattle.spec_machine.specs.Requests.{plain_act, act_of}
use Rattle.spec_machine.specs.Writes.{Asker, may_write, write_act, is_releasable, release_act, are_writable, write_group}
use Rattle.spec_machine.proofs.HandleStatuses.{status_is_history}
use Rattle.symbol_table.specs.declared.place.Place.{Place}
use Rattle.sym_handles.specs.Kept.{Kept}
use Rattle.sym_handles.specs.History.{History, Represents, release_of}
use Rattle.session.proofs.Tests.{is_false}
use Rattle.port_device.specs.PortMemory.{PortMemory}
use Rattle.port_device.specs.Answers.{IsNamed}
use Rattle.port_device.specs.Endings.{EndsAs, IsAsker, place_write_act}
use Rattle.port_device.specs.Groups.{written_by_port}
use Rattle.session.specs.Asking.{Asking, act_asked}
use Rattle.session.specs.Asks.{Asks, LooksUp}
use Rattle.session.specs.Ends.{EndsAct, value_write_act}
use Rattle.session.specs.HandleGroups.{is_release, is_value_by_handle}
use Rattle.session.specs.StandsFor.{KeptFor, is_place_of}
use Rattle.session.proofs.LookLemmas.{statuses-agree, port-number}
use Rattle.session.proofs.HandleChanges.{release-agrees}
use Rattle.session.proofs.ValueLemmas.{LookedUp, looked-by}

-- which act it is

release-group : (c : Client) (k : Asker) (g : Option Group) (offset : ℕ) (bytes : List ℕ) → is_release g ≡ true
    → write_group c k (option_and_then (if_answered WRITE) g) offset bytes ≡ release_act c k.port bytes
unfolding write_group
release-group c k (Some ReleaseHandle) offset bytes is = refl
release-group c k g offset bytes is = absurd (false≢true is)

value-group : (c : Client) (k : Asker) (g : Option Group) (offset : ℕ) (bytes : List ℕ) → is_value_by_handle g ≡ true
    → write_group c k (option_and_then (if_answered WRITE) g) offset bytes
    ≡ (if not (may_write k.rights) then Refusal not_permitted
    else write_act k bytes (addressed_by_status k.port.number (kept_status c.handles offset k.port.number) (length bytes)))
unfolding write_group reach_of
value-group c k (Some ValueByHandle) offset bytes is = refl
value-group c k g offset bytes is = absurd (false≢true is)

port-group : (c : Client) (k : Asker) (g : Option Group) (offset : ℕ) (bytes : List ℕ) → is_release g ≡ false → is_value_by_handle g ≡ false
    → write_group c k (option_and_then (if_answered WRITE) g) offset bytes ≡ write_group c k (written_by_port g) offset bytes
unfolding write_group
port-group c k (Some ReleaseHandle) offset bytes is not_ = absurd (false≢true (sym is))
port-group c k (Some ValueByHandle) offset bytes is not_ = absurd (false≢true (sym not_))
port-group c k g offset bytes is not_ = refl

pub write-releases : (a : Asking) (group offset : ℕ) (bytes : List ℕ) → is_release (group_of group) ≡ true
    → act_asked a (Write group offset bytes) ≡ release_act a.client a.asker.port bytes
unfolding act_of plain_act answered_group
write-releases a group offset bytes is = release-group a.client a.asker (group_of group) offset bytes is

pub write-by-handle : (a : Asking) (group offset : ℕ) (bytes : List ℕ) → is_value_by_handle (group_of group) ≡ true
    → act_asked a (Write group offset bytes) ≡ value_write_act a offset bytes
unfolding act_of plain_act answered_group
write-by-handle a group offset bytes is = value-group a.client a.asker (group_of group) offset bytes is

pub write-by-port : (a : Asking) (group offset : ℕ) (bytes : List ℕ) → is_release (group_of group) ≡ false → is_value_by_handle (group_of group) ≡ false
    → act_asked a (Write group offset bytes) ≡ write_group a.client a.asker (written_by_port (group_of group)) offset bytes
unfolding act_of plain_act answered_group
write-by-port a group offset bytes is not_ = port-group a.client a.asker (group_of group) offset bytes is not_

-- how it ends

pub ends-along : (a : Asking) (act other : Act) (answer : Result (Unit {0}) Code) (m : PortMemory) (kept : Kept) → other ≡ act
    → EndsAct a act answer m kept → EndsAct a other answer m kept
ends-along a act other answer m kept same ends = let P : Act → Type 0 = λ x. EndsAct a x answer m kept in subst P (sym same) ends

-- an act that has no effect on its client
pub quiet-ends : (a : Asking) (act : Act) (answer : Result (Unit {0}) Code) (m m' : PortMemory) (kept : Kept) → Asks a m kept
    → effect_of act ≡ NoEffect → EndsAs a.world a.asker.port act answer m' → EndsAct a act answer m' kept
unfolding client_after
quiet-ends a act answer m m' kept asks quiet ends = record {
  code = ends.code;
  after = record {
    held = ends.holds;
    handles =
        let K : client.Effect → Type 0 = λ e. KeptFor a.world.plant.ports (client_after a.client e).handles kept in
        subst K (sym quiet) asks.handles;
  };
}

pub write-quiet : (k : Asker) (bytes : List ℕ) (r : Result (List Addressed) ℕ) → effect_of (write_act k bytes r) ≡ NoEffect
write-quiet k bytes (Err code) = refl
write-quiet k bytes (Ok places) = go (are_writable k.address.net k.port places)
  where
    go : (b : Bool) → effect_of (if b then writing (puts_of places bytes) else Refusal not_permitted) ≡ NoEffect
    go true = refl
    go false = refl

-- a refusal ends and changes nothing
pub refused-ends : (a : Asking) (act : Act) (code : Code) (m : PortMemory) (kept : Kept) → Asks a m kept → act ≡ Refusal (number_of code)
    → EndsAct a act (Err code) m kept
unfolding client_after
refused-ends a act code m kept asks is =
    ends-along a (Refusal (number_of code)) act (Err code) m kept is
    (record { code = refl; after = record { held = asks.held; handles = asks.handles } })

-- a write of a group that the port answers has no effect on the client

pub permitted-quiet : (k : Asker) (b : Bool) (bytes : List ℕ) (r : Result (List Addressed) ℕ)
    → effect_of (if not b then Refusal not_permitted else write_act k bytes r) ≡ NoEffect
permitted-quiet k true bytes r = write-quiet k bytes r
permitted-quiet k false bytes r = refl

group-quiet : (c : Client) (k : Asker) (g : Option Group) (offset : ℕ) (bytes : List ℕ)
    → effect_of (write_group c k (written_by_port g) offset bytes) ≡ NoEffect
unfolding write_group
group-quiet c k None offset bytes = refl
group-quiet c k (Some (AreaBytes area)) offset bytes =
    permitted-quiet k (may_write k.rights) bytes (reach_of c k.port (Some (AreaBytes area)) offset (length bytes))
group-quiet c k (Some (AreaBit area)) offset bytes =
    permitted-quiet k (may_write k.rights) bytes (reach_of c k.port (Some (AreaBit area)) offset (length bytes))
group-quiet c k (Some g) offset bytes = refl

pub port-ends : (a : Asking) (group offset : ℕ) (bytes : List ℕ) (answer : Result (Unit {0}) Code) (m m' : PortMemory) (kept : Kept)
    → is_release (group_of group) ≡ false → is_value_by_handle (group_of group) ≡ false → Asks a m kept
    → EndsAs a.world a.asker.port (write_group a.client a.asker (written_by_port (group_of group)) offset bytes) answer m'
    → EndsAct a (act_asked a (Write group offset bytes)) answer m' kept
port-ends a group offset bytes answer m m' kept is not_ asks ends =
    let act = write_group a.client a.asker (written_by_port (group_of group)) offset bytes in
    ends-along a act (act_asked a (Write group offset bytes)) answer m' kept (write-by-port a group offset bytes is not_)
    (quiet-ends a act answer m m' kept asks (group-quiet a.client a.asker (group_of group) offset bytes) ends)

-- a value by its handle

permitted-is : (k : Asker) (x : Act) → may_write k.rights ≡ true → (if not (may_write k.rights) then Refusal not_permitted else x) ≡ x
permitted-is k x may = ap (λ b. if not b then Refusal not_permitted else x) may

pub value-denied : (a : Asking) (handle : ℕ) (bytes : List ℕ) (rights : Rights) (net : List ℕ) (m : PortMemory) (kept : Kept) → Asks a m kept
    → IsAsker a.asker rights net → false ≡ may_write rights → EndsAct a (value_write_act a handle bytes) (Err C704) m kept
value-denied a handle bytes rights net m kept asks asker may =
    let x = write_act a.asker bytes (addressed_by_status a.asker.port.number (kept_status a.client.handles handle a.asker.port.number) (length bytes)) in
    refused-ends a (value_write_act a handle bytes) C704 m kept asks
    (ap (λ b. if not b then Refusal not_permitted else x) (ap may_write asker.rights_are ∙ sym may))

live-write : (a : Asking) (m m' : PortMemory) (kept : Kept) (place : Place) (bytes : List ℕ) (s : HandleStatus client.Place) (answer : Result (Unit {0}) Code)
    → Asks a m kept → LooksUp a.world.plant.ports a.asker.port.number s (Ok place)
    → ((named : client.Place) → IsNamed a.world a.asker.port place named → EndsAs a.world a.asker.port (place_write_act a.asker named bytes) answer m')
    → EndsAct a (if not (may_write a.asker.rights) then Refusal not_permitted
    else write_act a.asker bytes (addressed_by_status a.asker.port.number s (length bytes))) answer m' kept
live-write a m m' kept place bytes (Live named) answer asks looks said =
    let r = addressed_in_place a.asker.port.number named (length bytes) in
    quiet-ends a (place_write_act a.asker named bytes) answer m m' kept asks (permitted-quiet a.asker (may_write a.asker.rights) bytes r) (said named looks)
live-write a m m' kept place bytes Never answer asks looks said = absurd looks
live-write a m m' kept place bytes Released answer asks looks said = absurd looks
live-write a m m' kept place bytes Outdated answer asks looks said = absurd looks

pub value-ends : (a : Asking) (m m' : PortMemory) (kept : Kept) (number handle : ℕ) (place : Place) (bytes : List ℕ) (answer : Result (Unit {0}) Code)
    → Asks a m kept → number ≡ m.number → LookedUp number handle kept (Ok place)
    → ((named : client.Place) → IsNamed a.world a.asker.port place named → EndsAs a.world a.asker.port (place_write_act a.asker named bytes) answer m')
    → EndsAct a (value_write_act a handle bytes) answer m' kept
value-ends a m m' kept number handle place bytes answer asks is looked said =
    live-write a m m' kept place bytes (kept_status a.client.handles handle a.asker.port.number) answer asks
    (looked-by a m kept number handle (Ok place) asks is looked) said

dead-write : (k : Asker) (ports : List PlantPort) (port : ℕ) (bytes : List ℕ) (s : HandleStatus client.Place) (code : Code)
    → LooksUp ports port s (Err code) → write_act k bytes (addressed_by_status port s (length bytes)) ≡ Refusal (number_of code)
dead-write k ports port bytes Never code looks = ap (λ x. Refusal (number_of x)) (sym looks)
dead-write k ports port bytes Released code looks = ap (λ x. Refusal (number_of x)) (sym looks)
dead-write k ports port bytes Outdated code looks = ap (λ x. Refusal (number_of x)) (sym looks)
dead-write k ports port bytes (Live named) code looks = absurd looks

pub value-dead : (a : Asking) (m : PortMemory) (kept : Kept) (number handle : ℕ) (bytes : List ℕ) (code : Code) (rights : Rights) (net : List ℕ)
    → Asks a m kept → number ≡ m.number → IsAsker a.asker rights net → true ≡ may_write rights → LookedUp number handle kept (Err code)
    → EndsAct a (value_write_act a handle bytes) (Err code) m kept
value-dead a m kept number handle bytes code rights net asks is asker may looked =
    let s = kept_status a.client.handles handle a.asker.port.number in
    refused-ends a (value_write_act a handle bytes) code m kept asks
    (permitted-is a.asker (write_act a.asker bytes (addressed_by_status a.asker.port.number s (length bytes))) (ap may_write asker.rights_are ∙ sym may)
    ∙ dead-write a.asker a.world.plant.ports a.asker.port.number bytes s code (looked-by a m kept number handle (Err code) asks is looked))

-- a release

pub release-short : (a : Asking) (bytes : List ℕ) (m : PortMemory) (kept : Kept) → Asks a m kept → length bytes ≢ 4
    → EndsAct a (release_act a.client a.asker.port bytes) (Err C705) m kept
release-short a bytes m kept asks is =
    refused-ends a (release_act a.client a.asker.port bytes) C705 m kept asks
    (ap (λ b. if not b then Refusal invalid_size
    else if is_releasable (kept_status a.client.handles (number32 0 bytes) a.asker.port.number)
    then changing [] (Releases (number32 0 bytes)) else Refusal symbol_not_found)
    (is_false (length bytes == 4) (λ t. is (eqb-true (length bytes) 4 t))))

-- the handle of a status is released, or not found
abbrev released : HandleStatus client.Place → ℕ → Act
released s handle = if is_releasable s then changing [] (Releases handle) else Refusal symbol_not_found

released-live : (a : Asking) (handle : ℕ) (m : PortMemory) (kept kept' : Kept) (history : History) → Asks a m kept
    → AgreeingHandles (is_place_of a.world.plant.ports) a.client.handles (handles_of history) → Represents kept' (history ++ Release handle ∷ [])
    → EndsAct a (changing [] (Releases handle)) (Ok tt) m kept'
unfolding memory_after_puts client_after
released-live a handle m kept kept' history asks agree represented = record {
  code = refl;
  after = record {
    held = asks.held;
    handles = record {
      history = history ++ Release handle ∷ [];
      represented = represented;
      agree = release-agrees (is_place_of a.world.plant.ports) a.client.handles history handle agree;
    };
  };
}

released-ends : (a : Asking) (handle : ℕ) (m : PortMemory) (kept kept' : Kept) (history : History) (s : HandleStatus client.Place) (t : HandleStatus Place)
    → Asks a m kept → AgreeingHandles (is_place_of a.world.plant.ports) a.client.handles (handles_of history)
    → AgreeingStatus (is_place_of a.world.plant.ports) a.asker.port.number s t
    → OnOk (release_of t) (Represents kept' (history ++ Release handle ∷ [])) → OnErr (release_of t) (kept' ≡ kept)
    → EndsAct a (released s handle) (release_of t) m kept'
released-ends a handle m kept kept' history Never Never asks agree same ok err =
    let P : Kept → Type 0 = λ k. EndsAct a (Refusal symbol_not_found) (Err C710) m k in
    subst P (sym err) (refused-ends a (Refusal symbol_not_found) C710 m kept asks refl)
released-ends a handle m kept kept' history Released Released asks agree same ok err =
    let P : Kept → Type 0 = λ k. EndsAct a (Refusal symbol_not_found) (Err C710) m k in
    subst P (sym err) (refused-ends a (Refusal symbol_not_found) C710 m kept asks refl)
released-ends a handle m kept kept' history Outdated Outdated asks agree same ok err = released-live a handle m kept kept' history asks agree ok
released-ends a handle m kept kept' history (Live named) (Live place) asks agree same ok err = released-live a handle m kept kept' history asks agree ok
released-ends a handle m kept kept' history s t asks agree same ok err = absurd same

pub release-ends : (a : Asking) (bytes : List ℕ) (number handle : ℕ) (answer : Result (Unit {0}) Code) (m : PortMemory) (kept kept' : Kept) → Asks a m kept
    → number ≡ m.number → length bytes ≡ 4 → handle ≡ number32 0 bytes
    → ((history : History) → Represents kept history → answer ≡ release_of (status_of history handle number))
    → OnOk answer ((history : History) → Represents kept history → Represents kept' (history ++ Release handle ∷ []))
    → OnErr answer (kept' ≡ kept)
    → EndsAct a (release_act a.client a.asker.port bytes) answer m kept'
release-ends a bytes number handle answer m kept kept' asks is four is_handle said ok err =
    let test = is_place_of a.world.plant.ports in
    let k = asks.handles in
    let p = a.asker.port in
    let same : number ≡ p.number = is ∙ port-number a.world p m asks.held in
    let s = kept_status a.client.handles handle p.number in
    let t = kept_status (handles_of k.history) handle p.number in
    let agreed : AgreeingStatus test p.number s t = statuses-agree test a.client.handles (handles_of k.history) handle p.number k.agree in
    let is_answer : answer ≡ release_of t = said k.history k.represented ∙ ap (λ n. release_of (status_of k.history handle n)) same
    ∙ ap release_of (sym (status_is_history Place k.history handle p.number)) in
    let OkOf : Result (Unit {0}) Code → Type 0 =
    λ r. OnOk r ((history : History) → Represents kept history → Represents kept' (history ++ Release handle ∷ [])) in
    let ErrOf : Result (Unit {0}) Code → Type 0 = λ r. OnErr r (kept' ≡ kept) in
    let E : Result (Unit {0}) Code → Type 0 = λ r. EndsAct a (released s handle) r m kept' in
    let own : EndsAct a (released s handle) answer m kept'
    = subst E (sym is_answer) (released-ends a handle m kept kept' k.history s t asks k.agree agreed
    (on-ok (release_of t) k.history k.represented (subst OkOf is_answer ok)) (subst ErrOf is_answer err)) in
    let act : release_act a.client p bytes ≡ released s handle =
    ap (λ b. if not b then Refusal invalid_size else released (kept_status a.client.handles (number32 0 bytes) p.number) (number32 0 bytes))
    (eq-eqb (length bytes) 4 four)
    ∙ ap (λ n. released (kept_status a.client.handles n p.number) n) (sym is_handle) in
    ends-along a (released s handle) (release_act a.client p bytes) answer m kept' act own
  where
    on-ok : (r : Result (Unit {0}) Code) (history : History) → Represents kept history
        → OnOk r ((h : History) → Represents kept h → Represents kept' (h ++ Release handle ∷ [])) → OnOk r (Represents kept' (history ++ Release handle ∷ []))
    on-ok (Ok done) history represented all = all history represented
    on-ok (Err code) history represented all = tt
