-- A request of a packet that is no sum is one act: its reply, and what it leaves.
use Rattle.std.proofs.Common.{◌≡◌, ◌^◌, ◌<◌, ℕ, List, [], ◌∷◌, ◌++◌, true, false, inl, inr, refl, sym, ◌∙◌, ap, subst}
use Rattle.std.specs.Prelude.{Bool, Option, Some, None, option_and_then, Result, Ok, Err, IfOk, OnOk, ◌==◌, ◌||◌, not, map, if◌then◌else◌}
use Rattle.std.specs.Option.{option_or}
use Rattle.std.specs.Int.{w16, w32, to_le_bytes}
use Rattle.std.proofs.lemmas.Bool.{cases_Bool, false≢true}
use Rattle.std.proofs.lemmas.List.{append-nil}
use Rattle.std.proofs.lemmas.Nat.{from_le_bytes-to_le_bytes_2, from_le_bytes-to_le_bytes_4}
use Rattle.return_codes.specs.declared.code.Code.{Code}
use Rattle.return_codes.specs.Code.{number_of}
use Rattle.spec_plant.specs.Description as plant
use Rattle.spec_plant.specs.World.{Plant, PlantPort, Block}
use Rattle.spec_formats.specs.Codes.{no_error, not_permitted, invalid_value}
use Rattle.spec_formats.specs.Groups.{Group, SumRead, SumWrite, SumReadWrite, group_of}
use Rattle.spec_formats.specs.Numbers.{number16, number32}
use Rattle.spec_formats.specs.Reply as reply
use Rattle.spec_formats.specs.Reply.{written_bytes, facts_bytes, facts_at}
use Rattle.spec_formats.specs.Request.{Request, ReadDeviceInfo, Read, Write, ReadState, WriteControl}
use Rattle.spec_formats.specs.Request.{AddDeviceNotification, DeleteDeviceNotification, DeviceNotification}
use Rattle.spec_formats.specs.Request.{ReadWrite, command_of}
use Rattle.spec_machine.specs.World.{setup_of, state_names, state_bytes, RUN, STOP}
use Rattle.spec_machine.specs.Access.{Addressed, WholeByte, Put, puts_of, values_at, memory_after_puts}
use Rattle.spec_machine.specs.Acts.{Act, Outcome, Refusal, Allowed, writing, effect_of, outcomes_of, memory_after, memory_after_acts, client_after_acts}
use Rattle.spec_machine.specs.Answers.{if_answered, answered_group, READ_WRITE}
use Rattle.spec_machine.specs.Client as client
use Rattle.spec_machine.specs.Client.{Effect, NoEffect, client_after}
use Rattle.spec_machine.specs.Handles.{Handle}
use Rattle.sym_handles.specs.Kept.{Kept}
use Rattle.spec_machine.specs.Watches.{Watch}
use Rattle.notify_table.specs.Table.{WatchTable}
use Rattle.spec_machine.specs.Decisions.{Decision, Perform, Single, acts_in}
use Rattle.spec_machine.specs.Replies.{reply_payload, reply_in_forms, outcome_in_all}
use Rattle.spec_machine.specs.Requests.{plain_act, act_of}
use Rattle.spec_machine.specs.Sums.{SumRequest, given_in_turn}
use Rattle.spec_machine.specs.SumPackets.{acts_of, sum_of_group, decide_single, decide_read_write, decide_request}
use Rattle.spec_machine.specs.Writes.{Asker, may_control, control_act}
use Rattle.spec_machine.specs.HandleLaws.{AgreeingWatches}
use Rattle.spec_machine.specs.WatchedRanges.{is_same_watched}
use Rattle.spec_machine.proofs.PortBytesLemmas.{reads_states}
use Rattle.sum_commands.specs.Parts.{code_in}
use Rattle.port_device.specs.PortMemory.{PortMemory}
use Rattle.port_device.specs.Holds.{HoldsPort}
use Rattle.port_device.specs.Endings.{EndsAs}
use Rattle.session.specs.Asking.{Asking, act_asked, outcome_asked, after_act, asking_after}
use Rattle.session.specs.Asks.{Asks}
use Rattle.session.specs.Ends.{EndsAct}
use Rattle.session.specs.HandleGroups.{is_sum}
use Rattle.session.specs.Runs.{AsksSession, Runs, decision_of, ending_of, after_acts}
use Rattle.session.specs.SessionState.{SessionState}
use Rattle.session.specs.Single.{SameNotes}
use Rattle.session.specs.StandsFor.{StandsFor, KeptFor}
use Rattle.session.specs.Watching.{NotesFor, ChangesNotes, AddsAs, DeletesAs, AnswersNothing}
use Rattle.session.proofs.GrantLemmas.{IsIdle}
use Rattle.session.proofs.SumGroups.{IsNoSum}
use Rattle.session.proofs.SingleLemmas.{code-ends, not-zero, read-leaves}
use Rattle.session.proofs.WriteLemmas.{quiet-ends}
use Rattle.session.proofs.EffectLemmas.{IsOfHandles, same-notes, read-effect, write-effect, read_write-effect}

pub asks-of : (a : Asking) (m : PortMemory) (s : SessionState) → AsksSession a m s → Asks a m s.handles
asks-of a m s h = record { held = h.held; handles = h.stands.handles }

pub notes-of : (a : Asking) (m : PortMemory) (s : SessionState) → AsksSession a m s → NotesFor a.world.plant.ports a.client s.watches
notes-of a m s h = record { additions = h.stands.additions; watches = h.stands.watches }

-- a session whose handles stand for the client of another asking, which has the same notifications
pub rejoin : (a b : Asking) (m m' : PortMemory) (s s' : SessionState) → AsksSession a m s → Asks b m' s'.handles → SameNotes a.client b.client
    → b.world.plant ≡ a.world.plant → s'.watches ≡ s.watches → AsksSession b m' s'
rejoin a b m m' s s' h asks same plant_is watches_are =
    let own = h.stands in
    let W : List PlantPort → Type 0 = λ ports. AgreeingWatches (is_same_watched ports) a.client.watches s.watches.watches in
    let V : List (Watch (List Addressed)) → Type 0 = λ ws. AgreeingWatches (is_same_watched b.world.plant.ports) ws s.watches.watches in
    let T : WatchTable → Type 0 = λ t. AgreeingWatches (is_same_watched b.world.plant.ports) b.client.watches t.watches in
    record {
      held = asks.held;
      stands = record {
        handles = asks.handles;
        additions = ap (λ (t : WatchTable). t.additions) watches_are ∙ own.additions ∙ sym same.additions;
        watches = subst T (sym watches_are) (subst V (sym same.watches) (subst W (sym (ap (λ (p : Plant). p.ports) plant_is)) own.watches));
      };
    }

pub session-idle : (a : Asking) (act : Act) (m : PortMemory) (s : SessionState) → IsIdle act → AsksSession a m s → AsksSession (after_act a act) m s
unfolding memory_after_puts client_after
session-idle a (Refusal code) m s idle h = record { held = h.held; stands = h.stands }
session-idle a (Allowed access) m s idle h =
    let H : List Put → Type 0 = λ puts. HoldsPort (let w = a.world in record w { memory = memory_after_puts w.memory puts }) a.asker.port m in
    let K : Effect → Type 0 = λ e. StandsFor a.world.plant (client_after a.client e) s in
    record { held = subst H (sym idle.0) h.held; stands = subst K (sym idle.1) h.stands }

-- which decision

-- a request that is no sum
abbrev pub IsSingleRequest : Asking → Request → Type 0
IsSingleRequest a (ReadWrite group offset len bytes) = IsNoSum a.world.profile.manner group
IsSingleRequest a r = Unit {0}

no-sum : (g : Option Group) → is_sum g ≡ false → sum_of_group (option_and_then (if_answered READ_WRITE) g) ≡ None
no-sum (Some SumRead) is = absurd (false≢true (sym is))
no-sum (Some SumWrite) is = absurd (false≢true (sym is))
no-sum (Some SumReadWrite) is = absurd (false≢true (sym is))
no-sum g is = refl

one-act : (a : Asking) (r : Request) → decide_single (setup_of a.world) a.client a.asker r ≡ Perform (act_asked a r ∷ []) Single
unfolding acts_of given_in_turn
one-act a r = refl

pub single-decision : (a : Asking) (r : Request) → IsSingleRequest a r → decision_of a r ≡ Perform (act_asked a r ∷ []) Single
unfolding decide_request answered_group
single-decision a (ReadWrite group offset len bytes) h =
    let decided : Option (ℕ → List ℕ → SumRequest) → Decision =
    λ o. decide_read_write (setup_of a.world) a.client a.asker o group offset len bytes in
    ap (λ o. decided (option_or o (sum_of_group (option_and_then (if_answered READ_WRITE) (group_of group))))) h.no_more
    ∙ ap decided (no-sum (group_of group) h.no_group)
    ∙ one-act a (ReadWrite group offset len bytes)
single-decision a r h = one-act a r

pub runs-single : (a : Asking) (r : Request) (old new : List ℕ) (m : PortMemory) (s : SessionState) → IsSingleRequest a r
    → new ≡ old ++ reply_payload (command_of r) (outcome_asked a r) → AsksSession (asking_after a r) m s → Runs a r old new m s
unfolding outcomes_of outcome_in_all memory_after_acts client_after_acts
runs-single a r old new m s single is_reply after =
    let d : decision_of a r ≡ Perform (act_asked a r ∷ []) Single = single-decision a r single in
    let R : Decision → Type 0 = λ x. new ≡ old ++ reply_payload (command_of r) (ending_of x a.world.memory) in
    let A : Decision → Type 0 = λ x. AsksSession (after_acts a (acts_in x)) m s in
    record { reply = subst R (sym d) is_reply; after = subst A (sym d) after }

-- replies

-- the result of a Write alone, and the state words behind a result of 0

pub write-written : (number : ℕ) → written_bytes (reply.Write number) ≡ to_le_bytes w32 number
unfolding written_bytes
write-written number = elim (cases_Bool (number == 0)) [ inl t ↦ rw t (append-nil _) | inr t ↦ rw t (append-nil _) ]

pub state-written : (ads device : ℕ) → written_bytes (reply.ReadState 0 ads device) ≡ to_le_bytes w32 0 ++ (to_le_bytes w16 ads ++ to_le_bytes w16 device)
unfolding written_bytes
state-written ads device = refl

pub code-reply : (a : Asking) (r : Request) (old new : List ℕ) (form : ℕ → reply.Reply) (n : ℕ)
    → new ≡ old ++ written_bytes (form n) → n ≡ (outcome_asked a r).code
    → reply_payload (command_of r) (outcome_asked a r) ≡ written_bytes (form (outcome_asked a r).code)
    → new ≡ old ++ reply_payload (command_of r) (outcome_asked a r)
code-reply a r old new form n put is payload = put ∙ ap (λ k. old ++ written_bytes (form k)) is ∙ ap (λ x. old ++ x) (sym payload)

pub write-payload : (o : Outcome) → reply_payload 3 o ≡ written_bytes (reply.Write o.code)
unfolding reply_in_forms
write-payload o = refl

pub control-payload : (o : Outcome) → reply_payload 5 o ≡ written_bytes (reply.WriteControl o.code)
unfolding reply_in_forms
control-payload o = refl

pub delete-payload : (o : Outcome) → reply_payload 7 o ≡ written_bytes (reply.DeleteDeviceNotification o.code)
unfolding reply_in_forms
delete-payload o = refl

pub note-payload : (o : Outcome) → reply_payload 8 o ≡ written_bytes (reply.Write o.code)
unfolding reply_in_forms
note-payload o = refl

info-payload : (f : plant.Facts) → f.build < 2 ^ 16
    → reply_payload 1 (record { code = no_error; bytes = facts_bytes f }) ≡ written_bytes (reply.ReadDeviceInfo 0 f)
unfolding reply_in_forms
info-payload f fits =
    let same : number16 2 (facts_bytes f) ≡ f.build = from_le_bytes-to_le_bytes_2 f.build fits in
    ap (λ n. written_bytes (reply.ReadDeviceInfo 0 (record f { build = n }))) same

pub info-runs : (a : Asking) (m : PortMemory) (s : SessionState) (f : plant.Facts) (old new : List ℕ) → AsksSession a m s
    → f ≡ m.facts → f.build < 2 ^ 16 → new ≡ old ++ written_bytes (reply.ReadDeviceInfo 0 f) → Runs a ReadDeviceInfo old new m s
unfolding act_of plain_act
info-runs a m s f old new h is fits put =
    let same : f ≡ a.asker.port.facts = is ∙ h.held.facts ∙ sym (ap (λ (q : PlantPort). q.facts) h.held.plant) in
    let bytes : facts_bytes f ≡ facts_bytes a.asker.port.facts ++ [] = ap facts_bytes same ∙ sym (append-nil (facts_bytes a.asker.port.facts)) in
    runs-single a ReadDeviceInfo old new m s tt
    (put ∙ ap (λ x. old ++ x) (sym (info-payload f fits) ∙ ap (λ b. reply_payload 1 (record { code = no_error; bytes = b })) bytes))
    (session-idle a (act_asked a ReadDeviceInfo) m s (refl, refl) h)

state-payload : (ads device : ℕ) → ads < 2 ^ 16 → device < 2 ^ 16
    → reply_payload 4 (record { code = no_error; bytes = state_bytes ads device }) ≡ written_bytes (reply.ReadState 0 ads device)
unfolding reply_in_forms
state-payload ads device fits fits' =
    let one : number16 0 (state_bytes ads device) ≡ ads = from_le_bytes-to_le_bytes_2 ads fits in
    let two : number16 2 (state_bytes ads device) ≡ device = from_le_bytes-to_le_bytes_2 device fits' in
    ap (λ n. written_bytes (reply.ReadState 0 n (number16 2 (state_bytes ads device)))) one ∙ ap (λ n. written_bytes (reply.ReadState 0 ads n)) two

pub state-runs : (a : Asking) (m : PortMemory) (s : SessionState) (ads device : ℕ) (old new : List ℕ) → AsksSession a m s
    → ads ≡ m.bytes.ads → device ≡ m.bytes.device → ads < 2 ^ 16 → device < 2 ^ 16
    → new ≡ old ++ written_bytes (reply.ReadState 0 ads device) → Runs a ReadState old new m s
unfolding act_of plain_act
state-runs a m s ads device old new h is is' fits fits' put =
    let bytes : state_bytes ads device ≡ values_at a.world.memory (map WholeByte (state_names a.asker.port)) =
    ap (λ n. state_bytes n device) is ∙ ap (λ n. state_bytes m.bytes.ads n) is' ∙ sym (reads_states a.world.memory a.asker.port m.bytes h.held.holds) in
    runs-single a ReadState old new m s tt
    (put ∙ ap (λ x. old ++ x) (sym (state-payload ads device fits fits') ∙ ap (λ b. reply_payload 4 (record { code = no_error; bytes = b })) bytes))
    (session-idle a (act_asked a ReadState) m s (refl, refl) h)

pub note-runs : (a : Asking) (m : PortMemory) (s : SessionState) (bytes old new : List ℕ) → AsksSession a m s
    → new ≡ old ++ written_bytes (reply.Write 0) → Runs a (DeviceNotification bytes) old new m s
unfolding act_of plain_act
note-runs a m s bytes old new h put =
    runs-single a (DeviceNotification bytes) old new m s tt (put ∙ ap (λ x. old ++ x) (sym (note-payload (outcome_asked a (DeviceNotification bytes)))))
    (session-idle a (act_asked a (DeviceNotification bytes)) m s (refl, refl) h)

-- a number of a notification

zero-number : (code : Code)
    → written_bytes (reply.AddDeviceNotification (number_of code) (number32 0 [])) ≡ written_bytes (reply.AddDeviceNotification (number_of code) 0)
unfolding written_bytes
zero-number code = let n = number_of code in
    ap (λ b. if b then reply.reply_bytes (reply.AddDeviceNotification n (number32 0 [])) else reply.refused_bytes
    (reply.AddDeviceNotification n (number32 0 []))) (not-zero code)
    ∙ sym (ap (λ b. if b then reply.reply_bytes (reply.AddDeviceNotification n 0) else reply.refused_bytes (reply.AddDeviceNotification n 0)) (not-zero code))

added-payload : (o : Outcome) (n : ℕ) → n < 2 ^ 32 → o ≡ record { code = no_error; bytes = to_le_bytes w32 n }
    → reply_payload 6 o ≡ written_bytes (reply.AddDeviceNotification 0 n)
unfolding reply_in_forms
added-payload o n fits is =
    ap (λ x. reply_payload 6 x) is ∙ ap (λ k. written_bytes (reply.AddDeviceNotification 0 k)) (from_le_bytes-to_le_bytes_4 n fits)

unadded-payload : (o : Outcome) (code : Code) → o ≡ record { code = number_of code; bytes = [] }
    → reply_payload 6 o ≡ written_bytes (reply.AddDeviceNotification (number_of code) 0)
unfolding reply_in_forms
unadded-payload o code is = ap (λ x. reply_payload 6 x) is ∙ zero-number code

-- the world after an act that changes no byte is the world, and its handles are those of before
pub changed-asks : (a : Asking) (act : Act) (m : PortMemory) (kept : Kept) (t : WatchTable) → Asks a m kept → ChangesNotes a act t
    → Asks (after_act a act) m kept
changed-asks a act m kept t asks changes =
    let H : List Block → Type 0 = λ memory. HoldsPort (let w = a.world in record w { memory = memory }) a.asker.port m in
    let K : List (Handle client.Place) → Type 0 = λ handles. KeptFor a.world.plant.ports handles kept in
    record { held = subst H (sym changes.memory) asks.held; handles = subst K (sym changes.handles) asks.handles }

changed-session : (a : Asking) (act : Act) (m : PortMemory) (s : SessionState) (t : WatchTable) → AsksSession a m s → ChangesNotes a act t
    → AsksSession (after_act a act) m (record s { watches = t })
changed-session a act m s t h changes =
    let asks = changed-asks a act m s.handles t (asks-of a m s h) changes in
    record {
      held = asks.held;
      stands = record { handles = asks.handles; additions = changes.notes.additions; watches = changes.notes.watches };
    }

pub added-runs : (a : Asking) (group offset len mode delay cycle n : ℕ) (m : PortMemory) (s : SessionState) (t : WatchTable) (old new : List ℕ)
    → AsksSession a m s → n < 2 ^ 32
    → AddsAs a (act_asked a (AddDeviceNotification group offset len mode delay cycle)) (Ok n) t
    → new ≡ old ++ written_bytes (reply.AddDeviceNotification 0 n)
    → Runs a (AddDeviceNotification group offset len mode delay cycle) old new m (record s { watches = t })
added-runs a group offset len mode delay cycle n m s t old new h fits adds put =
    let r = AddDeviceNotification group offset len mode delay cycle in
    runs-single a r old new m (record s { watches = t }) tt (put ∙ ap (λ x. old ++ x) (sym (added-payload (outcome_asked a r) n fits adds.ends)))
    (changed-session a (act_asked a r) m s t h adds.changes)

pub unadded-runs : (a : Asking) (group offset len mode delay cycle : ℕ) (code : Code) (m : PortMemory) (s : SessionState) (t : WatchTable) (old new : List ℕ)
    → AsksSession a m s
    → AddsAs a (act_asked a (AddDeviceNotification group offset len mode delay cycle)) (Err code) t
    → new ≡ old ++ written_bytes (reply.AddDeviceNotification (number_of code) 0)
    → Runs a (AddDeviceNotification group offset len mode delay cycle) old new m (record s { watches = t })
unadded-runs a group offset len mode delay cycle code m s t old new h adds put =
    let r = AddDeviceNotification group offset len mode delay cycle in
    runs-single a r old new m (record s { watches = t }) tt (put ∙ ap (λ x. old ++ x) (sym (unadded-payload (outcome_asked a r) code adds.ends)))
    (changed-session a (act_asked a r) m s t h adds.changes)

pub nothing-code : (o : Outcome) (answer : Result (Unit {0}) Code) → AnswersNothing o answer → code_in answer ≡ o.code
nothing-code o (Ok done) h = sym (ap (λ (x : Outcome). x.code) h)
nothing-code o (Err code) h = sym (ap (λ (x : Outcome). x.code) h)

pub deleted-runs : (a : Asking) (handle n : ℕ) (answer : Result (Unit {0}) Code) (m : PortMemory) (s : SessionState) (t : WatchTable) (old new : List ℕ)
    → AsksSession a m s → DeletesAs a (act_asked a (DeleteDeviceNotification handle)) answer t → n ≡ code_in answer
    → new ≡ old ++ written_bytes (reply.DeleteDeviceNotification n) → Runs a (DeleteDeviceNotification handle) old new m (record s { watches = t })
deleted-runs a handle n answer m s t old new h deletes is put =
    let r = DeleteDeviceNotification handle in
    runs-single a r old new m (record s { watches = t }) tt
    (code-reply a r old new reply.DeleteDeviceNotification n put
    (is ∙ nothing-code (outcome_asked a r) answer deletes.ends) (delete-payload (outcome_asked a r)))
    (changed-session a (act_asked a r) m s t h deletes.changes)

-- what holds where a call is well, follows from what it says then
pub ok-then : {T E : Type 0} (r : Result T E) (P Q : Type 0) → (P → Q) → OnOk r P → OnOk r Q
ok-then (Ok x) P Q f h = f h
ok-then (Err e) P Q f h = tt

pub if_ok-then : {T E : Type 0} (r : Result T E) (P Q : T → Type 0) → ((x : T) → P x → Q x) → IfOk r P → IfOk r Q
if_ok-then (Ok x) P Q f h = f x h
if_ok-then (Err e) P Q f h = tt

pub write-runs : (a : Asking) (group offset n : ℕ) (bytes : List ℕ)
    (answer : Result (Unit {0}) Code) (m m' : PortMemory) (s s' : SessionState) (old new : List ℕ)
    → AsksSession a m s → EndsAct a (act_asked a (Write group offset bytes)) answer m' s'.handles → s'.watches ≡ s.watches → n ≡ code_in answer
    → new ≡ old ++ written_bytes (reply.Write n) → Runs a (Write group offset bytes) old new m' s'
write-runs a group offset n bytes answer m m' s s' old new h ends watches is put =
    let r = Write group offset bytes in
    let act = act_asked a r in
    runs-single a r old new m' s' tt
    (code-reply a r old new reply.Write n put (is ∙ code-ends (outcome_asked a r).code answer ends.code) (write-payload (outcome_asked a r)))
    (rejoin a (after_act a act) m m' s s' h ends.after (same-notes a.client (effect_of act) (write-effect a group offset bytes)) refl watches)

control-quiet : (k : Asker) (ads device : ℕ) → effect_of (control_act k ads device) ≡ NoEffect
unfolding control_act
control-quiet k ads device = go (may_control k.rights) ((ads == RUN) || (ads == STOP))
  where
    go : (b r : Bool) → effect_of (if not b then Refusal not_permitted
        else if r then writing (puts_of (map WholeByte (state_names k.port)) (state_bytes ads device)) else Refusal invalid_value) ≡ NoEffect
    go true true = refl
    go true false = refl
    go false r = refl

pub control-runs : (a : Asking) (ads device n : ℕ) (bytes : List ℕ) (answer : Result (Unit {0}) Code) (m m' : PortMemory) (s : SessionState) (old new : List ℕ)
    → AsksSession a m s → EndsAs a.world a.asker.port (control_act a.asker ads device) answer m' → n ≡ code_in answer
    → new ≡ old ++ written_bytes (reply.WriteControl n) → Runs a (WriteControl ads device bytes) old new m' s
unfolding act_of plain_act
control-runs a ads device n bytes answer m m' s old new h ends is put =
    let r = WriteControl ads device bytes in
    let act = act_asked a r in
    let quiet = control-quiet a.asker ads device in
    let ended : EndsAct a act answer m' s.handles = quiet-ends a act answer m m' s.handles (asks-of a m s h) quiet ends in
    runs-single a r old new m' s tt
    (code-reply a r old new reply.WriteControl n put (is ∙ code-ends (outcome_asked a r).code answer ends.code) (control-payload (outcome_asked a r)))
    (rejoin a (after_act a act) m m' s s h ended.after (same-notes a.client (effect_of act) (subst IsOfHandles (sym quiet) tt)) refl refl)

pub read-runs : (a : Asking) (group offset len : ℕ) (m : PortMemory) (s : SessionState) (old new : List ℕ) → AsksSession a m s
    → new ≡ old ++ reply_payload 2 (outcome_asked a (Read group offset len)) → Runs a (Read group offset len) old new m s
read-runs a group offset len m s old new h is_reply =
    let r = Read group offset len in
    runs-single a r old new m s tt is_reply
    (rejoin a (asking_after a r) m m s s h (read-leaves a group offset len m s.handles (asks-of a m s h))
    (same-notes a.client (effect_of (act_asked a r)) (read-effect a group offset len)) refl refl)

pub read_write-runs : (a : Asking) (group offset len : ℕ) (bytes : List ℕ) (m : PortMemory) (s s' : SessionState) (old new : List ℕ) → AsksSession a m s
    → IsNoSum a.world.profile.manner group → s'.watches ≡ s.watches
    → new ≡ old ++ reply_payload 9 (outcome_asked a (ReadWrite group offset len bytes))
    → Asks (asking_after a (ReadWrite group offset len bytes)) m s'.handles
    → Runs a (ReadWrite group offset len bytes) old new m s'
read_write-runs a group offset len bytes m s s' old new h no_sum watches is_reply leaves =
    let r = ReadWrite group offset len bytes in
    runs-single a r old new m s' no_sum is_reply
    (rejoin a (asking_after a r) m m s s' h leaves (same-notes a.client (effect_of (act_asked a r)) (read_write-effect a group offset len bytes)) refl watches)

pub ok-both : {T E : Type 0} (r : Result T E) (P R Q : Type 0) → (P → R → Q) → OnOk r P → OnOk r R → OnOk r Q
ok-both (Ok x) P R Q f h k = f h k
ok-both (Err e) P R Q f h k = tt
