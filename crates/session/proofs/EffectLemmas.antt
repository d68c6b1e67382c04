-- Reads and writes, single or parts of a sum, change no notification of their client.
use Rattle.std.proofs.Common.{ℕ, List, length, true, false, refl, sym, ◌∙◌, subst}
use Rattle.std.specs.Prelude.{Bool, Option, Some, None, Result, not, ◌==◌, ◌||◌, nat_lt, nat_le, if◌then◌else◌}
use Rattle.std.specs.Int.{w32, to_le_bytes}
use Rattle.std.proofs.Common.{◌+◌, []}
use Rattle.spec_plant.specs.Finding.{Found, found_of}
use Rattle.spec_plant.specs.World.{PlantPort}
use Rattle.spec_formats.specs.Codes.{not_permitted, general_device_error, invalid_size, symbol_not_found}
use Rattle.spec_formats.specs.Groups.{Group, AreaBytes, AreaBit, ValueByHandle, ReleaseHandle, HandleByName}
use Rattle.spec_formats.specs.Numbers.{number32}
use Rattle.spec_formats.specs.Request.{Read, Write, ReadWrite}
use Rattle.spec_machine.specs.World.{Setup, setup_of}
use Rattle.spec_machine.specs.MoreActs.{type_act, more_read_write}
use Rattle.spec_machine.proofs.MoreActs.{of_more, read_write-more}
use Rattle.spec_machine.specs.Acts.{Act, Refusal, Allowed, changing, effect_of}
use Rattle.spec_machine.specs.Answers.{answered_group}
use Rattle.spec_machine.specs.ByName.{MAX_LIVE, MAX_NUMBER, place_of, grant_act, if_found, read_write_group}
use Rattle.spec_machine.specs.Client.{Place, Client, Effect, NoEffect, Grants, Releases, Adds, Deletes, client_after}
use Rattle.spec_machine.specs.Handles.{live_count, kept_status}
use Rattle.spec_machine.specs.Reach.{reach_of}
use Rattle.spec_machine.specs.Requests.{plain_act, act_of}
use Rattle.spec_machine.specs.Writes.{Asker, may_write, is_releasable, release_act, write_act, write_group}
use Rattle.spec_machine.specs.Access.{Addressed}
use Rattle.port_device.specs.Groups.{without_handles}
use Rattle.session.specs.Asking.{Asking, act_asked}
use Rattle.spec_machine.specs.HandleLaws.{AgreeingWatches}
use Rattle.spec_machine.specs.WatchedRanges.{is_same_watched}
use Rattle.spec_machine.specs.Watches.{Watch}
use Rattle.notify_table.specs.Table.{WatchTable}
use Rattle.session.specs.Single.{SameNotes}
use Rattle.session.specs.Watching.{NotesFor}
use Rattle.session.proofs.GrantLemmas.{IsIdle, port-idle, type_act-idle}
use Rattle.session.proofs.SingleLemmas.{read-act-idle}
use Rattle.session.proofs.WriteLemmas.{permitted-quiet}

-- of the handles alone, if of anything
abbrev pub IsOfHandles : Effect → Type 0
IsOfHandles NoEffect = Unit {0}
IsOfHandles (Grants port place) = Unit {0}
IsOfHandles (Releases handle) = Unit {0}
IsOfHandles (Adds w) = ⊥
IsOfHandles (Deletes handle) = ⊥

pub same-notes : (c : Client) (e : Effect) → IsOfHandles e → SameNotes c (client_after c e)
unfolding client_after
same-notes c NoEffect h = record { additions = refl; watches = refl }
same-notes c (Grants port place) h = record { additions = refl; watches = refl }
same-notes c (Releases handle) h = record { additions = refl; watches = refl }
same-notes c (Adds w) h = absurd h
same-notes c (Deletes handle) h = absurd h

-- what is kept of notifications stands for those of a client who has the same
pub notes-kept : (ports : List PlantPort) (c next : Client) (t : WatchTable) → NotesFor ports c t → SameNotes c next → NotesFor ports next t
notes-kept ports c next t notes same =
    let V : List (Watch (List Addressed)) → Type 0 = λ ws. AgreeingWatches (is_same_watched ports) ws t.watches in
    record { additions = notes.additions ∙ sym same.additions; watches = subst V (sym same.watches) notes.watches }

idle-effect : (act : Act) → IsIdle act → IsOfHandles (effect_of act)
idle-effect (Refusal code) idle = tt
idle-effect (Allowed access) idle = subst IsOfHandles (sym idle.1) tt

permitted-effect : (k : Asker) (b : Bool) (bytes : List ℕ) (r : Result (List Addressed) ℕ)
    → IsOfHandles (effect_of (if not b then Refusal not_permitted else write_act k bytes r))
permitted-effect k b bytes r = subst IsOfHandles (sym (permitted-quiet k b bytes r)) tt

pub read-effect : (a : Asking) (group offset len : ℕ) → IsOfHandles (effect_of (act_asked a (Read group offset len)))
read-effect a group offset len = idle-effect (act_asked a (Read group offset len)) (read-act-idle a group offset len)

release-effect : (c : Client) (p : PlantPort) (bytes : List ℕ) → IsOfHandles (effect_of (release_act c p bytes))
release-effect c p bytes = go (length bytes == 4) (is_releasable (kept_status c.handles (number32 0 bytes) p.number))
  where
    go : (b r : Bool) → IsOfHandles
        (effect_of (if not b then Refusal invalid_size else if r then changing [] (Releases (number32 0 bytes)) else Refusal symbol_not_found))
    go true true = tt
    go true false = tt
    go false r = tt

group-effect : (c : Client) (k : Asker) (g : Option Group) (offset : ℕ) (bytes : List ℕ) → IsOfHandles (effect_of (write_group c k g offset bytes))
unfolding write_group
group-effect c k None offset bytes = tt
group-effect c k (Some ReleaseHandle) offset bytes = release-effect c k.port bytes
group-effect c k (Some (AreaBytes area)) offset bytes =
    permitted-effect k (may_write k.rights) bytes (reach_of c k.port (Some (AreaBytes area)) offset (length bytes))
group-effect c k (Some (AreaBit area)) offset bytes =
    permitted-effect k (may_write k.rights) bytes (reach_of c k.port (Some (AreaBit area)) offset (length bytes))
group-effect c k (Some ValueByHandle) offset bytes =
    permitted-effect k (may_write k.rights) bytes (reach_of c k.port (Some ValueByHandle) offset (length bytes))
group-effect c k (Some g) offset bytes = tt

pub write-effect : (a : Asking) (group offset : ℕ) (bytes : List ℕ) → IsOfHandles (effect_of (act_asked a (Write group offset bytes)))
unfolding act_of plain_act
write-effect a group offset bytes = group-effect a.client a.asker (answered_group _ group) offset bytes

grant-effect : (c : Client) (p : PlantPort) (place : Place) → IsOfHandles (effect_of (grant_act c p place))
grant-effect c p place = go (nat_le MAX_LIVE (live_count c.handles) || nat_le MAX_NUMBER (length c.handles))
  where
    go : (b : Bool) → IsOfHandles
        (effect_of (if b then Refusal general_device_error else changing (to_le_bytes w32 (length c.handles + 1)) (Grants p.number place)))
    go true = tt
    go false = tt

found-effect : (c : Client) (p : PlantPort) (o : Option Found) → IsOfHandles (effect_of (if_found o (λ f. grant_act c p (place_of f))))
found-effect c p None = tt
found-effect c p (Some f) = grant-effect c p (place_of f)

least-effect : (b : Bool) (act : Act) → IsOfHandles (effect_of act) → IsOfHandles (effect_of (if b then Refusal invalid_size else act))
least-effect true act h = tt
least-effect false act h = h

named-effect : (d : Setup) (c : Client) (p : PlantPort) (g : Option Group) (len : ℕ) (name : List ℕ)
    → IsOfHandles (effect_of (read_write_group d c p g len name))
unfolding read_write_group
named-effect d c p (Some HandleByName) len name =
    least-effect (nat_lt len 4) (if_found (found_of p.symbols name) (λ f. grant_act c p (place_of f))) (found-effect c p (found_of p.symbols name))
named-effect d c p (Some ValueByHandle) len name = tt
named-effect d c p g len name = idle-effect (read_write_group d c p (without_handles g) len name) (port-idle d c p g len name)

pub read_write-effect : (a : Asking) (group offset len : ℕ) (bytes : List ℕ) → IsOfHandles (effect_of (act_asked a (ReadWrite group offset len bytes)))
unfolding act_of plain_act
read_write-effect a group offset len bytes =
    let d = setup_of a.world in
    let P : Act → Type 0 = λ act. IsOfHandles (effect_of act) in
    of_more P (more_read_write d.profile.manner d group len bytes) _
    (read_write-more P d.profile.manner d group len bytes (idle-effect (type_act d.plant len bytes) (type_act-idle d.plant len bytes)))
    (named-effect d a.client a.asker.port (answered_group _ group) _ _)
