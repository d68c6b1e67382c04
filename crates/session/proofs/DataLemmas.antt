-- Reads of data and of values by their handles, whose bytes are known before their frame is begun.
use Rattle.std.proofs.Common.{◌≡◌, ◌+◌, ◌≤◌, ℕ, List, [], ◌++◌, map, true, false, refl, sym, ◌∙◌, ap, subst, inl, inr}
use Rattle.std.specs.Prelude.{◌==◌, Option, Some, None, IfSome, Ok, option_and_then}
use Rattle.std.specs.Borrow.{Bor}
use Rattle.std.proofs.Math.Nat.{min-eq_left}
use Rattle.std.proofs.lemmas.Bool.{cases_Bool, eqb-true, false≢true}
use Rattle.spec_plant.specs.Description.{Area, Process, size_in}
use Rattle.spec_plant.specs.World.{PlantPort}
use Rattle.spec_formats.specs.Codes.{no_error}
use Rattle.spec_formats.specs.Groups.{AreaBytes, group_of, group_in, process_bytes}
use Rattle.spec_formats.specs.Header.{AmsHeader}
use Rattle.spec_formats.specs.Ranges.{Bytes, range_in, range_of}
use Rattle.spec_formats.specs.Request.{Request, Read}
use Rattle.spec_frames.specs.Frame.{frame_bytes}
use Rattle.spec_machine.specs.Access.{WholeByte, values_at}
use Rattle.spec_machine.specs.Acts.{Act}
use Rattle.spec_machine.specs.Answers.{answered_group, if_answered, READ}
use Rattle.spec_machine.specs.Client as client
use Rattle.spec_machine.specs.Client.{Client}
use Rattle.spec_machine.specs.Handles.{HandleStatus, Never, Released, Outdated, Live, kept_status}
use Rattle.spec_machine.specs.MoreActs.{device_data}
use Rattle.spec_machine.specs.Manner.{Manner, Strict, Wide}
use Rattle.spec_machine.specs.Meanings.{len_by_handle, read_len_in}
use Rattle.spec_machine.specs.Reach.{addressed_by_range, addressed_by_status, reach_of}
use Rattle.spec_machine.specs.Reads.{read_act, read_group}
use Rattle.spec_machine.specs.Replies.{response_packet, reply_payload}
use Rattle.spec_machine.specs.World.{World, Setup, setup_of, names_at}
use Rattle.sym_handles.specs.Kept.{Kept}
use Rattle.port_device.specs.Answers.{AnswersAct, IsNamed, place_read_act}
use Rattle.port_device.proofs.PlaceLemmas.{place_bytes}
use Rattle.symbol_table.specs.declared.place.Place.{Place}
use Rattle.type_layout.specs.Descriptions.{area_of}
use Rattle.port_device.specs.Groups.{without_handles}
use Rattle.port_device.specs.Holds.{HoldsPort}
use Rattle.port_device.specs.PortMemory.{PortMemory}
use Rattle.session.specs.Asking.{Asking, act_asked, meant_in, outcome_asked, plain_asked}
use Rattle.session.specs.Asks.{Asks, LooksUp, SomeAsks}
use Rattle.session.specs.HandleGroups.{is_value_by_handle, reads_states}
use Rattle.session.specs.Plain.{RunsWhole, data_payload}
use Rattle.session.specs.Runs.{AsksSession}
use Rattle.session.specs.SessionState.{SessionState}
use Rattle.session.proofs.OwnLemmas.{data-is-no-state, meant-asked}
use Rattle.session.proofs.MeaningLemmas.{len-held, read-is-meant}
use Rattle.session.proofs.ReadLemmas.{read-by-handle, read-by-port}
use Rattle.session.proofs.ReplyLemmas.{read-payload}
use Rattle.session.proofs.RunLemmas.{read-runs}
use Rattle.session.proofs.ValueLemmas.{LookedUp, looked-by, read-live}
use Rattle.session.proofs.WatchedReach.{live_in_area}

of-data : group_of process_bytes ≡ Some (AreaBytes Process)
unfolding group_of group_in
of-data = refl

-- a Read of data is taken as it is written
data-len : (manner : Manner) (c : Client) (p : PlantPort) (offset len : ℕ) → read_len_in manner c p (answered_group READ process_bytes) offset len ≡ len
unfolding answered_group
data-len Strict c p offset len = refl
data-len Wide c p offset len = ap (λ g. len_by_handle c p (option_and_then (if_answered READ) g) offset len) of-data

data-meant : (a : Asking) (offset len : ℕ) → meant_in a (Read process_bytes offset len) ≡ Read process_bytes offset len
data-meant a offset len = ap (λ n. Read process_bytes offset n) (data-len a.world.profile.manner a.client a.asker.port offset len)

-- the plant's sizes are the table's
same-sizes : (w : World) (p : PlantPort) (m : PortMemory) → HoldsPort w p m → p.sizes ≡ m.table.sizes
same-sizes w p m h = ap (λ (q : PlantPort). q.sizes) h.plant ∙ sym (ap (λ t. t.sizes) h.table.same)

data-group : (d : Setup) (c : Client) (w : World) (p : PlantPort) (m : PortMemory) (offset len at n : ℕ) (area : Area) → HoldsPort w p m
    → range_of m.table.sizes process_bytes offset len ≡ Ok (Bytes area at n)
    → read_group d c p (without_handles (group_of process_bytes)) offset len ≡ read_act (Ok (map WholeByte (names_at p area at n)))
unfolding read_group reach_of range_of
data-group d c w p m offset len at n area held rule =
    ap (λ g. read_group d c p (without_handles g) offset len) of-data
    ∙ ap (λ q. read_act (addressed_by_range p q)) (ap (λ s. range_in (Some (AreaBytes Process)) s offset len) (same-sizes w p m held)
    ∙ sym (ap (λ g. range_in g m.table.sizes offset len) of-data) ∙ rule)

data-act : (a : Asking) (m : PortMemory) (kept : Kept) (offset len at n : ℕ) (area : Area) → Asks a m kept
    → range_of m.table.sizes process_bytes offset len ≡ Ok (Bytes area at n)
    → act_asked a (Read process_bytes offset len) ≡ read_act (Ok (map WholeByte (names_at a.asker.port area at n)))
data-act a m kept offset len at n area asks rule =
    meant-asked a m kept process_bytes offset len asks (data-is-no-state m.manner process_bytes refl)
    ∙ ap (plain_asked a) (data-meant a offset len)
    ∙ read-by-port a process_bytes offset len (ap is_value_by_handle of-data)
    ∙ data-group (setup_of a.world) a.client a.world a.asker.port m offset len at n area asks.held rule

-- the bytes at the range answer it
pub data-answered : (a : Asking) (m : PortMemory) (kept : Kept) (group offset len at n : ℕ) (area : Area) (bytes : List ℕ)
    → Asks a m kept → group ≡ process_bytes
    → range_of m.table.sizes process_bytes offset len ≡ Ok (Bytes area at n)
    → bytes ≡ values_at a.world.memory (map WholeByte (names_at a.asker.port area at n))
    → AnswersAct a.world (act_asked a (Read group offset len)) (Ok tt) [] bytes
data-answered a m kept group offset len at n area bytes asks is rule read =
    let G : ℕ → Type 0 = λ g. AnswersAct a.world (act_asked a (Read g offset len)) (Ok tt) [] bytes in
    let A : Act → Type 0 = λ x. AnswersAct a.world x (Ok tt) [] bytes in
    subst G (sym is) (subst A (sym (data-act a m kept offset len at n area asks rule)) (refl, read))

-- the group of values by their handles is none of the state words
handle-is-no-state : (x : Manner) (group : ℕ) → is_value_by_handle (group_of group) ≡ true → reads_states x group ≡ false
unfolding group_of group_in
handle-is-no-state Strict group is = refl
handle-is-no-state Wide group is = elim (cases_Bool (group == device_data)) [
  | inl t ↦ absurd (false≢true (subst (λ (n : ℕ). is_value_by_handle (group_of n) ≡ true) (eqb-true group device_data t) is))
  | inr f ↦ f
]

-- a Read of a value that has so many bytes is taken as it is written
value-len : (manner : Manner) (a : Asking) (group handle len : ℕ) (place : Place) → is_value_by_handle (group_of group) ≡ true
    → LooksUp a.world.plant.ports a.asker.port.number (kept_status a.client.handles handle a.asker.port.number) (Ok place) → len ≤ place.len
    → len ≡ read_len_in manner a.client a.asker.port (answered_group READ group) handle len
value-len Strict a group handle len place is looks few = refl
value-len Wide a group handle len place is looks few = sym (min-eq_left few) ∙ len-held a group handle len place is looks

value-act : (a : Asking) (m : PortMemory) (kept : Kept) (group handle len : ℕ) (place : Place) → Asks a m kept → is_value_by_handle (group_of group) ≡ true
    → LooksUp a.world.plant.ports a.asker.port.number (kept_status a.client.handles handle a.asker.port.number) (Ok place) → len ≤ place.len
    → act_asked a (Read group handle len)
    ≡ read_act (addressed_by_status a.asker.port.number (kept_status a.client.handles handle a.asker.port.number) len)
value-act a m kept group handle len place asks is looks few =
    meant-asked a m kept group handle len asks (handle-is-no-state m.manner group is)
    ∙ ap (plain_asked a) (sym (read-is-meant a group handle len len (value-len a.world.profile.manner a group handle len place is looks few)))
    ∙ read-by-handle a group handle len is

-- the bytes at a place answer a Read of it
place-answered : (w : World) (p : PlantPort) (m : PortMemory) (place : Place) (named : client.Place) (len : ℕ) (bytes : List ℕ) → HoldsPort w p m
    → IsNamed w p place named → len ≤ place.len → bytes ≡ values_at w.memory (map WholeByte (names_at p (area_of place.area) place.«at» len))
    → AnswersAct w (place_read_act p named len) (Ok tt) [] bytes
place-answered w p m place named len bytes held is few read =
    subst (λ o. AnswersAct w (read_act o) (Ok tt) [] bytes) (sym (place_bytes w p m place named len held is few)) (refl, read)

-- and so the Read by its handle
pub value-answered : (a : Asking) (m : PortMemory) (kept : Kept) (number group handle len : ℕ) (place : Place) (bytes : List ℕ) → Asks a m kept
    → number ≡ m.number → is_value_by_handle (group_of group) ≡ true → LookedUp number handle kept (Ok place) → len ≤ place.len
    → ((w : World) (p : PlantPort) → HoldsPort w p m → bytes ≡ values_at w.memory (map WholeByte (names_at p (area_of place.area) place.«at» len)))
    → AnswersAct a.world (act_asked a (Read group handle len)) (Ok tt) [] bytes
value-answered a m kept number group handle len place bytes asks is_number is looked few read =
    let looks = looked-by a m kept number handle (Ok place) asks is_number looked in
    subst (λ (x : Act). AnswersAct a.world x (Ok tt) [] bytes) (sym (value-act a m kept group handle len place asks is looks few))
    (read-live a.world a.asker.port m place len (kept_status a.client.handles handle a.asker.port.number) (Ok tt) [] bytes asks.held looks
    (λ v q named held named_is. place-answered v q m place named len bytes held named_is few (read v q held)))

-- the place of a live handle lies in its area
live-fits : (w : World) (p : PlantPort) (m : PortMemory) (place : Place) (s : HandleStatus client.Place) → HoldsPort w p m
    → LooksUp w.plant.ports p.number s (Ok place) → place.«at» + place.len ≤ size_in m.table.sizes (area_of place.area)
live-fits w p m place (Live named) held looks =
    subst (λ s. place.«at» + place.len ≤ size_in s (area_of place.area)) (same-sizes w p m held) (live_in_area w p m place named held looks).ends
live-fits w p m place Never held looks = absurd looks
live-fits w p m place Released held looks = absurd looks
live-fits w p m place Outdated held looks = absurd looks

pub place-fits : (m : PortMemory) (kept : Kept) (number handle : ℕ) (place : Place) → SomeAsks m kept → number ≡ m.number
    → LookedUp number handle kept (Ok place) → place.«at» + place.len ≤ size_in m.table.sizes (area_of place.area)
place-fits m kept number handle place some is looked =
    let a = some.asking in
    live-fits a.world a.asker.port m place (kept_status a.client.handles handle a.asker.port.number) some.asks.held
    (looked-by a m kept number handle (Ok place) some.asks is looked)

-- what is said of bytes that are lent, for every client who asks
pub lent-to : (m : PortMemory) (kept : Kept) (r : Request) (lent : Option (Bor (List ℕ)))
    → IfSome lent (λ bytes. (a : Asking) (k : Kept) → Asks a m k → AnswersAct a.world (act_asked a r) (Ok tt) [] bytes.now)
    → IfSome lent (λ bytes. (a : Asking) → Asks a m kept → AnswersAct a.world (act_asked a r) (Ok tt) [] bytes.now)
lent-to m kept r None said = tt
lent-to m kept r (Some bytes) said = λ a asks. said a kept asks

-- a Read of data is answered so
pub data-whole : (a : Asking) (h : AmsHeader) (r : Request) (group offset len : ℕ) (m : PortMemory) (s : SessionState) (bytes old new : List ℕ)
    → AsksSession a m s → Read group offset len ≡ r → AnswersAct a.world (act_asked a (Read group offset len)) (Ok tt) [] bytes
    → new ≡ old ++ frame_bytes (response_packet h no_error (data_payload no_error bytes)) → RunsWhole a h r old new m s
data-whole a h r group offset len m s bytes old new asks meant answers is =
    let o = outcome_asked a (Read group offset len) in
    let payload : data_payload no_error bytes ≡ reply_payload 2 o =
    ap (λ n. data_payload n bytes) (sym answers.0) ∙ ap (data_payload o.code) answers.1
    ∙ sym (read-payload a.world.memory (act_asked a (Read group offset len))) in
    let runs = read-runs a group offset len m s [] (reply_payload 2 o) asks refl in
    let R : Request → Type 0 = λ x. RunsWhole a h x old new m s in
    subst R meant (record {
      framed = is ∙ ap (λ x. old ++ frame_bytes (response_packet h no_error x)) (payload ∙ runs.reply);
      after = runs.after;
    })
