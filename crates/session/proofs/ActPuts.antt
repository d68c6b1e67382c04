-- What a request puts lies at the port that is asked.
use Rattle.std.proofs.Common.{◌≡◌, ℕ, ◌+◌, List, [], ◌∷◌, length, map, true, false, refl, sym, subst}
use Rattle.std.specs.Prelude.{Bool, Option, Some, None, Result, Ok, Err, IfOk, not, ◌==◌, ◌||◌, nat_lt, nat_le, if◌then◌else◌}
use Rattle.std.specs.List.{list_any}
use Rattle.spec_plant.specs.Finding.{Found, found_of}
use Rattle.spec_plant.specs.World.{PlantPort, SymbolPart}
use Rattle.spec_plant.specs.Sound.{Each}
use Rattle.spec_formats.specs.Codes.{general_device_error, not_permitted, invalid_value, invalid_size}
use Rattle.spec_formats.specs.Codes.{symbol_not_found, no_more_notifications, watch_too_big}
use Rattle.spec_formats.specs.Codes.{notification_handle_invalid}
use Rattle.spec_formats.specs.Numbers.{number32}
use Rattle.spec_formats.specs.Groups.{Group, AreaBytes, AreaBit, ValueByHandle, ReleaseHandle, HandleByName}
use Rattle.spec_formats.specs.Ranges.{Range, Bytes, Bit, Size, range_in}
use Rattle.spec_formats.specs.Request.{Request, ReadDeviceInfo, Read, Write, ReadState, WriteControl}
use Rattle.spec_formats.specs.Request.{AddDeviceNotification, DeleteDeviceNotification, DeviceNotification}
use Rattle.spec_formats.specs.Request.{ReadWrite}
use Rattle.spec_machine.specs.World.{Setup, numbers_from, state_names, state_bytes, RUN, STOP}
use Rattle.spec_machine.specs.Access.{Addressed, WholeByte, addressed_name, Put, puts_of}
use Rattle.spec_machine.specs.Acts.{Act, Refusal, Allowed, writing, changing}
use Rattle.spec_machine.specs.Reads.{read_act, read_group}
use Rattle.std.specs.Int.{w32, to_le_bytes}
use Rattle.port_device.specs.Groups.{without_handles}
use Rattle.spec_machine.specs.Answers.{answered_group, READ, WRITE, ADD_DEVICE_NOTIFICATION, READ_WRITE}
use Rattle.spec_machine.specs.ByName.{MAX_LIVE, MAX_NUMBER, place_of, grant_act, if_found, read_write_group}
use Rattle.spec_machine.specs.Decisions.{acts_in}
use Rattle.spec_machine.specs.Watches.{Mode}
use Rattle.spec_machine.specs.Client.{Client, Place, names_of_place, Grants, Releases, Adds, Deletes}
use Rattle.spec_machine.specs.Handles.{HandleStatus, Never, Released, Outdated, Live, kept_status, live_count}
use Rattle.spec_machine.specs.Reach.{addressed_by_range, addressed_by_status, addressed_in_place, reach_of}
use Rattle.spec_machine.specs.Meanings.{meant_by}
use Rattle.spec_machine.specs.MoreActs.{type_act, states_reach, version_reach}
use Rattle.spec_machine.proofs.MoreActs.{act-cases}
use Rattle.spec_machine.specs.Requests.{MAX_WATCHED, MAX_WATCHES, mode_of, next_watch, add_watch, add_reached, add_of_reach, add_act}
use Rattle.spec_machine.specs.Requests.{is_watch_of, delete_act, plain_act, act_of}
use Rattle.spec_machine.specs.Sums.{SumRequest, given_in_turn}
use Rattle.spec_machine.specs.SumPackets.{acts_of, client_after_request, known_sum, decide_parts, decide_read_write, decide_request}
use Rattle.spec_machine.specs.WorldBytes.{AreAtPort}
use Rattle.spec_machine.specs.Writes.{Asker, may_write, may_control, are_writable, is_releasable, write_act, release_act, write_group, control_act}
use Rattle.spec_machine.proofs.AreaNames.{names_are_of_areas}
use Rattle.spec_machine.proofs.WorldBytes.{areas_are_at_their_ports}
use Rattle.session.proofs.GrantLemmas.{IsIdle, port-idle, type_act-idle}
use Rattle.session.proofs.SingleLemmas.{reached-idle, read-idle}
use Rattle.session.proofs.OtherPorts.{PutsAt, PutAllAt}

puts-at : (port : ℕ) (places : List Addressed) (values : List ℕ) → AreAtPort port places
    → Each (λ (u : Put). (addressed_name u.place).port ≡ port) (puts_of places values)
puts-at port [] values h = tt
puts-at port (a ∷ as_) [] h = tt
puts-at port (a ∷ as_) (b ∷ bs) h = (h.0, puts-at port as_ bs h.1)

place-at : (port : ℕ) (symbol : List ℕ) (ks : List ℕ)
    → AreAtPort port (map WholeByte (map (λ k. record { port = port; part = SymbolPart symbol; index = k }) ks))
place-at port symbol [] = tt
place-at port symbol (k ∷ ks) = (refl, place-at port symbol ks)

range-at : (p : PlantPort) (r : Result Range ℕ) → IfOk (addressed_by_range p r) (AreAtPort p.number)
range-at p (Err code) = tt
range-at p (Ok (Bytes area offset len)) = areas_are_at_their_ports p area offset len
range-at p (Ok (Bit area offset bit)) = ((names_are_of_areas p area offset).port, tt)
range-at p (Ok (Size area)) = tt

in-place-at : (port : ℕ) (place : Place) (len : ℕ) → IfOk (addressed_in_place port place len) (AreAtPort port)
in-place-at port place len = go (nat_lt place.len len)
  where
    go : (b : Bool) → IfOk {T = List Addressed} {E = ℕ} (if b then Err invalid_size else Ok (map WholeByte (names_of_place port place len))) (AreAtPort port)
    go true = tt
    go false = place-at port place.symbol (numbers_from place.first len)

status-at : (port len : ℕ) (s : HandleStatus Place) → IfOk (addressed_by_status port s len) (AreAtPort port)
status-at port len Never = tt
status-at port len Released = tt
status-at port len Outdated = tt
status-at port len (Live place) = in-place-at port place len

reach-at : (c : Client) (p : PlantPort) (g : Option Group) (offset len : ℕ) → IfOk (reach_of c p g offset len) (AreAtPort p.number)
unfolding reach_of
reach-at c p (Some (AreaBytes area)) offset len = range-at p (range_in (Some (AreaBytes area)) p.sizes offset len)
reach-at c p (Some (AreaBit area)) offset len = range-at p (range_in (Some (AreaBit area)) p.sizes offset len)
reach-at c p (Some ValueByHandle) offset len = status-at p.number len (kept_status c.handles offset p.number)
reach-at c p g offset len = tt

write-at : (k : Asker) (bytes : List ℕ) (r : Result (List Addressed) ℕ) → IfOk r (AreAtPort k.port.number) → PutsAt k.port.number (write_act k bytes r)
write-at k bytes (Err code) h = tt
write-at k bytes (Ok places) h = go (are_writable k.address.net k.port places)
  where
    go : (b : Bool) → PutsAt k.port.number (if b then writing (puts_of places bytes) else Refusal not_permitted)
    go true = puts-at k.port.number places bytes h
    go false = tt

permitted-at : (port : ℕ) (b : Bool) (act : Act) → PutsAt port act → PutsAt port (if not b then Refusal not_permitted else act)
permitted-at port true act h = h
permitted-at port false act h = tt

-- an act that writes nothing
abbrev WritesNothing : Act → Type 0
WritesNothing (Refusal code) = Unit {0}
WritesNothing (Allowed access) = access.writes ≡ []

nothing-at : (port : ℕ) (act : Act) → WritesNothing act → PutsAt port act
nothing-at port (Refusal code) h = tt
nothing-at port (Allowed access) h = let P : List Put → Type 0 = λ us. Each (λ (u : Put). (addressed_name u.place).port ≡ port) us in subst P (sym h) tt

idle-nothing : (act : Act) → IsIdle act → WritesNothing act
idle-nothing (Refusal code) h = tt
idle-nothing (Allowed access) h = h.0

if-nothing : (b : Bool) (x y : Act) → WritesNothing x → WritesNothing y → WritesNothing (if b then x else y)
if-nothing true x y h k = h
if-nothing false x y h k = k

release-nothing : (c : Client) (p : PlantPort) (bytes : List ℕ) → WritesNothing (release_act c p bytes)
release-nothing c p bytes = if-nothing (not (length bytes == 4)) (Refusal invalid_size)
    (if is_releasable (kept_status c.handles (number32 0 bytes) p.number) then changing [] (Releases (number32 0 bytes)) else Refusal symbol_not_found) tt
    (if-nothing (is_releasable (kept_status c.handles (number32 0 bytes) p.number))
    (changing [] (Releases (number32 0 bytes))) (Refusal symbol_not_found) refl tt)

group-at : (c : Client) (k : Asker) (g : Option Group) (offset : ℕ) (bytes : List ℕ) → PutsAt k.port.number (write_group c k g offset bytes)
unfolding write_group
group-at c k None offset bytes = tt
group-at c k (Some ReleaseHandle) offset bytes = nothing-at k.port.number (release_act c k.port bytes) (release-nothing c k.port bytes)
group-at c k (Some (AreaBytes area)) offset bytes =
    permitted-at k.port.number (may_write k.rights) (write_act k bytes (reach_of c k.port (Some (AreaBytes area)) offset (length bytes)))
    (write-at k bytes (reach_of c k.port (Some (AreaBytes area)) offset (length bytes)) (reach-at c k.port (Some (AreaBytes area)) offset (length bytes)))
group-at c k (Some (AreaBit area)) offset bytes =
    permitted-at k.port.number (may_write k.rights) (write_act k bytes (reach_of c k.port (Some (AreaBit area)) offset (length bytes)))
    (write-at k bytes (reach_of c k.port (Some (AreaBit area)) offset (length bytes)) (reach-at c k.port (Some (AreaBit area)) offset (length bytes)))
group-at c k (Some ValueByHandle) offset bytes =
    permitted-at k.port.number (may_write k.rights) (write_act k bytes (reach_of c k.port (Some ValueByHandle) offset (length bytes)))
    (write-at k bytes (reach_of c k.port (Some ValueByHandle) offset (length bytes)) (reach-at c k.port (Some ValueByHandle) offset (length bytes)))
group-at c k (Some g) offset bytes = tt

grant-nothing : (c : Client) (p : PlantPort) (place : Place) → WritesNothing (grant_act c p place)
grant-nothing c p place = if-nothing (nat_le MAX_LIVE (live_count c.handles) || nat_le MAX_NUMBER (length c.handles))
    (Refusal general_device_error) (changing (to_le_bytes w32 (length c.handles + 1)) (Grants p.number place)) tt refl

found-nothing : (c : Client) (p : PlantPort) (o : Option Found) → WritesNothing (if_found o (λ f. grant_act c p (place_of f)))
found-nothing c p None = tt
found-nothing c p (Some f) = grant-nothing c p (place_of f)

named-nothing : (d : Setup) (c : Client) (p : PlantPort) (g : Option Group) (len : ℕ) (name : List ℕ) → WritesNothing (read_write_group d c p g len name)
unfolding read_write_group
named-nothing d c p (Some HandleByName) len name =
    if-nothing (nat_lt len 4) (Refusal invalid_size)
    (if_found (found_of p.symbols name) (λ f. grant_act c p (place_of f))) tt (found-nothing c p (found_of p.symbols name))
named-nothing d c p (Some ValueByHandle) len name = tt
named-nothing d c p g len name = idle-nothing (read_write_group d c p (without_handles g) len name) (port-idle d c p g len name)

reached-nothing : (c : Client) (k : Asker) (mode : Mode) (len cycle : ℕ) (r : Result (List Addressed) ℕ) → WritesNothing (add_reached c k mode len cycle r)
reached-nothing c k mode len cycle (Err code) = tt
reached-nothing c k mode len cycle (Ok watched) =
    if-nothing (len == 0) (Refusal invalid_size) (add_watch c (next_watch c k mode cycle watched)) tt
    (if-nothing (nat_le MAX_WATCHES (length c.watches) || nat_le MAX_NUMBER c.additions) (Refusal no_more_notifications)
    (let w = next_watch c k mode cycle watched in changing (to_le_bytes w32 w.handle) (Adds w)) tt refl)

add-nothing : (c : Client) (k : Asker) (len cycle : ℕ) (mode : Option Mode) (r : Result (List Addressed) ℕ) → WritesNothing (add_of_reach c k len cycle mode r)
add-nothing c k len cycle None r = tt
add-nothing c k len cycle (Some mode) r =
    if-nothing (nat_lt MAX_WATCHED len) (Refusal watch_too_big) (add_reached c k mode len cycle r) tt (reached-nothing c k mode len cycle r)

delete-nothing : (c : Client) (k : Asker) (handle : ℕ) → WritesNothing (delete_act c k handle)
delete-nothing c k handle =
    if-nothing (list_any (is_watch_of k.port.number handle) c.watches) (changing [] (Deletes handle)) (Refusal notification_handle_invalid) refl tt

state-at : (p : PlantPort) → AreAtPort p.number (map WholeByte (state_names p))
state-at p = (refl, (refl, (refl, (refl, tt))))

control-at : (k : Asker) (ads device : ℕ) → PutsAt k.port.number (control_act k ads device)
unfolding control_act
control-at k ads device =
    permitted-at k.port.number (may_control k.rights)
    (if (ads == RUN) || (ads == STOP) then writing (puts_of (map WholeByte (state_names k.port)) (state_bytes ads device)) else Refusal invalid_value)
    (go ((ads == RUN) || (ads == STOP)))
  where
    go : (b : Bool) → PutsAt k.port.number
        (if b then writing (puts_of (map WholeByte (state_names k.port)) (state_bytes ads device)) else Refusal invalid_value)
    go true = puts-at k.port.number (map WholeByte (state_names k.port)) (state_bytes ads device) (state-at k.port)
    go false = tt

plain-at : (d : Setup) (c : Client) (k : Asker) (r : Request) → PutsAt k.port.number (plain_act d c k r)
unfolding plain_act
plain-at d c k ReadDeviceInfo = tt
plain-at d c k (Read group offset len) =
    let act = read_group d c k.port (answered_group READ group) offset len in
    nothing-at k.port.number act (idle-nothing act (read-idle d c k.port (answered_group READ group) offset len))
plain-at d c k (Write group offset bytes) = group-at c k (answered_group WRITE group) offset bytes
plain-at d c k ReadState = tt
plain-at d c k (WriteControl ads device bytes) = control-at k ads device
plain-at d c k (AddDeviceNotification group offset len mode delay cycle) =
    nothing-at k.port.number (add_act c k (answered_group ADD_DEVICE_NOTIFICATION group) offset len cycle (mode_of mode))
    (add-nothing c k len cycle (mode_of mode) (reach_of c k.port (answered_group ADD_DEVICE_NOTIFICATION group) offset len))
plain-at d c k (DeleteDeviceNotification handle) = nothing-at k.port.number (delete_act c k handle) (delete-nothing c k handle)
plain-at d c k (DeviceNotification bytes) = tt
plain-at d c k (ReadWrite group offset len bytes) =
    nothing-at k.port.number (read_write_group d c k.port (answered_group READ_WRITE group) len bytes)
    (named-nothing d c k.port (answered_group READ_WRITE group) len bytes)

pub act-at : (d : Setup) (c : Client) (k : Asker) (r : Request) → PutsAt k.port.number (act_of d c k r)
act-at d c k r =
    act-cases d c k (PutsAt k.port.number)
    (record {
      states = λ offset len.
          nothing-at k.port.number (read_act (states_reach k.port.number offset len))
          (idle-nothing (read_act (states_reach k.port.number offset len)) (reached-idle (states_reach k.port.number offset len)));
      watched_states = λ offset len cycle mode.
          nothing-at k.port.number (add_of_reach c k len cycle mode (states_reach k.port.number offset len))
          (add-nothing c k len cycle mode (states_reach k.port.number offset len));
      watched_version = λ len cycle mode.
          nothing-at k.port.number (add_of_reach c k len cycle mode (version_reach k.port.number len))
          (add-nothing c k len cycle mode (version_reach k.port.number len));
      types = λ len bytes.
          let act = type_act d.plant len bytes in
          nothing-at k.port.number act (idle-nothing act (type_act-idle d.plant len bytes));
    })
    r (plain-at d c k (meant_by d.profile c k.port r))

-- and so do the acts of parts
pub acts-at : (d : Setup) (c : Client) (k : Asker) (rs : List Request) → PutAllAt k.port.number (acts_of d c k rs)
unfolding acts_of given_in_turn
acts-at d c k [] = tt
acts-at d c k (r ∷ rs) = (act-at d c k r, acts-at d (client_after_request d k c r) k rs)

parts-at : (d : Setup) (c : Client) (k : Asker) (s : SumRequest) (o : Option ℕ) → PutAllAt k.port.number (acts_in (decide_parts d c k s o))
parts-at d c k s (Some code) = (tt, tt)
parts-at d c k s None = acts-at d c k s.parts

read_write-at : (d : Setup) (c : Client) (k : Asker) (o : Option (ℕ → List ℕ → SumRequest)) (group n len : ℕ) (bytes : List ℕ)
    → PutAllAt k.port.number (acts_in (decide_read_write d c k o group n len bytes))
read_write-at d c k (Some sum) group n len bytes = parts-at d c k (sum n bytes) _
read_write-at d c k None group n len bytes = acts-at d c k (ReadWrite group n len bytes ∷ [])

pub request-at : (d : Setup) (c : Client) (k : Asker) (r : Request) → PutAllAt k.port.number (acts_in (decide_request d c k r))
unfolding decide_request
request-at d c k (ReadWrite group offset len bytes) = read_write-at d c k (known_sum d.profile group) group offset len bytes
request-at d c k r = acts-at d c k (r ∷ [])
