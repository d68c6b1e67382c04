-- What the server decides of a request of a call, and what its answer is read as.
use Rattle.std.proofs.Common.{◌≡◌, ◌⊎◌, ℕ, zero, suc, ◌+◌, ◌<◌, ◌^◌, List, [], ◌∷◌, length, drop, Bool, true, false, not, refl, sym, ap, ◌∙◌, subst, inl, inr}
use Rattle.std.proofs.Common.{arith}
use Rattle.std.specs.Option.{option_or}
use Rattle.std.specs.Prelude.{Option, Some, None, is_none, Result, Ok, Err, map, ◌==◌, ◌||◌, ◌/◌, ◌%◌, nat_le, nat_lt, bytes_eq, if◌then◌else◌, unwrap_or}
use Rattle.std.specs.Int.{w32, to_le_bytes}
use Rattle.std.proofs.lemmas.Bool.{cases_Bool, cond-true, cond-false, leb-false, eqb-true}
use Rattle.std.proofs.lemmas.Nat.{from_le_bytes-to_le_bytes_4}
use Rattle.std.proofs.lemmas.Slice.Eq.{bytes_eq-Decides}
use Rattle.spec_plant.specs.Description.{Rights, Area, size_in}
use Rattle.spec_plant.specs.Finding.{Found, found_of}
use Rattle.spec_plant.specs.World.{Plant, PlantPort, ByteName, SymbolPart}
use Rattle.spec_formats.specs.Codes.{invalid_ams_length, unknown_ams_command, target_machine_not_found, target_port_not_found, unknown_command_id}
use Rattle.spec_formats.specs.Codes.{invalid_size, invalid_offset, invalid_group, symbol_not_found, symbol_version_invalid}
use Rattle.spec_formats.specs.Commands.{ADD_DEVICE_NOTIFICATION, DEVICE_NOTIFICATION, READ_WRITE}
use Rattle.spec_formats.specs.Ranges.{Bytes, Bit, greatest_len, byte_range, bit_range, range_in}
use Rattle.spec_formats.specs.Groups.{AreaBytes, AreaBit, ValueByHandle, Group, ExtendedInfoByName, group_of, group_in}
use Rattle.spec_formats.specs.Header.{AmsHeader, request_flags}
use Rattle.spec_formats.specs.Numbers.{number32}
use Rattle.spec_formats.specs.Request as request
use Rattle.spec_formats.specs.Request.{Request, request_of, request_in, request_bytes}
use Rattle.spec_formats.specs.SymbolEntry.{entry_bytes}
use Rattle.spec_machine.specs.Access.{Addressed, WholeByte, OneBit}
use Rattle.spec_machine.specs.Acts.{Act, Refusal, Allowed, changing, effect_of, client_after_acts}
use Rattle.spec_machine.specs.Answers.{answered_group}
use Rattle.spec_machine.specs.ByName.{MAX_NUMBER, if_found, read_write_group}
use Rattle.spec_machine.specs.Handles.{HandleStatus, Never, Released, Outdated, Live, kept_status}
use Rattle.spec_machine.specs.Reach.{addressed_by_range, addressed_in_place, addressed_by_status, reach_of}
use Rattle.spec_machine.specs.Client.{Place, names_of_place, Client, client_after, Adds, NoEffect}
use Rattle.spec_machine.specs.Decisions.{Decision, NoAnswer, EndConnection, AmsError, Perform, Single, refuse, acts_in}
use Rattle.spec_machine.specs.Manner.{Manner}
use Rattle.spec_machine.specs.Entries.{entry_of_part}
use Rattle.spec_machine.specs.Packets.{Check, source_rights, checks_of, checked, question, question_of, decide_passed, decide_header}
use Rattle.spec_machine.specs.Reads.{fixed_reply}
use Rattle.spec_machine.specs.Meanings.{mode_in, name_in, value_len_in}
use Rattle.spec_machine.specs.Requests.{mode_of, MAX_WATCHES, next_watch, add_watch, add_reached, add_of_reach, add_act, plain_act, act_of}
use Rattle.spec_machine.specs.Manner.{Manner}
use Rattle.spec_machine.specs.MoreActs.{states_reach, version_reach, more_add}
use Rattle.spec_machine.proofs.MoreActs.{of_more, add-more}
use Rattle.spec_machine.specs.Sums.{SumRequest, sum_refusal, given_in_turn}
use Rattle.spec_machine.proofs.MoreSums.{more_sums-none}
use Rattle.spec_machine.proofs.MoreActs.{more_read_write-none}
use Rattle.spec_machine.specs.SumPackets.{acts_of, sum_of_group, known_sum, decide_parts, decide_read_write, decide_request}
use Rattle.spec_machine.specs.Watches.{Watch, Mode}
use Rattle.spec_machine.specs.World.{Setup, port_numbered, numbers_from, name_at, names_at, own_name, own_names, VERSION_AT}
use Rattle.spec_machine.specs.Writes.{Asker}
use Rattle.spec_client.specs.Calls.{entry_request}

-- checks that stop a packet, and the decision where none does

abbrev AllLead : (Decision → Type 0) → List Check → Type 0
AllLead P [] = Unit {0}
AllLead P (c ∷ cs) = (c.stops ≡ true → P c.leads_to) × AllLead P cs

abbrev NoneStops : List Check → Type 0
NoneStops [] = Unit {0}
NoneStops (c ∷ cs) = (c.stops ≡ false) × NoneStops cs

checked_holds : (P : Decision → Type 0) (cs : List Check) (d : Decision) → AllLead P cs → (NoneStops cs → P d) → P (checked cs d)
checked_holds P [] d all passed = passed tt
checked_holds P (c ∷ cs) d all passed = elim (cases_Bool c.stops) [
  | inl stops ↦ subst P (sym (cond-true c.stops _ _ stops)) (all.0 stops)
  | inr goes ↦ subst P (sym (cond-false c.stops _ _ goes)) (checked_holds P cs d all.1 (λ rest. passed (goes, rest)))
]

-- the packet is answered, or the connection ends
abbrev pub IsReplied : Decision → Type 0
IsReplied NoAnswer = ⊥
IsReplied EndConnection = Unit {0}
IsReplied (AmsError code) = code < 2 ^ 32
IsReplied (Perform acts form) = Unit {0}

replied_parts : (d : Setup) (c : Client) (k : Asker) (s : SumRequest) (o : Option ℕ) → IsReplied (decide_parts d c k s o)
replied_parts d c k s None = tt
replied_parts d c k s (Some code) = tt

replied_read_write : (d : Setup) (c : Client) (k : Asker) (o : Option (ℕ → List ℕ → SumRequest)) (group n len : ℕ) (bytes : List ℕ)
    → IsReplied (decide_read_write d c k o group n len bytes)
replied_read_write d c k (Some sum) group n len bytes =
    let s = sum n bytes in replied_parts d c k s (sum_refusal n s.data_len (length bytes) s.reply_len len)
replied_read_write d c k None group n len bytes = tt

replied_request : (d : Setup) (c : Client) (k : Asker) (r : Request) → IsReplied (decide_request d c k r)
unfolding decide_request
replied_request d c k (request.ReadWrite group offset len bytes) =
    replied_read_write d c k (known_sum d.profile group) group offset len bytes
replied_request d c k r = tt

-- who is answered: none where a check fails
record Passes (plant : Plant) (h : AmsHeader) (payload : List ℕ) (P : Decision → Type 0) (d : Setup) (c : Client) : Type 0 where
  holds : (k : Asker) (r : Request) → k.address ≡ h.source → k.port.number ≡ h.target.port → h.target.net ≡ plant.net → request_of h.command payload ≡ Some r
      → P (decide_request d c k r)

not_true : (b : Bool) → not b ≡ false → b ≡ true
not_true true e = refl
not_true false e = absurd (let f : true ≡ false = e in cc)

true_false : true ≡ false → ⊥
true_false e = cc

found_number : (number : ℕ) (ports : List PlantPort) (p : PlantPort) → port_numbered number ports ≡ Some p → p.number ≡ number
found_number number [] p e = cc
found_number number (q ∷ ports) p e = elim (cases_Bool (q.number == number)) [
  | inl is ↦ let f = rw is at e in let same : q ≡ p = cc in sym (ap (λ (x : PlantPort). x.number) same) ∙ eqb-true q.number number is
  | inr no_one ↦ found_number number ports p (rw no_one at e)
]

passed_so : (P : Decision → Type 0) (d : Setup) (c : Client) (h : AmsHeader) (payload : List ℕ) → Passes d.plant h payload P d c
    → (rights : Option Rights) (port : Option PlantPort) (r : Option Request)
    → port_numbered h.target.port d.plant.ports ≡ port → request_of h.command payload ≡ r
    → is_none rights ≡ false → h.target.net ≡ d.plant.net → is_none port ≡ false → is_none r ≡ false
    → P (decide_passed d c (question h.source rights port r))
passed_so P d c h payload by None port r p q e net f g = absurd (true_false e)
passed_so P d c h payload by (Some rights) None r p q e net f g = absurd (true_false f)
passed_so P d c h payload by (Some rights) (Some port) None p q e net f g = absurd (true_false g)
passed_so P d c h payload by (Some rights) (Some port) (Some r) p q e net f g =
    by.holds (record { port = port; address = h.source; rights = rights }) r refl (found_number h.target.port d.plant.ports port p) net q

-- what holds of the refusals and of each request that passes holds of what is decided
decided : (P : Decision → Type 0) (d : Setup) (c : Client) (h : AmsHeader) (payload : List ℕ)
    → ((code : ℕ) → code < 2 ^ 32 → P (AmsError code)) → P EndConnection → ((code : ℕ) → P (refuse code))
    → h.flags ≡ request_flags → (h.command == DEVICE_NOTIFICATION) ≡ false
    → Passes d.plant h payload P d c → P (decide_header d c payload (Some h))
decided P d c h payload error ends refused flags other by =
    let port = port_numbered h.target.port d.plant.ports in
    let r = request_of h.command payload in
    let rights = source_rights d h in
    let response : (h.flags % 2 == 1) ≡ false = rw flags refl in
    checked_holds P (checks_of d h payload) (decide_passed d c (question_of d h payload)) (
      (λ e. error invalid_ams_length (omega arith)),
      (
        (λ e. absurd (true_false (sym e ∙ response))),
        (
          (λ e. error unknown_ams_command (omega arith)),
          (
            (λ e. ends),
            (
              (λ e. error target_machine_not_found (omega arith)),
              (
                (λ e. error target_port_not_found (omega arith)),
                ((λ e. absurd (true_false (sym e ∙ other))), ((λ e. error unknown_command_id (omega arith)), ((λ e. refused invalid_size), tt))),
              ),
            ),
          ),
        ),
      ),
    )
    (λ none.
    passed_so P d c h payload by rights port r refl refl none.1.1.1.0
    ((bytes_eq-Decides h.target.net d.plant.net).0 (not_true (bytes_eq h.target.net d.plant.net) none.1.1.1.1.0)) none.1.1.1.1.1.0 none.1.1.1.1.1.1.1.1.0)

pub replied : (d : Setup) (c : Client) (h : AmsHeader) (payload : List ℕ) → h.flags ≡ request_flags → (h.command == DEVICE_NOTIFICATION) ≡ false
    → IsReplied (decide_header d c payload (Some h))
replied d c h payload flags other =
    decided IsReplied d c h payload (λ code small. small) tt (λ code. tt) flags other
    (record { holds = λ k r address port net is. replied_request d c k r })

-- an entry by name changes nothing of the client

abbrev Keeps : Client → Decision → Type 0
Keeps c d = client_after_acts c (acts_in d) ≡ c

no_acts : (c : Client) → client_after_acts c [] ≡ c
unfolding client_after_acts
no_acts c = refl

one_act : (c : Client) (a : Act) → effect_of a ≡ NoEffect → client_after_acts c (a ∷ []) ≡ c
unfolding client_after_acts client_after
one_act c a none = rw none refl

one_acts : (d : Setup) (c : Client) (k : Asker) (r : Request) → acts_of d c k (r ∷ []) ≡ act_of d c k r ∷ []
unfolding acts_of given_in_turn
one_acts d c k r = refl

fixed_keeps : (len : ℕ) (bytes : List ℕ) → effect_of (fixed_reply len bytes) ≡ NoEffect
fixed_keeps len bytes = go (nat_lt len (length bytes))
  where
    go : (b : Bool) → effect_of (if b then Refusal invalid_size else Allowed (record { fixed = bytes; reads = []; writes = []; effect = NoEffect })) ≡ NoEffect
    go true = refl
    go false = refl

found_keeps : (x : Manner) (len : ℕ) (o : Option Found) → effect_of (if_found o (λ f. fixed_reply len (entry_bytes (entry_of_part x f)))) ≡ NoEffect
found_keeps x len None = refl
found_keeps x len (Some f) = fixed_keeps len (entry_bytes (entry_of_part x f))

entry_group : answered_group READ_WRITE 0xF009 ≡ Some ExtendedInfoByName
unfolding answered_group group_of group_in
entry_group = refl

entry_act : (d : Setup) (c : Client) (k : Asker) (offset len : ℕ) (name : List ℕ)
    → effect_of (act_of d c k (request.ReadWrite 0xF009 offset len name)) ≡ NoEffect
unfolding act_of plain_act read_write_group
entry_act d c k offset len name =
    let g = answered_group READ_WRITE 0xF009 in
    let meant = name_in d.profile.manner g name in
    let room = value_len_in d.profile.manner k.port g meant len in
    ap (λ o. effect_of (unwrap_or o (read_write_group d c k.port g room meant))) (more_read_write-none d.profile.manner d 0xF009 len name refl)
    ∙ ap (λ (x : Option Group). effect_of (read_write_group d c k.port x room meant)) entry_group
    ∙ found_keeps d.profile.manner room (found_of k.port.symbols meant)

entry_decided : (d : Setup) (c : Client) (k : Asker) (offset len : ℕ) (name : List ℕ)
    → Keeps c (decide_request d c k (request.ReadWrite 0xF009 offset len name))
unfolding decide_request
entry_decided d c k offset len name =
    let r = request.ReadWrite 0xF009 offset len name in
    let left : Option (ℕ → List ℕ → SumRequest) → Option Group → Client =
    λ o g. client_after_acts c (acts_in (decide_read_write d c k (option_or o (sum_of_group g)) 0xF009 offset len name)) in
    ap (λ o. left o (answered_group READ_WRITE 0xF009)) (more_sums-none d.profile 0xF009 refl)
    ∙ ap (left None) entry_group
    ∙ ap (client_after_acts c) (one_acts d c k r)
    ∙ one_act c (act_of d c k r) (entry_act d c k offset len name)

-- what the payload is read as, where it is read
read_write_read : (p : List ℕ) (r : Request) → request_of READ_WRITE p ≡ Some r → r ≡ request.ReadWrite (number32 0 p) (number32 4 p) (number32 8 p) (drop 16 p)
unfolding request_of request_in
read_write_read p r e = go (length p == 16 + number32 12 p) e
  where
    go : (b : Bool) → (if b then Some (request.ReadWrite (number32 0 p) (number32 4 p) (number32 8 p) (drop 16 p)) else None) ≡ Some r
        → r ≡ request.ReadWrite (number32 0 p) (number32 4 p) (number32 8 p) (drop 16 p)
    go true e = cc
    go false e = absurd cc

addition_read : (p : List ℕ) (r : Request) → request_of ADD_DEVICE_NOTIFICATION p ≡ Some r
    → r ≡ request.AddDeviceNotification (number32 0 p) (number32 4 p) (number32 8 p) (number32 12 p) (number32 16 p) (number32 20 p)
unfolding request_of request_in
addition_read p r e = go (length p == 40) e
  where
    wanted : Request
    wanted = request.AddDeviceNotification (number32 0 p) (number32 4 p) (number32 8 p) (number32 12 p) (number32 16 p) (number32 20 p)

    go : (b : Bool) → (if b then Some wanted else None) ≡ Some r → r ≡ wanted
    go true e = cc
    go false e = absurd cc

entry_number : (name : List ℕ) → number32 0 (request_bytes (entry_request name)) ≡ 0xF009
entry_number name = from_le_bytes-to_le_bytes_4 0xF009 (omega arith)

pub entry_keeps : (d : Setup) (c : Client) (h : AmsHeader) (name : List ℕ) → h.flags ≡ request_flags → h.command ≡ READ_WRITE
    → Keeps c (decide_header d c (request_bytes (entry_request name)) (Some h))
entry_keeps d c h name flags command =
    let p = request_bytes (entry_request name) in
    decided (Keeps c) d c h p (λ code small. no_acts c) (no_acts c) (λ code. one_act c (Refusal code) refl) flags (ap (λ n. n == DEVICE_NOTIFICATION) command)
    (record {
      holds = λ k r address port net is.
          let read = read_write_read p r (sym (ap (λ n. request_of n p) command) ∙ is) in
          let same : r ≡ request.ReadWrite 0xF009 (number32 4 p) (number32 8 p) (drop 16 p)
          = read ∙ ap (λ g. request.ReadWrite g (number32 4 p) (number32 8 p) (drop 16 p)) (entry_number name) in
          subst (λ x. Keeps c (decide_request d c k x)) (sym same) (entry_decided d c k (number32 4 p) (number32 8 p) (drop 16 p));
    })

-- an addition gives one notification more, or nothing changes

-- what is reached is something, where at least one byte is asked for

abbrev ReachesSome : ℕ → Result (List Addressed) ℕ → Type 0
ReachesSome len o = (places : List Addressed) → o ≡ Ok places → (len == 0) ≡ false → places ≡ [] → ⊥

err_reaches : (len code : ℕ) → ReachesSome len (Err code)
err_reaches len code places is some none = absurd cc

some_names : (f : ℕ → ByteName) (first len : ℕ) → ReachesSome len (Ok (map WholeByte (map f (numbers_from first len))))
unfolding numbers_from
some_names f first zero places is some none = absurd (let e : true ≡ false = some in cc)
some_names f first (suc len) places is some none = absurd cc

bytes_reach : (p : PlantPort) (area : Area) (size offset len : ℕ) → ReachesSome len (addressed_by_range p (byte_range area size offset len))
unfolding byte_range names_at
bytes_reach p area size offset len = go (nat_lt size offset) (nat_lt size (offset + len) || nat_lt greatest_len len)
  where
    go : (a b : Bool)
        → ReachesSome len (addressed_by_range p (if a then Err invalid_offset else if b then Err invalid_size else Ok (Bytes area offset len)))
    go true b = err_reaches len invalid_offset
    go false true = err_reaches len invalid_size
    go false false = some_names (name_at p area) offset len

one_place : (len : ℕ) (place : Addressed) → ReachesSome len (Ok (place ∷ []))
one_place len place places is some none = absurd cc

bit_reach : (p : PlantPort) (area : Area) (size offset len : ℕ) → ReachesSome len (addressed_by_range p (bit_range area size offset len))
unfolding bit_range
bit_reach p area size offset len = go (nat_le size (offset / 8)) (len == 1)
  where
    go : (a b : Bool)
        → ReachesSome len (addressed_by_range p (if a then Err invalid_offset else if b then Ok (Bit area (offset / 8) (offset % 8)) else Err invalid_size))
    go true b = err_reaches len invalid_offset
    go false true = one_place len (OneBit (name_at p area (offset / 8)) (offset % 8))
    go false false = err_reaches len invalid_size

place_reach : (port : ℕ) (place : Place) (len : ℕ) → ReachesSome len (addressed_in_place port place len)
place_reach port place len = go (nat_lt place.len len)
  where
    go : (b : Bool) → ReachesSome len (if b then Err invalid_size else Ok (map WholeByte (names_of_place port place len)))
    go true = err_reaches len invalid_size
    go false = some_names (λ k. record { port = port; part = SymbolPart place.symbol; index = k }) place.first len

status_reach : (port : ℕ) (status : HandleStatus Place) (len : ℕ) → ReachesSome len (addressed_by_status port status len)
status_reach port Never len = err_reaches len symbol_not_found
status_reach port Released len = err_reaches len symbol_not_found
status_reach port Outdated len = err_reaches len symbol_version_invalid
status_reach port (Live place) len = place_reach port place len

reach_some : (c : Client) (p : PlantPort) (g : Option Group) (offset len : ℕ) → ReachesSome len (reach_of c p g offset len)
unfolding reach_of range_in
reach_some c p (Some (AreaBytes area)) offset len = bytes_reach p area (size_in p.sizes area) offset len
reach_some c p (Some (AreaBit area)) offset len = bit_reach p area (size_in p.sizes area) offset len
reach_some c p (Some ValueByHandle) offset len = status_reach p.number (kept_status c.handles offset p.number) len
reach_some c p g offset len = err_reaches len invalid_group

states_some : (port offset len : ℕ) → ReachesSome len (states_reach port offset len)
unfolding own_names
states_some port offset len = go (nat_lt VERSION_AT offset) (nat_lt VERSION_AT (offset + len))
  where
    go : (a b : Bool)
        → ReachesSome len (if a then Err invalid_offset else if b then Err invalid_size else Ok (map WholeByte (map (own_name port) (numbers_from offset len))))
    go true b = err_reaches len invalid_offset
    go false true = err_reaches len invalid_size
    go false false = some_names (own_name port) offset len

version_some : (port len : ℕ) → ReachesSome len (version_reach port len)
unfolding own_names numbers_from
version_some port len = go (len == 1)
  where
    go : (b : Bool) → ReachesSome len (if b then Ok (WholeByte (own_name port VERSION_AT) ∷ []) else Err invalid_size)
    go true = one_place len (WholeByte (own_name port VERSION_AT))
    go false = err_reaches len invalid_size

-- a notification from this port to this address, of something
pub record IsWatch (h : AmsHeader) (plant : Plant) (w : Watch (List Addressed)) : Type 0 where
  pub handle : w.handle < 2 ^ 32
  pub port : w.port ≡ h.target.port
  pub address : w.address ≡ h.source
  pub net : h.target.net ≡ plant.net
  pub some : w.watched ≡ [] → ⊥

pub record Adding (h : AmsHeader) (plant : Plant) (d : Decision) : Type 0 where
  pub w : Watch (List Addressed)
  pub is : d ≡ Perform (changing (to_le_bytes w32 w.handle) (Adds w) ∷ []) Single
  pub watch : IsWatch h plant w

abbrev pub AddsOrKeeps : Client → AmsHeader → Plant → Decision → Type 0
AddsOrKeeps c h plant d = Keeps c d ⊎ Adding h plant d

-- an act that adds so, or is a refusal
record AddsAct (h : AmsHeader) (plant : Plant) (a : Act) : Type 0 where
  w : Watch (List Addressed)
  is : a ≡ changing (to_le_bytes w32 w.handle) (Adds w)
  watch : IsWatch h plant w

abbrev ActCase : AmsHeader → Plant → Act → Type 0
ActCase h plant a = (effect_of a ≡ NoEffect) ⊎ AddsAct h plant a

both_false : (a b : Bool) → (a || b) ≡ false → b ≡ false
both_false true b e = absurd (let f : true ≡ false = e in cc)
both_false false b e = e

watch_case : (h : AmsHeader) (plant : Plant) (c : Client) (k : Asker) (mode : Mode) (cycle : ℕ) (watched : List Addressed)
    → k.address ≡ h.source → k.port.number ≡ h.target.port → h.target.net ≡ plant.net → (watched ≡ [] → ⊥)
    → ActCase h plant (add_watch c (next_watch c k mode cycle watched))
watch_case h plant c k mode cycle watched address port net some =
    let w = next_watch c k mode cycle watched in
    let full = nat_le MAX_WATCHES (length c.watches) || nat_le MAX_NUMBER c.additions in
    elim (cases_Bool full) [
      | inl is ↦ inl (ap effect_of (cond-true full _ _ is))
      | inr room ↦
          let less = leb-false MAX_NUMBER c.additions (both_false (nat_le MAX_WATCHES (length c.watches)) (nat_le MAX_NUMBER c.additions) room) in
          inr (record {
            w = w;
            is = cond-false full _ _ room;
            watch = record { handle = omega (arith, less); port = port; address = address; net = net; some = some };
          })
    ]

reached_case : (h : AmsHeader) (plant : Plant) (c : Client) (k : Asker) (mode : Mode) (len cycle : ℕ) (o : Result (List Addressed) ℕ)
    → k.address ≡ h.source → k.port.number ≡ h.target.port → h.target.net ≡ plant.net → ReachesSome len o
    → ActCase h plant (add_reached c k mode len cycle o)
reached_case h plant c k mode len cycle (Err code) address port net reaches = inl refl
reached_case h plant c k mode len cycle (Ok watched) address port net reaches = elim (cases_Bool (len == 0)) [
  | inl nothing ↦ inl (ap effect_of (cond-true (len == 0) _ _ nothing))
  | inr some ↦
      subst (ActCase h plant) (sym (cond-false (len == 0) _ _ some))
      (watch_case h plant c k mode cycle watched address port net (reaches watched refl some))
]

add_case : (h : AmsHeader) (plant : Plant) (c : Client) (k : Asker) (len cycle : ℕ) (m : Option Mode) (o : Result (List Addressed) ℕ)
    → k.address ≡ h.source → k.port.number ≡ h.target.port → h.target.net ≡ plant.net → ReachesSome len o
    → ActCase h plant (add_of_reach c k len cycle m o)
add_case h plant c k len cycle None o address port net reaches = inl refl
add_case h plant c k len cycle (Some mode) o address port net reaches = elim (cases_Bool (nat_lt 2048 len)) [
  | inl big ↦ inl (ap effect_of (cond-true (nat_lt 2048 len) _ _ big))
  | inr small ↦
      subst (ActCase h plant) (sym (cond-false (nat_lt 2048 len) _ _ small))
      (reached_case h plant c k mode len cycle o address port net reaches)
]

single_case : (h : AmsHeader) (plant : Plant) (c : Client) (a : Act) → ActCase h plant a → AddsOrKeeps c h plant (Perform (a ∷ []) Single)
single_case h plant c a (inl keeps) = inl (one_act c a keeps)
single_case h plant c a (inr adds) = inr (record { w = adds.w; is = ap (λ x. Perform (x ∷ []) Single) adds.is; watch = adds.watch })

addition_decided : (d : Setup) (c : Client) (h : AmsHeader) (k : Asker) (g o l m y z : ℕ)
    → k.address ≡ h.source → k.port.number ≡ h.target.port → h.target.net ≡ d.plant.net
    → AddsOrKeeps c h d.plant (decide_request d c k (request.AddDeviceNotification g o l m y z))
unfolding decide_request act_of plain_act
addition_decided d c h k g o l m y z address port net =
    let r = request.AddDeviceNotification g o l m y z in
    subst (λ acts. AddsOrKeeps c h d.plant (Perform acts Single)) (sym (one_acts d c k r))
    (single_case h d.plant c (act_of d c k r) (of_more P (more_add x c k g o l m z) (add_act c k group o l z (mode_of (mode_in x m)))
    (add-more P x c k g o l m z (λ mode. add_case h d.plant c k l z mode (states_reach k.port.number o l) address port net (states_some k.port.number o l))
    (λ mode. add_case h d.plant c k l z mode (version_reach k.port.number l) address port net (version_some k.port.number l)))
    (add_case h d.plant c k l z (mode_of (mode_in x m)) (reach_of c k.port group o l) address port net (reach_some c k.port group o l))))
  where
    P : Act → Type 0
    P a = ActCase h d.plant a

    x : Manner
    x = d.profile.manner

    group : Option Group
    group = answered_group ADD_DEVICE_NOTIFICATION g

pub addition_adds : (d : Setup) (c : Client) (h : AmsHeader) (payload : List ℕ) → h.flags ≡ request_flags → h.command ≡ ADD_DEVICE_NOTIFICATION
    → AddsOrKeeps c h d.plant (decide_header d c payload (Some h))
addition_adds d c h p flags command =
    decided (AddsOrKeeps c h d.plant) d c h p (λ code small. inl (no_acts c)) (inl (no_acts c)) (λ code. inl (one_act c (Refusal code) refl)) flags
    (ap (λ n. n == DEVICE_NOTIFICATION) command)
    (record {
      holds = λ k r address port net is.
          let read = addition_read p r (sym (ap (λ n. request_of n p) command) ∙ is) in
          subst (λ x. AddsOrKeeps c h d.plant (decide_request d c k x)) (sym read)
          (addition_decided d c h k (number32 0 p) (number32 4 p) (number32 8 p) (number32 12 p) (number32 16 p) (number32 20 p) address port net);
    })
