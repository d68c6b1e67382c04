-- Each reply has at most 2,000,000 bytes of data.
use Rattle.std.proofs.Common.{◌≡◌, ℕ, ◌≤◌, List, [], ◌∷◌, map, length, refl, sym, subst, arith, inl, inr}
use Rattle.std.specs.Prelude.{Option, Some, None, Result, Ok, Err, nat_lt, ◌==◌}
use Rattle.std.proofs.lemmas.Bool.{cases_Bool, ltb-false}
use Rattle.spec_plant.specs.AcceptedTypes.{LIMIT}
use Rattle.spec_plant.specs.Description.{size_in}
use Rattle.spec_plant.specs.World.{Plant, PlantPort, Block}
use Rattle.spec_plant.specs.Finding.{found_of}
use Rattle.spec_plant.specs.Trees.{TypeTree}
use Rattle.spec_formats.specs.TypeEntry.{type_upload_bytes}
use Rattle.spec_formats.specs.Codes.{invalid_size, symbol_not_found}
use Rattle.spec_formats.specs.Groups.{Group, AreaSize, HandleByName, ValueByName, InfoByName, SymbolVersion}
use Rattle.spec_formats.specs.Groups.{ExtendedInfoByName, SymbolUpload, UploadInfo, TypeUpload}
use Rattle.spec_formats.specs.Groups.{UploadInfoWithTypes, ReleaseHandle}
use Rattle.spec_formats.specs.Header.{AmsHeader, header_of}
use Rattle.spec_formats.specs.Ranges.{greatest_len}
use Rattle.spec_formats.specs.Reply.{facts_bytes}
use Rattle.spec_formats.specs.Request.{Request, ReadDeviceInfo, Read, Write, ReadState, WriteControl}
use Rattle.spec_formats.specs.Request.{AddDeviceNotification, DeleteDeviceNotification, DeviceNotification}
use Rattle.spec_formats.specs.Request.{ReadWrite}
use Rattle.spec_machine.specs.Connection.{Connection}
use Rattle.spec_machine.specs.Moves.{state_after}
use Rattle.spec_machine.specs.World.{World, Setup, setup_of, port_numbered, state_names}
use Rattle.spec_machine.specs.Access.{Addressed, WholeByte}
use Rattle.spec_machine.specs.Handles.{Live, kept_status}
use Rattle.spec_machine.specs.Watches.{Mode}
use Rattle.spec_machine.specs.Client.{Place, Client, Deletes}
use Rattle.spec_machine.specs.Acts.{Refusal, fixed_data, outcomes_of}
use Rattle.spec_machine.specs.Answers.{answered_group}
use Rattle.spec_machine.specs.Reach.{reach_of}
use Rattle.spec_machine.specs.Reads.{fixed_reply, read_act, type_upload_reply, read_group}
use Rattle.std.specs.Int.{w32, to_le_bytes}
use Rattle.spec_formats.specs.SymbolEntry.{entry_bytes}
use Rattle.spec_machine.specs.Entries.{symbol_upload_of, type_upload_of, upload_info_of, upload_info_with_types_of, entry_of_part}
use Rattle.spec_machine.specs.Writes.{Asker, write_act, release_act, write_group, control_act}
use Rattle.spec_machine.specs.ByName.{place_of, grant_act, value_act, info_of, read_write_group}
use Rattle.spec_machine.specs.Meanings.{up_to_nul, meant_by}
use Rattle.spec_machine.specs.TypesByText.{tree_of_text, entry_by_type}
use Rattle.spec_machine.specs.MoreActs.{if_type, states_reach, version_reach}
use Rattle.spec_machine.proofs.MoreActs.{act-cases}
use Rattle.spec_machine.specs.Requests.{next_watch, add_watch, add_reached, add_of_reach, plain_act, act_of}
use Rattle.spec_machine.specs.Sums.{SumRequest, sum_of_reads, sum_of_writes, sum_of_read_writes, given_in_turn}
use Rattle.spec_machine.specs.Decisions.{Decision, NoAnswer, EndConnection, AmsError, Perform, refuse}
use Rattle.spec_machine.specs.SumPackets.{acts_of, decide_parts, decide_single}
use Rattle.spec_machine.specs.Packets.{decide}
use Rattle.spec_machine.specs.Replies.{outcome_in_all, answer_to, answer_of, performed}
use Rattle.spec_machine.specs.AdsDevice.{DescriptionReading, ads_device, server_step}
use Rattle.spec_machine.proofs.DecisionCases.{decide-cases}
use Rattle.spec_laws.specs.Isolation.{start_in}
use Rattle.spec_laws.specs.Soundness.{Each, IsSoundPlant}
use Rattle.spec_laws.specs.Reachable.{IsPlacedStatus, IsPlacedHandle, ConnectionFits}
use Rattle.spec_laws.specs.RepliesFit.{AnswerFits, AnswersFit, RepliesFit}
use Rattle.spec_plant.proofs.SoundLemmas.{accepted_are_sound}
use Rattle.spec_laws.proofs.EveryState.{every_state_fits}
use Rattle.spec_laws.proofs.FirstMemory.{port_number}
use Rattle.spec_laws.proofs.FineActs.{IsAsked, kept-placed, found-placed}
use Rattle.spec_laws.proofs.Modest.{IsModestPort, IsModestPlant, accepted_are_modest, found_has, placed-small, entry-short, every_plant}
use Rattle.spec_laws.proofs.ShortActs.{IsShort, short_if, short_refusal, short_fixed, short_reading}
use Rattle.spec_laws.proofs.ShortActs.{short_writing, short_changing, fixed-within, reach-short, read-short, states-short}
use Rattle.spec_laws.proofs.ShortActs.{value-short, if_found-short, grant-short, least-short, given-short}
use Rattle.spec_laws.proofs.ShortSums.{IsPackedShort, reads-packed, writes-packed, read_writes-packed, more-packed, unrefused-short}
use Rattle.spec_laws.proofs.ShortReplies.{payload-short, IsShortHeader, MaybeShort, header-short, response-short}

-- what is known of a port that is asked: the plant is sound and modest, and handles are placed
record IsKnown (plant : Plant) (c : Client) (p : PlantPort) : Type 0 where
  asked : IsAsked plant p
  modest : IsModestPlant plant
  handles : Each (IsPlacedHandle plant) c.handles

port-modest : (plant : Plant) (c : Client) (p : PlantPort) → IsKnown plant c p → IsModestPort p
port-modest plant c p k = found_has IsModestPort (λ (q : PlantPort). q.number == p.number) plant.ports p k.modest k.asked.found

handle-small : (plant : Plant) (c : Client) (p : PlantPort) → IsKnown plant c p
    → (handle : ℕ) (place : Place) → kept_status c.handles handle p.number ≡ Live place → place.len ≤ LIMIT
handle-small plant c p k handle place e =
    placed-small plant k.modest p.number place (subst (IsPlacedStatus plant p.number) e (kept-placed plant c.handles handle p.number k.handles))

upload-short : (len : ℕ) (bytes : List ℕ) → IsShort greatest_len (type_upload_reply len bytes)
upload-short len bytes =
    elim (cases_Bool (nat_lt greatest_len (length bytes))) [
      | inl t ↦ rw t (short_refusal greatest_len invalid_size)
      | inr t ↦ let l = ltb-false greatest_len (length bytes) t in rw t (fixed-within greatest_len len bytes l)
    ]

read-limit : (d : Setup) (c : Client) (p : PlantPort) → IsKnown d.plant c p
    → (g : Option Group) (offset len : ℕ) → IsShort greatest_len (read_group d c p g offset len)
unfolding read_group
read-limit d c p k (Some (AreaSize a)) offset len = fixed-within greatest_len len (to_le_bytes w32 (size_in p.sizes a)) (omega arith)
read-limit d c p k (Some SymbolVersion) offset len = fixed-within greatest_len len (d.version ∷ []) (omega arith)
read-limit d c p k (Some SymbolUpload) offset len = fixed-within greatest_len len (symbol_upload_of d.profile.manner p)
    ((port-modest d.plant c p k).upload d.profile.manner)
read-limit d c p k (Some UploadInfo) offset len = fixed-within greatest_len len (upload_info_of d.profile.manner p) (omega arith)
read-limit d c p k (Some TypeUpload) offset len = upload-short len (type_upload_of d.plant)
read-limit d c p k (Some UploadInfoWithTypes) offset len = fixed-within greatest_len len (upload_info_with_types_of d.profile.manner d.plant p) (omega arith)
read-limit d c p k g offset len =
    read-short greatest_len (reach_of c p g offset len)
    (reach-short greatest_len c p g offset len (λ h. h) (λ e. omega arith)
    (λ place s h. let l = handle-small d.plant c p k offset place s in omega (arith, l, h)))

write-limit : (most : ℕ) (k : Asker) (bytes : List ℕ) (r : Result (List Addressed) ℕ) → IsShort most (write_act k bytes r)
write-limit most k bytes (Err code) = short_refusal most code
write-limit most k bytes (Ok places) = search (short_if, short_refusal, short_writing)

release-limit : (most : ℕ) (c : Client) (p : PlantPort) (bytes : List ℕ) → IsShort most (release_act c p bytes)
release-limit most c p bytes = short_if most _ _ _ (short_refusal most _) (short_if most _ _ _ (short_changing most [] _ (omega arith)) (short_refusal most _))

write_group-limit : (most : ℕ) (c : Client) (k : Asker) (g : Option Group) (offset : ℕ) (bytes : List ℕ) → IsShort most (write_group c k g offset bytes)
unfolding write_group
write_group-limit most c k None offset bytes = short_refusal most _
write_group-limit most c k (Some ReleaseHandle) offset bytes = release-limit most c k.port bytes
write_group-limit most c k (Some g) offset bytes =
    let w = write-limit most k bytes in search (short_if, short_refusal, w)

control-limit : (most : ℕ) (k : Asker) (ads device : ℕ) → IsShort most (control_act k ads device)
unfolding control_act
control-limit most k ads device = short_if most _ _ _ (short_refusal most _) (short_if most _ _ _ (short_writing most _) (short_refusal most _))

add_reached-limit : (c : Client) (k : Asker) (mode : Mode) (len cycle : ℕ) (r : Result (List Addressed) ℕ)
    → IsShort greatest_len (add_reached c k mode len cycle r)
add_reached-limit c k mode len cycle (Err code) = short_refusal greatest_len code
add_reached-limit c k mode len cycle (Ok places) =
    short_if greatest_len (len == 0) (Refusal invalid_size) (add_watch c (next_watch c k mode cycle places)) (short_refusal greatest_len invalid_size)
    (short_if greatest_len _ (Refusal _) _ (short_refusal greatest_len _) (short_changing greatest_len _ _ (omega arith)))

add-limit : (c : Client) (k : Asker) (len cycle : ℕ) (mode : Option Mode) (r : Result (List Addressed) ℕ)
    → IsShort greatest_len (add_of_reach c k len cycle mode r)
add-limit c k len cycle None r = short_refusal greatest_len _
add-limit c k len cycle (Some mode) r = short_if greatest_len _ _ _ (short_refusal greatest_len _) (add_reached-limit c k mode len cycle r)

read_write-limit : (d : Setup) (c : Client) (p : PlantPort) → IsKnown d.plant c p
    → (g : Option Group) (len : ℕ) (name : List ℕ) → IsShort greatest_len (read_write_group d c p g len name)
unfolding read_write_group
read_write-limit d c p k (Some HandleByName) len name =
    least-short greatest_len 4 len invalid_size _
    (λ h. if_found-short greatest_len (found_of p.symbols name) (λ f. grant_act c p (place_of f))
    (λ f e. grant-short greatest_len c p (place_of f) (omega arith)))
read_write-limit d c p k (Some ValueByName) len name =
    if_found-short greatest_len (found_of p.symbols name) (λ f. value_act p len (place_of f))
    (λ f e. value-short greatest_len p len (place_of f)
    (λ h. let l = placed-small d.plant k.modest p.number (place_of f) (found-placed d.plant p k.asked name f e) in omega (arith, l, h)))
read_write-limit d c p k (Some InfoByName) len name =
    least-short greatest_len 12 len invalid_size _
    (λ h. if_found-short greatest_len (found_of p.symbols name) (λ f. fixed_data (info_of f)) (λ f e. short_fixed greatest_len (info_of f) (omega arith)))
read_write-limit d c p k (Some ExtendedInfoByName) len name =
    if_found-short greatest_len (found_of p.symbols name) (λ f. fixed_reply len (entry_bytes (entry_of_part d.profile.manner f)))
    (λ f e. fixed-within greatest_len len (entry_bytes (entry_of_part d.profile.manner f))
    (entry-short d.profile.manner p (port-modest d.plant c p k) name f e))
read_write-limit d c p k g len name = short_refusal greatest_len _

plain-limit : (d : Setup) (c : Client) (k : Asker) → IsKnown d.plant c k.port → (r : Request) → IsShort greatest_len (plain_act d c k r)
unfolding plain_act
plain-limit d c k i ReadDeviceInfo = let n = (port-modest d.plant c k.port i).facts in short_fixed greatest_len (facts_bytes k.port.facts) (omega (arith, n))
plain-limit d c k i (Read group offset len) = read-limit d c k.port i (answered_group _ group) offset len
plain-limit d c k i (Write group offset bytes) = write_group-limit greatest_len c k (answered_group _ group) offset bytes
plain-limit d c k i ReadState = short_reading greatest_len (map WholeByte (state_names k.port)) (omega arith)
plain-limit d c k i (WriteControl ads device bytes) = control-limit greatest_len k ads device
plain-limit d c k i (AddDeviceNotification group offset len mode delay cycle) = add-limit c k len cycle _
    (reach_of c k.port (answered_group _ group) offset len)
plain-limit d c k i (DeleteDeviceNotification handle) =
    short_if greatest_len _ _ _ (short_changing greatest_len [] (Deletes handle) (omega arith)) (short_refusal greatest_len _)
plain-limit d c k i (DeviceNotification bytes) = short_fixed greatest_len [] (omega arith)
plain-limit d c k i (ReadWrite group offset len bytes) = read_write-limit d c k.port i (answered_group _ group) len bytes

type-limit : (len : ℕ) (o : Option TypeTree) → IsShort greatest_len (if_type o len)
type-limit len None = short_refusal greatest_len symbol_not_found
type-limit len (Some tree) = upload-short len (type_upload_bytes (entry_by_type tree ∷ []))

states-limit : (port offset len : ℕ) → IsShort greatest_len (read_act (states_reach port offset len))
states-limit port offset len =
    read-short greatest_len (states_reach port offset len) (states-short greatest_len port offset len (λ h. omega (arith, h)))

act-limit : (d : Setup) (c : Client) (k : Asker) → IsKnown d.plant c k.port → (r : Request) → IsShort greatest_len (act_of d c k r)
act-limit d c k i r =
    act-cases d c k (IsShort greatest_len)
    (record {
      states = λ offset len. states-limit k.port.number offset len;
      watched_states = λ offset len cycle mode. add-limit c k len cycle mode (states_reach k.port.number offset len);
      watched_version = λ len cycle mode. add-limit c k len cycle mode (version_reach k.port.number len);
      types = λ len bytes. type-limit len (tree_of_text d.plant.types (up_to_nul bytes));
    })
    r (plain-limit d c k i (meant_by d.profile c k.port r))

-- how many bytes a decision gives

abbrev given_len : Decision → List Block → ℕ
given_len NoAnswer memory = 0
given_len EndConnection memory = 0
given_len (AmsError code) memory = 0
given_len (Perform acts form) memory = length (outcome_in_all form (outcomes_of memory acts)).bytes

record IsShortDecision (x : Decision) : Type 0 where
  short : (memory : List Block) → given_len x memory ≤ greatest_len

silent_short : IsShortDecision NoAnswer
silent_short = record { short = λ memory. omega arith }

end_short : IsShortDecision EndConnection
end_short = record { short = λ memory. omega arith }

error_short : (code : ℕ) → IsShortDecision (AmsError code)
error_short code = record { short = λ memory. omega arith }

refuse_short : (code : ℕ) → IsShortDecision (refuse code)
unfolding outcomes_of outcome_in_all
refuse_short code = record { short = λ memory. omega arith }

single-limit : (d : Setup) (c : Client) (k : Asker) → IsKnown d.plant c k.port → (r : Request) → IsShortDecision (decide_single d c k r)
unfolding acts_of given_in_turn outcomes_of outcome_in_all
single-limit d c k i r = record { short = λ memory. given-short greatest_len memory (act_of d c k r) (act-limit d c k i r) }

parts-limit : (d : Setup) (c : Client) (k : Asker) (s : SumRequest) → IsPackedShort d k c s
    → (o : Option ℕ) → (o ≡ None → s.reply_len ≤ greatest_len) → IsShortDecision (decide_parts d c k s o)
unfolding outcome_in_all
parts-limit d c k s h (Some code) l = refuse_short code
parts-limit d c k s h None l = record { short = λ memory. let a = h.short memory in let b = l refl in omega (arith, a, b) }

-- what is known of a world and a client
record IsServed (plant : Plant) (c : Client) : Type 0 where
  sound : IsSoundPlant plant
  modest : IsModestPlant plant
  handles : Each (IsPlacedHandle plant) c.handles

known : (plant : Plant) (c : Client) (p : PlantPort) (number : ℕ) → IsServed plant c → port_numbered number plant.ports ≡ Some p → IsKnown plant c p
known plant c p number s e =
    let P : ℕ → Type 0 = λ m. port_numbered m plant.ports ≡ Some p in
    record { asked = record { sound = s.sound; found = subst P (sym (port_number number plant.ports p e)) e }; modest = s.modest; handles = s.handles }

decide-limit : (d : Setup) (c : Client) → IsServed d.plant c → (packet : List ℕ) → IsShortDecision (decide d c packet)
decide-limit d c s packet =
    decide-cases d c IsShortDecision
    (record {
      silent = silent_short;
      ends = end_short;
      error = error_short;
      refused = refuse_short;
      single = λ k number e r. single-limit d c k (known d.plant c k.port number s e) r;
      reads = λ k number e n len bytes. parts-limit d c k (sum_of_reads n bytes) (reads-packed d k c n bytes) _ (unrefused-short n _ _ _ len);
      writes = λ k number e n len bytes. parts-limit d c k (sum_of_writes n bytes) (writes-packed d k c n bytes) _ (unrefused-short n _ _ _ len);
      read_writes = λ k number e n len bytes. parts-limit d c k (sum_of_read_writes n bytes) (read_writes-packed d k c n bytes) _ (unrefused-short n _ _ _ len);
      more = λ k number e group sum is n len bytes. parts-limit d c k (sum n bytes) (more-packed d k c group sum is n bytes) _ (unrefused-short n _ _ _ len);
    })
    packet

-- the answer to a decision

answer-fits : (h : AmsHeader) (x : Decision) (memory : List Block) → IsShortHeader h → IsShortDecision x → AnswerFits (answer_to h x memory)
answer-fits h NoAnswer memory s d = tt
answer-fits h EndConnection memory s d = tt
answer-fits h (AmsError code) memory s d = response-short h code [] s (omega arith)
answer-fits h (Perform acts form) memory s d = response-short h _ _ s (payload-short h.command (outcome_in_all form (outcomes_of memory acts)) (d.short memory))

maybe-fits : (o : Option AmsHeader) (x : Decision) (memory : List Block) → MaybeShort o → IsShortDecision x → AnswerFits (answer_of o x memory)
maybe-fits None x memory s d = tt
maybe-fits (Some h) x memory s d = answer-fits h x memory s d

answers-fit : (reading : DescriptionReading) (w : World) (k : Connection Client) → IsSoundPlant w.plant
    → IsModestPlant w.plant → ConnectionFits w k → AnswersFit (ads_device reading) w k
unfolding performed
answers-fit reading w k sound modest f = λ heard packet.
    maybe-fits (header_of packet) (decide (setup_of w) k.client packet) w.memory (header-short packet)
    (decide-limit (setup_of w) k.client (record { sound = sound; modest = modest; handles = (f heard).handles }) packet)

all-fit : (reading : DescriptionReading) (w : World) → IsSoundPlant w.plant → IsModestPlant w.plant
    → (ks : List (Connection Client)) → Each (ConnectionFits w) ks → Each (AnswersFit (ads_device reading) w) ks
all-fit reading w sound modest [] e = tt
all-fit reading w sound modest (k ∷ ks) e = (answers-fit reading w k sound modest (e.0), all-fit reading w sound modest ks (e.1))

pub replies_fit : RepliesFit
replies_fit reading h profile d signals accepted log =
    let s = state_after (server_step reading) (start_in profile d signals) log in
    let sound = every_plant IsSoundPlant accepted_are_sound reading h profile d signals accepted log in
    let modest = every_plant IsModestPlant accepted_are_modest reading h profile d signals accepted log in
    let all = every_state_fits reading h profile d signals accepted log in
    all-fit reading s.world sound modest s.connections all.connections
