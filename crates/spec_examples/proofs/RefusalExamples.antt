-- What a refusal leaves, and what an access by a handle that is not live comes to, by computation.
use Rattle.std.specs.Prelude.{◌≡◌, refl, ℕ, ◌+◌, List, [], ◌∷◌, ◌++◌, codes, bytes_eq, map, true, false, Bool, Some, None, Ok, Err, unwrap_or}
use Rattle.std.specs.Prelude.{replicate, ◌==◌, drop, take, Result}
use Rattle.std.proofs.Common.{ap, inl, inr, lit≤, sym}
use Rattle.std.proofs.lemmas.Bool.{false≢true}
use Rattle.std.specs.Str.{chars, is_utf8}
use Rattle.toml.proofs.OnLiterals.{toml_on_literals}
use Rattle.spec_plant.specs.PartTexts.{name_behind, comment_behind}
use Rattle.spec_formats.specs.Groups.{group_in, group_of}
use Rattle.spec_formats.specs.Header.{header_of}
use Rattle.spec_formats.specs.Ranges.{bit_range, byte_range, range_in, size_range}
use Rattle.spec_formats.specs.Reply.{reply_in, written_bytes}
use Rattle.spec_formats.specs.Request.{request_in, request_of}
use Rattle.spec_frames.specs.Division.{ams_length_of, behind_frame, frames_from, frames_of, front_of, is_header, left_behind, packet_of, rest_of}
use Rattle.spec_machine.specs.Access.{memory_after_puts}
use Rattle.spec_machine.specs.Acts.{client_after_acts, memory_after_acts, outcomes_of}
use Rattle.spec_machine.specs.Answers.{answered_group}
use Rattle.spec_machine.specs.ByName.{read_write_group}
use Rattle.spec_machine.specs.Client.{client_after, client_after_reload, ended_of}
use Rattle.spec_machine.specs.Connection.{connection_of, produce, produce_all, put_back}
use Rattle.spec_machine.specs.Entries.{entry_of_part}
use Rattle.spec_machine.specs.HandleLaws.{handles_after_all}
use Rattle.spec_machine.specs.Handles.{grant_in, handle_in, handles_after, is_released_in, place_after, with_released}
use Rattle.spec_machine.specs.Moves.{state_after, state_after_move}
use Rattle.spec_machine.specs.Events.{connection_after_reload, connection_after_tick, state_after_event}
use Rattle.spec_machine.specs.SumPackets.{acts_of, decide_request}
use Rattle.spec_machine.specs.Packets.{decide}
use Rattle.spec_machine.specs.Piece.{after_packet, after_packets, after_piece}
use Rattle.spec_machine.specs.Projection.{acts_by_others, acts_of_log, acts_of_move, acts_of_packets, projection_of}
use Rattle.spec_machine.specs.Reach.{reach_of}
use Rattle.spec_machine.specs.Reads.{read_group}
use Rattle.spec_machine.specs.Reloads.{client_reloaded, is_kept, memory_after_reload, world_after_reload}
use Rattle.spec_machine.specs.Replies.{outcome_in_all, performed, reply_in_forms, response_packet}
use Rattle.spec_machine.specs.Requests.{act_of, plain_act}
use Rattle.spec_machine.specs.RunText.{notes_of}
use Rattle.spec_machine.specs.Stamps.{frames_of_samples, grouped, samples_at, watches_after_tick}
use Rattle.spec_machine.specs.Sums.{given_in_turn, left_in_turn, packed, sum_refusal}
use Rattle.spec_machine.specs.Ticks.{client_after_tick, world_after_tick}
use Rattle.spec_machine.specs.Watches.{ended_watches, watches_after_reload}
use Rattle.spec_machine.specs.World.{content_of, name_at, names_at, numbers_from}
use Rattle.spec_machine.specs.Writes.{control_act, write_group}
use Rattle.spec_plant.specs.Finding.{found_of}
use Rattle.spec_plant.specs.Parts.{part_behind}
use Rattle.spec_plant.specs.SameTypes.{has_same_members, has_same_parts}
use Rattle.spec_plant.specs.Sizes.{greatest_align, greatest_depth, members_end, type_align, type_depth, type_size}
use Rattle.spec_plant.specs.Spelling.{type_text}
use Rattle.spec_plant.specs.Trees.{trees_behind, trees_of}
use Rattle.spec_plant.specs.World.{byte_at, with_byte}
use Rattle.std.specs.Fmt.{digits}
use Rattle.spec_formats.specs.Groups.{value_by_handle}
use Rattle.spec_formats.specs.Request.{AddDeviceNotification, Read as ReadBytes, ReadWrite, Write}
use Rattle.spec_plant.specs.Description.{Control, Description, Process, Read}
use Rattle.spec_plant.specs.World.{PlantPort, plant_port}
use Rattle.spec_plant.proofs.Plant.{axis_type, count_symbol, port_with, symbols_with, title_symbol}
use Rattle.spec_rules.specs.TextVerdict.{text_verdict}
use Rattle.spec_machine.specs.Acts.{Act, Refusal}
use Rattle.spec_machine.specs.Client.{Client, new_client}
use Rattle.spec_machine.specs.Connection.{fresh_connection}
use Rattle.spec_machine.specs.Decisions.{Decision, AmsError, Perform}
use Rattle.spec_machine.specs.Device.{BreaksRule, NoDocument}
use Rattle.spec_machine.specs.Handles.{Live, Never, Outdated, Released}
use Rattle.spec_machine.specs.MachineState.{MachineState}
use Rattle.spec_machine.specs.Watches.{OnChange}
use Rattle.spec_machine.specs.World.{World, setup_of}
use Rattle.spec_machine.specs.Writes.{Asker}
use Rattle.spec_laws.specs.Refusals.{IsTurnedAway, LeavesAll, IsRefused}
use Rattle.spec_laws.specs.Refusals.{dead_code, result_told}
use Rattle.spec_laws.specs.Soundness.{ReadsAccepted}
use Rattle.spec_server.specs.Server.{read_description}
use Rattle.spec_server.specs.ServerLaws.{ServerLeavesAllAtRefusals, ServerRefuses, ServerRefusesDeadHandles}
use Rattle.spec_machine.proofs.Plant.{ENGINEER, VIEWER, answer_to, named, opened, packet_from, piece, plant, q, reading, reload, start, step}
use Rattle.spec_frames.proofs.Hex.{hex}

-- connection 1 has the handle 1 of `Main.count` and the handle 2 of `Main.title`, and gave back the handle 3 of `Flags.bits`
abbrev before : MachineState World Client
before = state_after step start (opened 1
    ∷ piece 1 (named 1 0xF003 4 (codes "Main.count") ++ named 2 0xF003 4 (codes "Main.title") ++ named 3 0xF003 4 (codes "Flags.bits"))
    ∷ piece 1 (q 3 4 (codes "06f00000 00000000 04000000 03000000")) ∷ [])

abbrev client : Client
client = (unwrap_or (connection_of 1 before.connections) (fresh_connection new_client 1)).client

-- the same behind a reload that changes the type of `Main.title`
abbrev after : MachineState World Client
after = state_after step before (reload (codes "plant2") ∷ [])

abbrev client_after_it : Client
client_after_it = (unwrap_or (connection_of 1 after.connections) (fresh_connection new_client 1)).client

abbrev port : PlantPort
port = plant_port (axis_type ∷ []) (port_with (symbols_with (count_symbol 0) (title_symbol 7 (codes "Mix" ++ replicate 5 0))))

abbrev engineer : Asker
engineer = record { port = port; address = record { net = ENGINEER; port = 32905 }; rights = Control }

abbrev viewer : Asker
viewer = record { port = port; address = record { net = VIEWER; port = 32905 }; rights = Read }

-- packets: a write within `Main.count` and one behind the area, one of a stranger, one with a wrong length, one that is a response
abbrev write : List ℕ
write = packet_from ENGINEER 3 4 (hex (codes "40400000 02000000 02000000 0708"))

abbrev write_outside : List ℕ
write_outside = packet_from ENGINEER 3 4 (hex (codes "40400000 e7030000 02000000 0708"))

abbrev of_a_stranger : List ℕ
of_a_stranger = packet_from (9 ∷ 9 ∷ 9 ∷ 9 ∷ 1 ∷ 1 ∷ []) 3 4 (hex (codes "40400000 02000000 02000000 0708"))

abbrev cut_short : List ℕ
cut_short = packet_from ENGINEER 3 4 (hex (codes "40400000 02000000 05000000 0708"))

abbrev decision : List ℕ → Decision
decision packet = decide (setup_of before.world) client packet

abbrev is_performed : Decision → Bool
is_performed (Perform acts form) = true
is_performed d = false

abbrev number_of_error : Decision → ℕ
number_of_error (AmsError code) = code
number_of_error d = 0

performed_is_none : IsTurnedAway (decision write) → ⊥
unfolding ams_length_of is_header front_of packet_of behind_frame frames_from frames_of left_behind rest_of has_same_parts has_same_members part_behind
    type_align greatest_align type_size members_end type_depth greatest_depth found_of byte_at with_byte trees_behind trees_of type_text group_in group_of
    request_in request_of byte_range bit_range size_range range_in header_of written_bytes reply_in notes_of connection_after_tick connection_after_reload
    state_after_event state_after_move state_after given_in_turn left_in_turn sum_refusal packed handles_after_all memory_after_puts world_after_tick
    client_after_tick read_write_group act_of plain_act produce produce_all connection_of put_back grant_in is_released_in place_after handle_in
    with_released handles_after write_group control_act client_after client_after_reload ended_of watches_after_reload ended_watches name_behind
    comment_behind entry_of_part numbers_from name_at names_at content_of projection_of acts_of_packets acts_of_move acts_of_log acts_by_others
    reply_in_forms outcome_in_all response_packet performed grouped frames_of_samples samples_at watches_after_tick reach_of outcomes_of memory_after_acts
    client_after_acts is_kept memory_after_reload world_after_reload client_reloaded answered_group after_packet after_packets after_piece read_group
    acts_of decide_request decide digits
performed_is_none (inl e) = false≢true (sym (ap is_performed e))
performed_is_none (inr (inl e)) = false≢true (sym (ap is_performed e))
performed_is_none (inr (inr (code, e))) = false≢true (sym (ap is_performed e))

abbrev is_refusal : Act → Bool
is_refusal (Refusal code) = true
is_refusal act = false

abbrev is_ok : {E : Type 0} → Result Description E → Bool
is_ok (Ok d) = true
is_ok (Err e) = false

record RefusalRows : Type 0 where
  -- who is turned away: a response, a stranger, and one that asks for a machine that is not here
  response : IsTurnedAway (decision (answer_to ENGINEER 3 4 0 []))
  stranger : IsTurnedAway (decision of_a_stranger)
  wrong_machine : decision ((5 ∷ 1 ∷ 2 ∷ 3 ∷ 1 ∷ 2 ∷ []) ++ drop 6 write) ≡ AmsError 7
  not_turned_away : IsTurnedAway (decision write) → ⊥
  -- the result that is told
  accepted : result_told (decision write) before.world.memory ≡ 0
  outside : result_told (decision write_outside) before.world.memory ≡ 0x703
  wrong_length : result_told (decision cut_short) before.world.memory ≡ 0x705
  no_reply : result_told (decision of_a_stranger) before.world.memory ≡ 0
  -- what is left
  leaves_all : LeavesAll before.world client write_outside
  stranger_leaves_all : LeavesAll before.world client of_a_stranger
  write_leaves_less : LeavesAll before.world client write → ⊥
  -- what the laws come to here
  by_its_result : ServerLeavesAllAtRefusals → LeavesAll before.world client write_outside
  turned_away : ServerLeavesAllAtRefusals → LeavesAll before.world client of_a_stranger
  reload_counts : ServerLeavesAllAtRefusals → state_after step before (reload (codes "no description") ∷ []) ≡ record before { refused = 1 }
  -- the codes of handles that are not live
  dead : map dead_code (Never ∷ Released ∷ Outdated ∷ Live (record { symbol = codes "main.count"; first = 0; len = 4 }) ∷ [])
      ≡ Some 0x710 ∷ Some 0x710 ∷ Some 0x711 ∷ None ∷ []
  released_read : act_of (setup_of before.world) client engineer (ReadBytes value_by_handle 3 1) ≡ Refusal 0x710
  outdated_read : act_of (setup_of after.world) client_after_it engineer (ReadBytes value_by_handle 2 1) ≡ Refusal 0x711
  without_right : act_of (setup_of before.world) client viewer (Write value_by_handle 3 (1 ∷ [])) ≡ Refusal 0x704
  never_promised : ServerRefusesDeadHandles → ServerRefuses (setup_of before.world) client engineer 4 0x710
  released_promised : ServerRefusesDeadHandles → ServerRefuses (setup_of before.world) client engineer 3 0x710
  outdated_promised : ServerRefusesDeadHandles → ServerRefuses (setup_of after.world) client_after_it engineer 2 0x711
  no_access : ServerRefusesDeadHandles → IsRefused (act_of (setup_of before.world) client engineer (ReadWrite value_by_handle 3 4 (1 ∷ [])))
  no_addition : ServerRefusesDeadHandles
      → act_of (setup_of before.world) client engineer (AddDeviceNotification value_by_handle 3 4 4 0 0) ≡ Refusal 0x710
  live_is_not_refused : ServerRefuses (setup_of before.world) client engineer 1 0x710 → ⊥
  -- readings of descriptions
  reads_none : ReadsAccepted (λ bytes signals. Err NoDocument)
  reads_too_many_signals : ReadsAccepted (λ bytes signals. Ok plant) → ⊥
  no_text : read_description (codes "schema = = 2") 3 ≡ Err NoDocument

refusal_rows : RefusalRows
unfolding ams_length_of is_header front_of packet_of behind_frame frames_from frames_of left_behind rest_of has_same_parts has_same_members part_behind
    type_align greatest_align type_size members_end type_depth greatest_depth found_of byte_at with_byte trees_behind trees_of type_text group_in group_of
    request_in request_of byte_range bit_range size_range range_in header_of written_bytes reply_in notes_of connection_after_tick connection_after_reload
    state_after_event state_after_move state_after given_in_turn left_in_turn sum_refusal packed handles_after_all memory_after_puts world_after_tick
    client_after_tick read_write_group act_of plain_act produce produce_all connection_of put_back grant_in is_released_in place_after handle_in
    with_released handles_after write_group control_act client_after client_after_reload ended_of watches_after_reload ended_watches name_behind
    comment_behind entry_of_part numbers_from name_at names_at content_of projection_of acts_of_packets acts_of_move acts_of_log acts_by_others
    reply_in_forms outcome_in_all response_packet performed grouped frames_of_samples samples_at watches_after_tick reach_of outcomes_of memory_after_acts
    client_after_acts is_kept memory_after_reload world_after_reload client_reloaded answered_group after_packet after_packets after_piece read_group
    acts_of decide_request decide digits text_verdict toml_on_literals is_utf8 chars
refusal_rows = record {
  response = inl refl;
  stranger = inr (inl refl);
  wrong_machine = refl;
  not_turned_away = performed_is_none;
  accepted = refl;
  outside = refl;
  wrong_length = refl;
  no_reply = refl;
  leaves_all = record { world_stays = refl; client_stays = refl };
  stranger_leaves_all = record { world_stays = refl; client_stays = refl };
  write_leaves_less = λ h. false≢true (ap (λ w. bytes_eq (take 3 (content_of w.memory port Process)) (42 ∷ 0 ∷ 0 ∷ [])) h.world_stays);
  by_its_result = λ h. h.results before.world client write_outside (λ e. false≢true (ap (λ n. n == 0) e));
  turned_away = λ h. h.turned_away before.world client of_a_stranger (inr (inl refl));
  reload_counts = λ h. h.reloads reading before (codes "no description") (BreaksRule 2 0) refl;
  dead = refl;
  released_read = refl;
  outdated_read = refl;
  without_right = refl;
  never_promised = λ h. h (setup_of before.world) client engineer 4 0x710 refl;
  released_promised = λ h. h (setup_of before.world) client engineer 3 0x710 refl;
  outdated_promised = λ h. h (setup_of after.world) client_after_it engineer 2 0x711 refl;
  no_access = λ h. (h (setup_of before.world) client engineer 3 0x710 refl).read_write 4 (1 ∷ []);
  no_addition = λ h. (h (setup_of before.world) client engineer 3 0x710 refl).add 4 4 0 0 OnChange refl (lit≤ tt);
  live_is_not_refused = λ h. false≢true (ap is_refusal (h.read 4));
  reads_none = λ bytes signals d e. absurd (false≢true (ap is_ok e));
  reads_too_many_signals = λ h. false≢true ((h [] 2 plant refl).each_port);
  no_text = refl;
}
