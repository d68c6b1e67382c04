-- Enumerations, writers, and two client addresses, by computation.
use Rattle.std.specs.Prelude.{◌≡◌, refl, ℕ, List, [], ◌∷◌, ◌++◌, codes, replicate, true, false, pos, length}
use Rattle.std.specs.Int.{w16, w32, to_le_bytes}
use Rattle.spec_plant.specs.PartTexts.{name_behind, comment_behind}
use Rattle.spec_formats.specs.Groups.{group_in, group_of}
use Rattle.spec_formats.specs.Header.{header_of}
use Rattle.spec_formats.specs.Ranges.{bit_range, byte_range, range_in, size_range}
use Rattle.spec_formats.specs.Reply.{reply_in, written_bytes}
use Rattle.spec_formats.specs.Request.{request_in, request_of}
use Rattle.spec_frames.specs.Division.{ams_length_of, behind_frame, frames_from, frames_of, front_of, is_header, left_behind, packet_of, rest_of}
use Rattle.spec_machine.specs.Access.{memory_after_puts}
use Rattle.spec_machine.specs.Acts.{client_after_acts, memory_after_acts, outcomes_of}
use Rattle.spec_machine.specs.Answers.{answered_group}
use Rattle.spec_machine.specs.ByName.{read_write_group}
use Rattle.spec_machine.specs.Client.{client_after, client_after_reload, ended_of}
use Rattle.spec_machine.specs.Connection.{connection_of, produce, produce_all, put_back}
use Rattle.spec_machine.specs.Entries.{entry_of_part}
use Rattle.spec_machine.specs.HandleLaws.{handles_after_all}
use Rattle.spec_machine.specs.Handles.{grant_in, handle_in, handles_after, is_released_in, place_after, with_released}
use Rattle.spec_machine.specs.Moves.{state_after, state_after_move}
use Rattle.spec_machine.specs.Events.{connection_after_reload, connection_after_tick, state_after_event}
use Rattle.spec_machine.specs.SumPackets.{acts_of, decide_request}
use Rattle.spec_machine.specs.Packets.{decide}
use Rattle.spec_machine.specs.Piece.{after_packet, after_packets, after_piece}
use Rattle.spec_machine.specs.Projection.{acts_by_others, acts_of_log, acts_of_move, acts_of_packets, projection_of}
use Rattle.spec_machine.specs.Reach.{reach_of}
use Rattle.spec_machine.specs.Reads.{read_group}
use Rattle.spec_machine.specs.Reloads.{client_reloaded, is_kept, memory_after_reload, world_after_reload}
use Rattle.spec_machine.specs.Replies.{outcome_in_all, performed, reply_in_forms, response_packet}
use Rattle.spec_machine.specs.Requests.{act_of, plain_act}
use Rattle.spec_machine.specs.RunText.{notes_of}
use Rattle.spec_machine.specs.Stamps.{frames_of_samples, grouped, samples_at, watches_after_tick}
use Rattle.spec_machine.specs.Sums.{given_in_turn, left_in_turn, packed, sum_refusal}
use Rattle.spec_machine.specs.Ticks.{client_after_tick, world_after_tick}
use Rattle.spec_machine.specs.Watches.{ended_watches, watches_after_reload}
use Rattle.spec_machine.specs.World.{content_of, name_at, names_at, numbers_from}
use Rattle.spec_machine.specs.Writes.{control_act, write_group}
use Rattle.spec_plant.specs.Finding.{found_of}
use Rattle.spec_plant.specs.Parts.{part_behind}
use Rattle.spec_plant.specs.SameTypes.{has_same_members, has_same_parts}
use Rattle.spec_plant.specs.Sizes.{greatest_align, greatest_depth, members_end, type_align, type_depth, type_size}
use Rattle.spec_plant.specs.Spelling.{type_text}
use Rattle.spec_plant.specs.Trees.{trees_behind, trees_of}
use Rattle.spec_plant.specs.World.{byte_at, with_byte}
use Rattle.std.specs.Fmt.{digits}
use Rattle.spec_plant.specs.Plain.{INT, UINT, BYTE}
use Rattle.spec_plant.specs.Listed.{Enum, One, NamedType, Enumeration}
use Rattle.spec_plant.specs.Description.{Write, Control, Process, Description}
use Rattle.spec_plant.specs.Trees.{EnumTree, PlainTree, ArrayTree}
use Rattle.spec_plant.specs.SameTypes.{is_same_type}
use Rattle.spec_frames.specs.Frame.{frame_bytes}
use Rattle.spec_machine.specs.MachineState.{start_of, output_of}
use Rattle.spec_machine.specs.World.{world_of}
use Rattle.spec_machine.proofs.Plant.{NET, ENGINEER, VIEWER, plain_symbol, count_symbol, description_with, q}
use Rattle.spec_machine.proofs.Plant.{a, q_viewer, a_viewer, named, stamp_to, piece, opened, tick, given, step}
use Rattle.ads_outside.specs.declared.moves.Move.{Move}

-- an enumeration over INT whose first value is 2, and Main.count that one machine may write
abbrev mode_type : NamedType
mode_type = Enumeration (codes "Mode") INT (record { name = codes "Auto"; number = pos 2 } ∷ record { name = codes "Off"; number = pos 0 } ∷ [])

abbrev described : Description
described = record (description_with (
    plain_symbol (codes "M.mode") (One (Enum 0)) Process 0 (2 ∷ 0 ∷ [])
    ∷ record (count_symbol 4) { writers = VIEWER ∷ [] } ∷ [])) {
      types = mode_type ∷ [];
      routes = record { net = ENGINEER; rights = Control } ∷ record { net = VIEWER; rights = Write } ∷ [];
    }

abbrev given_here : List Move → List ℕ
given_here log = output_of 1 (state_after step (start_of (world_of described [])) (opened 1 ∷ log))

-- an addition from another port of the same machine
abbrev added_from : ℕ → ℕ → List ℕ
added_from port id =
    let payload = to_le_bytes w32 0x4040 ++ to_le_bytes w32 0 ++ to_le_bytes w32 4 ++ to_le_bytes w32 4 ++ replicate 24 0 in
    frame_bytes (NET ++ to_le_bytes w16 851 ++ ENGINEER ++ to_le_bytes w16 port ++ to_le_bytes w16 6 ++ to_le_bytes w16 4
    ++ to_le_bytes w32 (length payload) ++ to_le_bytes w32 0 ++ to_le_bytes w32 id ++ payload)

abbrev answer_at : ℕ → ℕ → ℕ → List ℕ
answer_at port id handle =
    frame_bytes (ENGINEER ++ to_le_bytes w16 port ++ NET ++ to_le_bytes w16 851 ++ to_le_bytes w16 6 ++ to_le_bytes w16 5
    ++ to_le_bytes w32 8 ++ to_le_bytes w32 0 ++ to_le_bytes w32 id ++ to_le_bytes w32 0 ++ to_le_bytes w32 handle)

record EnumerationRows : Type 0 where
  -- the bytes and the entry of an enumeration
  entry : given_here (piece 1 (q 2 1 (codes "40400000 00000000 02000000") ++ named 2 0xF009 64 (codes "M.mode")) ∷ [])
      ≡ a 2 1 (codes "00000000 02000000 0200")
      ++ a 9 2 (codes "00000000 2b000000 2b000000 40400000 00000000 02000000 02000000 00000000 0600 0400 0000 4d2e6d6f646500 4d6f646500 00")
  -- a symbol with writers is written by these alone, also by handle
  writers : given_here (
      piece 1 (q 3 1 (codes "40400000 04000000 04000000 05000000") ++ q_viewer 3 2 (codes "40400000 04000000 04000000 05000000"))
      ∷ piece 1 (named 3 0xF003 4 (codes "Main.count") ++ q 3 4 (codes "05f00000 01000000 01000000 01")
      ++ q_viewer 3 5 (codes "05f00000 01000000 01000000 01")) ∷ [])
      ≡ a 3 1 (codes "04070000") ++ a_viewer 3 2 (codes "00000000") ++ a 9 3 (codes "00000000 04000000 01000000")
      ++ a 3 4 (codes "04070000") ++ a_viewer 3 5 (codes "00000000")
  -- one frame for each client address, in the order of the least handle in it
  two_addresses : given (piece 1 (added_from 32905 1 ++ added_from 32906 2 ++ added_from 32905 3) ∷ tick 7 ∷ [])
      ≡ answer_at 32905 1 1 ++ answer_at 32906 2 2 ++ answer_at 32905 3 3
      ++ stamp_to 32905 7 2 (codes "01000000 04000000 2a000000 03000000 04000000 2a000000") ++ stamp_to 32906 7 1 (codes "02000000 04000000 2a000000")
  -- another base, or other bounds with as many elements, are another type
  other_base : is_same_type (EnumTree (codes "Mode") INT) (EnumTree (codes "Mode") UINT) ≡ false
  same_base : is_same_type (EnumTree (codes "Mode") INT) (EnumTree (codes "Mode") INT) ≡ true
  other_bounds : is_same_type (ArrayTree (record { low = pos 0; count = 2 } ∷ []) (PlainTree BYTE))
      (ArrayTree (record { low = pos 1; count = 2 } ∷ []) (PlainTree BYTE)) ≡ false

enumeration_rows : EnumerationRows
unfolding ams_length_of is_header front_of packet_of behind_frame frames_from frames_of left_behind rest_of has_same_parts has_same_members
    part_behind type_align greatest_align type_size members_end type_depth greatest_depth found_of byte_at with_byte trees_behind trees_of type_text
    group_in group_of request_in request_of byte_range bit_range size_range range_in header_of written_bytes reply_in notes_of connection_after_tick
    connection_after_reload state_after_event state_after_move state_after given_in_turn left_in_turn sum_refusal packed handles_after_all
    memory_after_puts world_after_tick client_after_tick read_write_group act_of plain_act produce produce_all connection_of put_back grant_in is_released_in
    place_after handle_in with_released handles_after write_group control_act client_after client_after_reload ended_of watches_after_reload
    ended_watches name_behind comment_behind entry_of_part numbers_from name_at names_at content_of projection_of acts_of_packets acts_of_move
    acts_of_log acts_by_others reply_in_forms outcome_in_all response_packet performed grouped frames_of_samples samples_at watches_after_tick
    reach_of outcomes_of memory_after_acts client_after_acts is_kept memory_after_reload world_after_reload client_reloaded answered_group
    after_packet after_packets after_piece read_group acts_of decide_request decide digits
enumeration_rows = record { entry = refl; writers = refl; two_addresses = refl; other_base = refl; same_base = refl; other_bounds = refl }
