-- Sum commands, by computation.
use Rattle.std.specs.Prelude.{◌≡◌, refl, [], ◌∷◌, ◌++◌, codes}
use Rattle.spec_plant.specs.PartTexts.{name_behind, comment_behind}
use Rattle.spec_formats.specs.Groups.{group_in, group_of}
use Rattle.spec_formats.specs.Header.{header_of}
use Rattle.spec_formats.specs.Ranges.{bit_range, byte_range, range_in, size_range}
use Rattle.spec_formats.specs.Reply.{reply_in, written_bytes}
use Rattle.spec_formats.specs.Request.{request_in, request_of}
use Rattle.spec_frames.specs.Division.{ams_length_of, behind_frame, frames_from, frames_of, front_of, is_header, left_behind, packet_of, rest_of}
use Rattle.spec_machine.specs.Access.{memory_after_puts}
use Rattle.spec_machine.specs.Acts.{client_after_acts, memory_after_acts, outcomes_of}
use Rattle.spec_machine.specs.Answers.{answered_group}
use Rattle.spec_machine.specs.ByName.{read_write_group}
use Rattle.spec_machine.specs.Client.{client_after, client_after_reload, ended_of}
use Rattle.spec_machine.specs.Connection.{connection_of, produce, produce_all, put_back}
use Rattle.spec_machine.specs.Entries.{entry_of_part}
use Rattle.spec_machine.specs.HandleLaws.{handles_after_all}
use Rattle.spec_machine.specs.Handles.{grant_in, handle_in, handles_after, is_released_in, place_after, with_released}
use Rattle.spec_machine.specs.Moves.{state_after, state_after_move}
use Rattle.spec_machine.specs.Events.{connection_after_reload, connection_after_tick, state_after_event}
use Rattle.spec_machine.specs.SumPackets.{acts_of, decide_request}
use Rattle.spec_machine.specs.Packets.{decide}
use Rattle.spec_machine.specs.Piece.{after_packet, after_packets, after_piece}
use Rattle.spec_machine.specs.Projection.{acts_by_others, acts_of_log, acts_of_move, acts_of_packets, projection_of}
use Rattle.spec_machine.specs.Reach.{reach_of}
use Rattle.spec_machine.specs.Reads.{read_group}
use Rattle.spec_machine.specs.Reloads.{client_reloaded, is_kept, memory_after_reload, world_after_reload}
use Rattle.spec_machine.specs.Replies.{outcome_in_all, performed, reply_in_forms, response_packet}
use Rattle.spec_machine.specs.Requests.{act_of, plain_act}
use Rattle.spec_machine.specs.RunText.{notes_of}
use Rattle.spec_machine.specs.Stamps.{frames_of_samples, grouped, samples_at, watches_after_tick}
use Rattle.spec_machine.specs.Sums.{given_in_turn, left_in_turn, packed, sum_refusal}
use Rattle.spec_machine.specs.Ticks.{client_after_tick, world_after_tick}
use Rattle.spec_machine.specs.Watches.{ended_watches, watches_after_reload}
use Rattle.spec_machine.specs.World.{content_of, name_at, names_at, numbers_from}
use Rattle.spec_machine.specs.Writes.{control_act, write_group}
use Rattle.spec_plant.specs.Finding.{found_of}
use Rattle.spec_plant.specs.Parts.{part_behind}
use Rattle.spec_plant.specs.SameTypes.{has_same_members, has_same_parts}
use Rattle.spec_plant.specs.Sizes.{greatest_align, greatest_depth, members_end, type_align, type_depth, type_size}
use Rattle.spec_plant.specs.Spelling.{type_text}
use Rattle.spec_plant.specs.Trees.{trees_behind, trees_of}
use Rattle.spec_plant.specs.World.{byte_at, with_byte}
use Rattle.std.specs.Fmt.{digits}
use Rattle.spec_machine.proofs.Plant.{q, a, piece, given}

record SumRows : Type 0 where
  -- a sum read with a failing part, and one that gives less than it asked
  failing_part : given (piece 1
      (q 9 1 (codes "80f00000 03000000 1a000000 24000000  40400000 00000000 04000000  40400000 c8000000 02000000  25400000 00000000 08000000")) ∷ [])
      ≡ a 9 1 (codes "00000000 1a000000  00000000 03070000 00000000  2a000000 0000 2000000000000000")
  -- the limits: of parts, of the written length, of the read length
  limits : given (
      piece 1 (q 9 1 (codes "80f00000 f5010000 00000000 00000000") ++ q 9 2 (codes "80f00000 ffffffff 08000000 00000000"))
      ∷ piece 1 (q 9 3 (codes "80f00000 01000000 ffffffff 0b000000 40400000 00000000 040000"))
      ∷ piece 1 (q 9 4 (codes "80f00000 01000000 07000000 0c000000 40400000 00000000 04000000"))
      ∷ piece 1 (q 9 5 (codes "80f00000 01000000 08000000 0c000000 40400000 00000000 04000000") ++ q 9 6 (codes "81f00000 00000000 00000000 00000000")) ∷ [])
      ≡ a 9 1 (codes "06070000 00000000") ++ a 9 2 (codes "06070000 00000000") ++ a 9 3 (codes "05070000 00000000")
      ++ a 9 4 (codes "05070000 00000000") ++ a 9 5 (codes "00000000 08000000 00000000 2a000000") ++ a 9 6 (codes "00000000 00000000")
  -- a sum inside a sum is no group
  sum_in_a_sum : given (piece 1 (q 9 2 (codes "82f00000 01000000 08000000 10000000  80f00000 00000000 00000000 00000000")) ∷ [])
      ≡ a 9 2 (codes "00000000 08000000 02070000 00000000")
  -- to the strict server the sums of the wide one are no groups
  wide_sums : given (
      piece 1 (q 9 1 (codes "83f00000 01000000 0c000000 0c000000  40400000 00000000 04000000"))
      ∷ piece 1 (q 9 2 (codes "84f00000 01000000 0c000000 0c000000  40400000 00000000 04000000")) ∷ [])
      ≡ a 9 1 (codes "02070000 00000000") ++ a 9 2 (codes "02070000 00000000")
  -- a sum write goes on after a refused part
  goes_on : given (
      piece 1 (q 9 1 (codes
      "81f00000 03000000 0c000000 28000000  40400000 00000000 01000000  40400000 3c000000 02000000  40400000 01000000 01000000  05 0000 06"))
      ∷ piece 1 (q 2 2 (codes "40400000 00000000 04000000")) ∷ [])
      ≡ a 9 1 (codes "00000000 0c000000  00000000 04070000 00000000") ++ a 2 2 (codes "00000000 04000000 05060000")
  -- two handles from one sum
  two_handles : given (piece 1 (q 9 1 (codes "82f00000 02000000 18000000 34000000  "
      ++ codes "03f00000 00000000 04000000 0a000000  03f00000 00000000 04000000 0a000000  4d61696e2e636f756e74 4d61696e2e636f756e74")) ∷ [])
      ≡ a 9 1 (codes "00000000 18000000  00000000 04000000  00000000 04000000  01000000 02000000")

sum_rows : SumRows
unfolding ams_length_of is_header front_of packet_of behind_frame frames_from frames_of left_behind rest_of has_same_parts has_same_members
    part_behind type_align greatest_align type_size members_end type_depth greatest_depth found_of byte_at with_byte trees_behind trees_of type_text
    group_in group_of request_in request_of byte_range bit_range size_range range_in header_of written_bytes reply_in notes_of connection_after_tick
    connection_after_reload state_after_event state_after_move state_after given_in_turn left_in_turn sum_refusal packed handles_after_all
    memory_after_puts world_after_tick client_after_tick read_write_group act_of plain_act produce produce_all connection_of put_back grant_in is_released_in
    place_after handle_in with_released handles_after write_group control_act client_after client_after_reload ended_of watches_after_reload
    ended_watches name_behind comment_behind entry_of_part numbers_from name_at names_at content_of projection_of acts_of_packets acts_of_move
    acts_of_log acts_by_others reply_in_forms outcome_in_all response_packet performed grouped frames_of_samples samples_at watches_after_tick
    reach_of outcomes_of memory_after_acts client_after_acts is_kept memory_after_reload world_after_reload client_reloaded answered_group
    after_packet after_packets after_piece read_group acts_of decide_request decide digits
sum_rows = record { failing_part = refl; limits = refl; sum_in_a_sum = refl; wide_sums = refl; goes_on = refl; two_handles = refl }
