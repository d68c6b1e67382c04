-- Notifications over ticks and reloads, and signals, by computation.
use Rattle.std.specs.Prelude.{◌≡◌, refl, [], ◌∷◌, ◌++◌, codes}
use Rattle.spec_plant.specs.PartTexts.{name_behind, comment_behind}
use Rattle.spec_formats.specs.Groups.{group_in, group_of}
use Rattle.spec_formats.specs.Header.{header_of}
use Rattle.spec_formats.specs.Ranges.{bit_range, byte_range, range_in, size_range}
use Rattle.spec_formats.specs.Reply.{reply_in, written_bytes}
use Rattle.spec_formats.specs.Request.{request_in, request_of}
use Rattle.spec_frames.specs.Division.{ams_length_of, behind_frame, frames_from, frames_of, front_of, is_header, left_behind, packet_of, rest_of}
use Rattle.spec_machine.specs.Access.{memory_after_puts}
use Rattle.spec_machine.specs.Acts.{client_after_acts, memory_after_acts, outcomes_of}
use Rattle.spec_machine.specs.Answers.{answered_group}
use Rattle.spec_machine.specs.ByName.{read_write_group}
use Rattle.spec_machine.specs.Client.{client_after, client_after_reload, ended_of}
use Rattle.spec_machine.specs.Connection.{connection_of, produce, produce_all, put_back}
use Rattle.spec_machine.specs.Entries.{entry_of_part}
use Rattle.spec_machine.specs.HandleLaws.{handles_after_all}
use Rattle.spec_machine.specs.Handles.{grant_in, handle_in, handles_after, is_released_in, place_after, with_released}
use Rattle.spec_machine.specs.Moves.{state_after, state_after_move}
use Rattle.spec_machine.specs.Events.{connection_after_reload, connection_after_tick, state_after_event}
use Rattle.spec_machine.specs.SumPackets.{acts_of, decide_request}
use Rattle.spec_machine.specs.Packets.{decide}
use Rattle.spec_machine.specs.Piece.{after_packet, after_packets, after_piece}
use Rattle.spec_machine.specs.Projection.{acts_by_others, acts_of_log, acts_of_move, acts_of_packets, projection_of}
use Rattle.spec_machine.specs.Reach.{reach_of}
use Rattle.spec_machine.specs.Reads.{read_group}
use Rattle.spec_machine.specs.Reloads.{client_reloaded, is_kept, memory_after_reload, world_after_reload}
use Rattle.spec_machine.specs.Replies.{outcome_in_all, performed, reply_in_forms, response_packet}
use Rattle.spec_machine.specs.Requests.{act_of, plain_act}
use Rattle.spec_machine.specs.RunText.{notes_of}
use Rattle.spec_machine.specs.Stamps.{frames_of_samples, grouped, samples_at, watches_after_tick}
use Rattle.spec_machine.specs.Sums.{given_in_turn, left_in_turn, packed, sum_refusal}
use Rattle.spec_machine.specs.Ticks.{client_after_tick, world_after_tick}
use Rattle.spec_machine.specs.Watches.{ended_watches, watches_after_reload}
use Rattle.spec_machine.specs.World.{content_of, name_at, names_at, numbers_from}
use Rattle.spec_machine.specs.Writes.{control_act, write_group}
use Rattle.spec_plant.specs.Finding.{found_of}
use Rattle.spec_plant.specs.Parts.{part_behind}
use Rattle.spec_plant.specs.SameTypes.{has_same_members, has_same_parts}
use Rattle.spec_plant.specs.Sizes.{greatest_align, greatest_depth, members_end, type_align, type_depth, type_size}
use Rattle.spec_plant.specs.Spelling.{type_text}
use Rattle.spec_plant.specs.Trees.{trees_behind, trees_of}
use Rattle.spec_plant.specs.World.{byte_at, with_byte}
use Rattle.std.specs.Fmt.{digits}
use Rattle.spec_machine.specs.MachineState.{start_of, output_of}
use Rattle.spec_machine.proofs.Plant.{q, a, added, stamp, piece, opened, tick, reload, given, plant, plant2, pair, step}
use Rattle.spec_machine.specs.World.{world_of}
use Rattle.spec_frames.proofs.Hex.{hex}

record NotificationRows : Type 0 where
  -- on change: 42, then 5 and 42 again, 7, 8, and ticks that go back
  on_change : given (
      piece 1 (added 1 (codes "40400000 00000000 04000000 04000000 00000000 00000000")) ∷ tick 1000
      ∷ piece 1 (q 3 2 (codes "40400000 00000000 04000000 05000000") ++ q 3 3 (codes "40400000 00000000 04000000 2a000000")) ∷ tick 2000
      ∷ piece 1 (q 3 4 (codes "40400000 00000000 04000000 07000000")) ∷ tick 3000
      ∷ piece 1 (q 3 5 (codes "40400000 00000000 04000000 08000000")) ∷ tick 3000 ∷ tick 3001 ∷ tick 10 ∷ [])
      ≡ a 6 1 (codes "00000000 01000000")
      ++ hex (codes "000040000000 c0a8000901018980 0501020301015303 08000400 20000000 00000000 00000000 "
      ++ codes "1c000000 01000000 e803000000000000 01000000 01000000 04000000 2a000000")
      ++ a 3 2 (codes "00000000") ++ a 3 3 (codes "00000000") ++ a 3 4 (codes "00000000") ++ stamp 3000 1 (codes "01000000 04000000 07000000")
      ++ a 3 5 (codes "00000000") ++ stamp 3001 1 (codes "01000000 04000000 08000000")
  -- cyclic, 1,000: the ticks 500, 1,499, 1,500 and 2,500
  cyclic : given (
      piece 1 (added 1 (codes "40400000 00000000 04000000 03000000 00000000 e8030000")) ∷ tick 500 ∷ tick 1499 ∷ tick 1500 ∷ tick 2500 ∷ [])
      ≡ a 6 1 (codes "00000000 01000000") ++ stamp 500 1 (codes "01000000 04000000 2a000000")
      ++ stamp 1500 1 (codes "01000000 04000000 2a000000") ++ stamp 2500 1 (codes "01000000 04000000 2a000000")
  -- a change at a tick that is not due is not lost
  not_due : given (
      piece 1 (added 1 (codes "40400000 00000000 04000000 04000000 00000000 e8030000")) ∷ tick 1000
      ∷ piece 1 (q 3 2 (codes "40400000 00000000 04000000 05000000")) ∷ tick 1500 ∷ tick 2000 ∷ [])
      ≡ a 6 1 (codes "00000000 01000000") ++ stamp 1000 1 (codes "01000000 04000000 2a000000")
      ++ a 3 2 (codes "00000000") ++ stamp 2000 1 (codes "01000000 04000000 05000000")
  -- a reload keeps one notification and ends another, and one over a symbol and a gap
  over_a_reload : given (
      piece 1 (added 1 (codes "40400000 00000000 04000000 04000000 00000000 00000000")
      ++ added 2 (codes "40400000 48000000 08000000 04000000 00000000 00000000")
      ++ added 3 (codes "40400000 00000000 08000000 04000000 00000000 00000000")) ∷ tick 1000
      ∷ piece 1 (q 3 4 (codes "40400000 00000000 04000000 09000000")) ∷ reload (codes "plant2") ∷ tick 2000
      ∷ piece 1 (q 2 5 (codes "40400000 64000000 04000000") ++ q 2 6 (codes "40400000 48000000 09000000") ++ q 2 7 (codes "08f00000 00000000 01000000"))
      ∷ reload (codes "no description")
      ∷ piece 1 (q 2 8 (codes "08f00000 00000000 01000000")) ∷ [])
      ≡ a 6 1 (codes "00000000 01000000") ++ a 6 2 (codes "00000000 02000000") ++ a 6 3 (codes "00000000 03000000")
      ++ stamp 1000 3 (codes "01000000 04000000 2a000000 02000000 08000000 4d69780000000000 03000000 08000000 2a00000000000000")
      ++ a 3 4 (codes "00000000") ++ stamp 1000 2 (codes "02000000 00000000 03000000 00000000") ++ stamp 2000 1 (codes "01000000 04000000 09000000")
      ++ a 2 5 (codes "00000000 04000000 09000000") ++ a 2 6 (codes "00000000 09000000 000000000000000000")
      ++ a 2 7 (codes "00000000 01000000 02") ++ a 2 8 (codes "00000000 01000000 02")
  -- an ended notification is told so by the old NetId, at the last moment
  old_net : given (piece 1 (added 1 (codes "40400000 48000000 08000000 04000000 00000000 00000000")) ∷ tick 9 ∷ reload (codes "plant3") ∷ [])
      ≡ a 6 1 (codes "00000000 01000000") ++ stamp 9 1 (codes "01000000 08000000 4d69780000000000") ++ stamp 9 1 (codes "01000000 00000000")
  -- a notification over two symbols that one reload keeps ends; one over the first of them goes on
  two_kept : output_of 1 (state_after step (start_of (world_of pair [])) (opened 1
      ∷ piece 1 (added 1 (codes "40400000 00000000 08000000 04000000 00000000 00000000")
      ++ added 2 (codes "40400000 00000000 04000000 04000000 00000000 00000000")) ∷ tick 9
      ∷ reload (codes "pair") ∷ piece 1 (q 3 3 (codes "40400000 00000000 04000000 05000000")) ∷ tick 10 ∷ []))
      ≡ a 6 1 (codes "00000000 01000000") ++ a 6 2 (codes "00000000 02000000")
      ++ stamp 9 2 (codes "01000000 08000000 2a0000002b000000 02000000 04000000 2a000000")
      ++ stamp 9 1 (codes "01000000 00000000") ++ a 3 3 (codes "00000000") ++ stamp 10 1 (codes "02000000 04000000 05000000")
  -- the version wraps behind 255
  version : (world_after_reload (record (world_of plant []) { version = 255 }) plant2).version ≡ 0
  -- refused additions, in their order; a notification is deleted once
  refused : given (
      piece 1 (added 1 (codes "99990000 00000000 01080000 05000000 00000000 00000000")
      ++ added 2 (codes "99990000 00000000 01080000 04000000 00000000 00000000")
      ++ added 3 (codes "99990000 00000000 00000000 04000000 00000000 00000000") ++ added 4 (codes "40400000 81000000 00000000 04000000 00000000 00000000")
      ++ added 5 (codes "40400000 80000000 00000000 04000000 00000000 00000000") ++ added 6 (codes "05f00000 01000000 00000000 04000000 00000000 00000000"))
      ∷ piece 1 (added 7 (codes "21400000 03000000 01000000 03000000 00000000 00000000") ++ q 7 8 (codes "01000000") ++ q 7 9 (codes "01000000")) ∷ [])
      ≡ a 6 1 (codes "13070000 00000000") ++ a 6 2 (codes "17070000 00000000") ++ a 6 3 (codes "02070000 00000000") ++ a 6 4 (codes "03070000 00000000")
      ++ a 6 5 (codes "05070000 00000000") ++ a 6 6 (codes "10070000 00000000")
      ++ a 6 7 (codes "00000000 01000000") ++ a 7 8 (codes "00000000") ++ a 7 9 (codes "14070000")
  -- a symbol's signal: a client's write lasts until the next tick
  signal : given (
      piece 1 (added 1 (codes "40400000 40000000 02000000 04000000 00000000 00000000")) ∷ tick 100000 ∷ tick 200000
      ∷ piece 1 (q 3 2 (codes "40400000 40000000 02000000 ffff") ++ q 2 3 (codes "40400000 40000000 02000000")) ∷ tick 300000 ∷ [])
      ≡ a 6 1 (codes "00000000 01000000") ++ stamp 100000 1 (codes "01000000 02000000 0300") ++ stamp 200000 1 (codes "01000000 02000000 0100")
      ++ a 3 2 (codes "00000000") ++ a 2 3 (codes "00000000 02000000 ffff") ++ stamp 300000 1 (codes "01000000 02000000 0400")

notification_rows : NotificationRows
unfolding ams_length_of is_header front_of packet_of behind_frame frames_from frames_of left_behind rest_of has_same_parts has_same_members
    part_behind type_align greatest_align type_size members_end type_depth greatest_depth found_of byte_at with_byte trees_behind trees_of type_text
    group_in group_of request_in request_of byte_range bit_range size_range range_in header_of written_bytes reply_in notes_of connection_after_tick
    connection_after_reload state_after_event state_after_move state_after given_in_turn left_in_turn sum_refusal packed handles_after_all
    memory_after_puts world_after_tick client_after_tick read_write_group act_of plain_act produce produce_all connection_of put_back grant_in is_released_in
    place_after handle_in with_released handles_after write_group control_act client_after client_after_reload ended_of watches_after_reload
    ended_watches name_behind comment_behind entry_of_part numbers_from name_at names_at content_of projection_of acts_of_packets acts_of_move
    acts_of_log acts_by_others reply_in_forms outcome_in_all response_packet performed grouped frames_of_samples samples_at watches_after_tick
    reach_of outcomes_of memory_after_acts client_after_acts is_kept memory_after_reload world_after_reload client_reloaded answered_group
    after_packet after_packets after_piece read_group acts_of decide_request decide digits
notification_rows = record
    { on_change = refl; cyclic = refl; not_due = refl; over_a_reload = refl; old_net = refl; two_kept = refl; version = refl; refused = refl; signal = refl }
