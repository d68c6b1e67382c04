-- What the wide server takes requests of clients for, by computation.
use Rattle.std.specs.Prelude.{◌≡◌, refl, ℕ, List, [], ◌∷◌, ◌++◌, codes, replicate}
use Rattle.ads_outside.specs.declared.moves.Move.{Move}
use Rattle.spec_plant.specs.PartTexts.{name_behind, comment_behind}
use Rattle.spec_formats.specs.Groups.{group_in, group_of}
use Rattle.spec_formats.specs.Header.{header_of}
use Rattle.spec_formats.specs.Ranges.{bit_range, byte_range, range_in, size_range}
use Rattle.spec_formats.specs.Reply.{reply_in, written_bytes}
use Rattle.spec_formats.specs.Request.{request_in, request_of}
use Rattle.spec_frames.specs.Division.{ams_length_of, behind_frame, frames_from, frames_of, front_of, is_header, left_behind, packet_of, rest_of}
use Rattle.spec_machine.specs.Access.{memory_after_puts}
use Rattle.spec_machine.specs.Acts.{client_after_acts, memory_after_acts, outcomes_of}
use Rattle.spec_machine.specs.Answers.{answered_group}
use Rattle.spec_machine.specs.ByName.{read_write_group}
use Rattle.spec_machine.specs.Client.{client_after, client_after_reload, ended_of}
use Rattle.spec_machine.specs.Connection.{connection_of, produce, produce_all, put_back}
use Rattle.spec_machine.specs.Entries.{entry_of_part}
use Rattle.spec_machine.specs.HandleLaws.{handles_after_all}
use Rattle.spec_machine.specs.Handles.{grant_in, handle_in, handles_after, is_released_in, place_after, with_released}
use Rattle.spec_machine.specs.MachineState.{start_of, output_of}
use Rattle.spec_machine.specs.Profile.{wide}
use Rattle.spec_machine.specs.Moves.{state_after, state_after_move}
use Rattle.spec_machine.specs.Events.{connection_after_reload, connection_after_tick, state_after_event}
use Rattle.spec_machine.specs.SumPackets.{acts_of, decide_request}
use Rattle.spec_machine.specs.Packets.{decide}
use Rattle.spec_machine.specs.Piece.{after_packet, after_packets, after_piece}
use Rattle.spec_machine.specs.Projection.{acts_by_others, acts_of_log, acts_of_move, acts_of_packets, projection_of}
use Rattle.spec_machine.specs.Reach.{reach_of}
use Rattle.spec_machine.specs.Reads.{read_group}
use Rattle.spec_machine.specs.Reloads.{client_reloaded, is_kept, memory_after_reload, world_after_reload}
use Rattle.spec_machine.specs.Replies.{outcome_in_all, performed, reply_in_forms, response_packet}
use Rattle.spec_machine.specs.Requests.{act_of, plain_act}
use Rattle.spec_machine.specs.RunText.{notes_of}
use Rattle.spec_machine.specs.Stamps.{frames_of_samples, grouped, samples_at, watches_after_tick}
use Rattle.spec_machine.specs.Sums.{given_in_turn, left_in_turn, packed, sum_refusal}
use Rattle.spec_machine.specs.Ticks.{client_after_tick, world_after_tick}
use Rattle.spec_machine.specs.Watches.{ended_watches, watches_after_reload}
use Rattle.spec_machine.specs.World.{world_in, content_of, name_at, names_at, numbers_from}
use Rattle.spec_machine.specs.Writes.{control_act, write_group}
use Rattle.spec_plant.specs.Finding.{found_of}
use Rattle.spec_plant.specs.Parts.{part_behind}
use Rattle.spec_plant.specs.SameTypes.{has_same_members, has_same_parts}
use Rattle.spec_plant.specs.Sizes.{greatest_align, greatest_depth, members_end, type_align, type_depth, type_size}
use Rattle.spec_plant.specs.Spelling.{type_text}
use Rattle.spec_plant.specs.Trees.{trees_behind, trees_of}
use Rattle.spec_plant.specs.World.{byte_at, with_byte}
use Rattle.std.specs.Fmt.{digits}
use Rattle.spec_machine.proofs.Plant.{q, a, added, named, stamp, tick, opened, piece, reload, plant, waves, step}

-- all that connection 1 of the wide server is given, where it is opened first
abbrev given_wide : List Move → List ℕ
given_wide log = output_of 1 (state_after step (start_of (world_in wide plant waves)) (opened 1 ∷ log))

record WideRows : Type 0 where
  -- by handle and by name, more bytes than there are: those that are there, of a part too; a part of a sum is filled to the asked length
  longer_reads : given_wide (
      piece 1 (named 1 0xF003 4 (codes "Main.title")) ∷ piece 1 (q 2 2 (codes "05f00000 01000000 00040000"))
      ∷ piece 1 (named 3 0xF004 1024 (codes "Main.count" ++ 0 ∷ [])) ∷ piece 1 (named 4 0xF003 4 (codes "Main.axis[2].pos"))
      ∷ piece 1 (q 2 5 (codes "05f00000 02000000 ffffffff") ++ q 2 6 (codes "05f00000 02000000 02000000"))
      ∷ piece 1 (q 9 7 (codes "80f00000 01000000 14000000 0c000000 05f00000 01000000 10000000")) ∷ [])
      ≡ a 9 1 (codes "00000000 04000000 01000000") ++ a 2 2 (codes "00000000 08000000 4d69780000000000")
      ++ a 9 3 (codes "00000000 04000000 2a000000") ++ a 9 4 (codes "00000000 04000000 02000000")
      ++ a 2 5 (codes "00000000 04000000 00000000") ++ a 2 6 (codes "00000000 02000000 0000")
      ++ a 9 7 (codes "00000000 14000000 00000000 4d69780000000000 0000000000000000")
  -- a released handle, longer writes, and reads past an area are refused as ever, also watched bytes
  as_ever : given_wide (
      piece 1 (named 1 0xF003 4 (codes "Main.title") ++ named 2 0xF003 4 (codes "Main.title"))
      ∷ piece 1 (q 3 3 (codes "05f00000 01000000 09000000 010203040506070809") ++ q 2 4 (codes "05f00000 01000000 00040000"))
      ∷ piece 1 (q 3 5 (codes "06f00000 00000000 04000000 02000000") ++ q 2 6 (codes "05f00000 02000000 00040000"))
      ∷ piece 1 (q 2 7 (codes "40400000 48000000 00040000")) ∷ piece 1 (added 8 (codes "05f00000 01000000 09000000 04000000 00000000 00000000")) ∷ [])
      ≡ a 9 1 (codes "00000000 04000000 01000000") ++ a 9 2 (codes "00000000 04000000 02000000") ++ a 3 3 (codes "05070000")
      ++ a 2 4 (codes "00000000 08000000 4d69780000000000") ++ a 3 5 (codes "00000000") ++ a 2 6 (codes "10070000 00000000")
      ++ a 2 7 (codes "05070000 00000000") ++ a 6 8 (codes "05070000 00000000")
  -- an accepted reload: the server stays wide, and the handle is good for the moved symbol
  over_a_reload : given_wide (
      piece 1 (named 1 0xF003 4 (codes "Main.count")) ∷ reload (codes "plant2") ∷ piece 1 (q 2 2 (codes "05f00000 01000000 00040000")) ∷ [])
      ≡ a 9 1 (codes "00000000 04000000 01000000") ++ a 2 2 (codes "00000000 04000000 2a000000")
  -- names with NULs, and one full stop in front, but not two; no name; the NULs of what is no name are data
  names : given_wide (
      piece 1 (named 1 0xF003 4 (codes "MAIN.COUNT" ++ replicate 71 0) ++ named 2 0xF003 4 (codes ".Main.count" ++ 0 ∷ []))
      ∷ piece 1 (named 3 0xF003 4 (codes "..Main.count") ++ named 4 0xF003 4 (replicate 9 0) ++ named 5 0xF007 12 (codes ".Main.count" ++ 0 ∷ 0 ∷ []))
      ∷ piece 1 (q 9 6 (codes "81f00000 02000000 08000000 1c000000 40400000 00000000 02000000 40400000 02000000 02000000 07000900"))
      ∷ piece 1 (q 2 7 (codes "40400000 00000000 04000000")) ∷ [])
      ≡ a 9 1 (codes "00000000 04000000 01000000") ++ a 9 2 (codes "00000000 04000000 02000000") ++ a 9 3 (codes "10070000 00000000")
      ++ a 9 4 (codes "10070000 00000000") ++ a 9 5 (codes "00000000 0c000000 40400000 00000000 04000000")
      ++ a 9 6 (codes "00000000 08000000 00000000 00000000") ++ a 2 7 (codes "00000000 04000000 07000900")
  -- the modes in the context of a task are those without; others are refused as ever
  modes : given_wide (
      piece 1 (added 1 (codes "40400000 00000000 04000000 06000000 00000000 00000000")
      ++ added 2 (codes "40400000 00000000 04000000 05000000 00000000 00000000"))
      ∷ tick 1000 ∷ tick 2000
      ∷ piece 1 (added 3 (codes "40400000 00000000 04000000 02000000 00000000 00000000")
      ++ added 4 (codes "40400000 00000000 04000000 07000000 00000000 00000000")) ∷ [])
      ≡ a 6 1 (codes "00000000 01000000") ++ a 6 2 (codes "00000000 02000000")
      ++ stamp 1000 2 (codes "01000000 04000000 2a000000 02000000 04000000 2a000000") ++ stamp 2000 1 (codes "02000000 04000000 2a000000")
      ++ a 6 3 (codes "13070000 00000000") ++ a 6 4 (codes "13070000 00000000")
  -- sums of reads whose results tell their lengths: the data of each filled to the asked length, or as long as it is; a refused part
  -- has none; the limits are those of all sums, and a sum inside a sum is no group
  told_reads : given_wide (
      piece 1 (named 1 0xF003 4 (codes "Main.title"))
      ∷ piece 1 (q 9 2 (codes "84f00000 02000000 24000000 18000000  05f00000 01000000 10000000  05f00000 63000000 04000000"))
      ∷ piece 1 (q 9 3 (codes "83f00000 02000000 24000000 18000000  05f00000 01000000 10000000  05f00000 63000000 04000000"))
      ∷ piece 1 (q 9 4 (codes "83f00000 02000000 23000000 18000000  05f00000 01000000 10000000  05f00000 63000000 04000000"))
      ∷ piece 1 (q 9 5 (codes "84f00000 01000000 ffffffff 0b000000  40400000 00000000 040000"))
      ∷ piece 1 (q 9 6 (codes "82f00000 02000000 18000000 20000000  83f00000 00000000 04000000 00000000  84f00000 00000000 04000000 00000000")) ∷ [])
      ≡ a 9 1 (codes "00000000 04000000 01000000")
      ++ a 9 2 (codes "00000000 18000000  00000000 08000000  10070000 00000000  4d69780000000000")
      ++ a 9 3 (codes "00000000 24000000  00000000 08000000  10070000 00000000  4d69780000000000 0000000000000000 00000000")
      ++ a 9 4 (codes "05070000 00000000") ++ a 9 5 (codes "05070000 00000000")
      ++ a 9 6 (codes "00000000 10000000  02070000 00000000  02070000 00000000")
  -- additions without the reserved bytes of the command or with them: each result with its handle, 0 where it is refused; what is added
  -- is sent at the next tick
  additions : given_wide (
      piece 1 (q 9 1 (codes "85f00000 02000000 10000000 30000000  40400000 00000000 04000000 04000000 00000000 00000000"
      ++ codes "40400000 00000000 04000000 02000000 00000000 00000000"))
      ∷ piece 1 (q 9 2 (codes "85f00000 01000000 08000000 28000000  40400000 00000000 02000000 03000000 00000000 00000000"
      ++ codes "01020304 05060708 090a0b0c 0d0e0f10"))
      ∷ tick 1000 ∷ [])
      ≡ a 9 1 (codes "00000000 10000000  00000000 01000000  13070000 00000000") ++ a 9 2 (codes "00000000 08000000  00000000 02000000")
      ++ stamp 1000 2 (codes "01000000 04000000 2a000000 02000000 02000000 2a00")
  -- deletions: a notification is deleted once
  deletions : given_wide (
      piece 1 (added 1 (codes "40400000 00000000 04000000 04000000 00000000 00000000"))
      ∷ piece 1 (q 9 2 (codes "86f00000 03000000 0c000000 0c000000  01000000 01000000 02000000")) ∷ tick 1000 ∷ [])
      ≡ a 6 1 (codes "00000000 01000000") ++ a 9 2 (codes "00000000 0c000000  00000000 14070000 14070000")
  -- the limits of both are those of all sums, and a sum inside a sum is no group
  notes_limits : given_wide (
      piece 1 (q 9 1 (codes "85f00000 01000000 07000000 18000000  40400000 00000000 04000000 04000000 00000000 00000000"))
      ∷ piece 1 (q 9 2 (codes "86f00000 02000000 ffffffff 07000000  02000000 020000"))
      ∷ piece 1 (q 9 3 (codes "82f00000 02000000 18000000 20000000  85f00000 00000000 04000000 00000000  86f00000 00000000 04000000 00000000")) ∷ [])
      ≡ a 9 1 (codes "05070000 00000000") ++ a 9 2 (codes "05070000 00000000") ++ a 9 3 (codes "00000000 10000000  02070000 00000000  02070000 00000000")

wide_rows : WideRows
unfolding ams_length_of is_header front_of packet_of behind_frame frames_from frames_of left_behind rest_of has_same_parts has_same_members
    part_behind type_align greatest_align type_size members_end type_depth greatest_depth found_of byte_at with_byte trees_behind trees_of type_text
    group_in group_of request_in request_of byte_range bit_range size_range range_in header_of written_bytes reply_in notes_of connection_after_tick
    connection_after_reload state_after_event state_after_move state_after given_in_turn left_in_turn sum_refusal packed handles_after_all
    memory_after_puts world_after_tick client_after_tick read_write_group act_of plain_act produce produce_all connection_of put_back grant_in is_released_in
    place_after handle_in with_released handles_after write_group control_act client_after client_after_reload ended_of watches_after_reload
    ended_watches name_behind comment_behind entry_of_part numbers_from name_at names_at content_of projection_of acts_of_packets acts_of_move
    acts_of_log acts_by_others reply_in_forms outcome_in_all response_packet performed grouped frames_of_samples samples_at watches_after_tick
    reach_of outcomes_of memory_after_acts client_after_acts is_kept memory_after_reload world_after_reload client_reloaded answered_group
    after_packet after_packets after_piece read_group acts_of decide_request decide digits
wide_rows = record {
  longer_reads = refl;
  as_ever = refl;
  over_a_reload = refl;
  names = refl;
  modes = refl;
  told_reads = refl;
  additions = refl;
  deletions = refl;
  notes_limits = refl;
}
