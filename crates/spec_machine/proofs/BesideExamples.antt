-- A client beside a busy one gets what it would get alone, by computation on a short log.
use Rattle.std.specs.Prelude.{◌≡◌, refl, ℕ, List, [], ◌∷◌, ◌++◌, codes}
use Rattle.spec_plant.specs.PartTexts.{name_behind, comment_behind}
use Rattle.spec_formats.specs.Groups.{group_in, group_of}
use Rattle.spec_formats.specs.Header.{header_of}
use Rattle.spec_formats.specs.Ranges.{bit_range, byte_range, range_in, size_range}
use Rattle.spec_formats.specs.Reply.{reply_in, written_bytes}
use Rattle.spec_formats.specs.Request.{request_in, request_of}
use Rattle.spec_frames.specs.Division.{ams_length_of, behind_frame, frames_from, frames_of, front_of, is_header, left_behind, packet_of, rest_of}
use Rattle.spec_machine.specs.Access.{memory_after_puts}
use Rattle.spec_machine.specs.Acts.{client_after_acts, memory_after_acts, outcomes_of}
use Rattle.spec_machine.specs.Answers.{answered_group}
use Rattle.spec_machine.specs.ByName.{read_write_group}
use Rattle.spec_machine.specs.Client.{client_after, client_after_reload, ended_of}
use Rattle.spec_machine.specs.Connection.{connection_of, produce, produce_all, put_back}
use Rattle.spec_machine.specs.Entries.{entry_of_part}
use Rattle.spec_machine.specs.HandleLaws.{handles_after_all}
use Rattle.spec_machine.specs.Handles.{grant_in, handle_in, handles_after, is_released_in, place_after, with_released}
use Rattle.spec_machine.specs.Moves.{state_after, state_after_move}
use Rattle.spec_machine.specs.Events.{connection_after_reload, connection_after_tick, state_after_event}
use Rattle.spec_machine.specs.SumPackets.{acts_of, decide_request}
use Rattle.spec_machine.specs.Packets.{decide}
use Rattle.spec_machine.specs.Piece.{after_packet, after_packets, after_piece}
use Rattle.spec_machine.specs.Projection.{acts_by_others, acts_of_log, acts_of_move, acts_of_packets, projection_of}
use Rattle.spec_machine.specs.Reach.{reach_of}
use Rattle.spec_machine.specs.Reads.{read_group}
use Rattle.spec_machine.specs.Reloads.{client_reloaded, is_kept, memory_after_reload, world_after_reload}
use Rattle.spec_machine.specs.Replies.{outcome_in_all, performed, reply_in_forms, response_packet}
use Rattle.spec_machine.specs.Requests.{act_of, plain_act}
use Rattle.spec_machine.specs.RunText.{notes_of}
use Rattle.spec_machine.specs.Stamps.{frames_of_samples, grouped, samples_at, watches_after_tick}
use Rattle.spec_machine.specs.Sums.{given_in_turn, left_in_turn, packed, sum_refusal}
use Rattle.spec_machine.specs.Ticks.{client_after_tick, world_after_tick}
use Rattle.spec_machine.specs.Watches.{ended_watches, watches_after_reload}
use Rattle.spec_machine.specs.World.{content_of, name_at, names_at, numbers_from}
use Rattle.spec_machine.specs.Writes.{control_act, write_group}
use Rattle.spec_plant.specs.Finding.{found_of}
use Rattle.spec_plant.specs.Parts.{part_behind}
use Rattle.spec_plant.specs.SameTypes.{has_same_members, has_same_parts}
use Rattle.spec_plant.specs.Sizes.{greatest_align, greatest_depth, members_end, type_align, type_depth, type_size}
use Rattle.spec_plant.specs.Spelling.{type_text}
use Rattle.spec_plant.specs.Trees.{trees_behind, trees_of}
use Rattle.spec_plant.specs.World.{byte_at, with_byte}
use Rattle.std.specs.Fmt.{digits}
use Rattle.ads_outside.specs.declared.moves.Move.{Move}
use Rattle.spec_machine.specs.MachineState.{output_of}
use Rattle.spec_plant.specs.World.{ByteName}
use Rattle.spec_machine.specs.World.{symbol_names}
use Rattle.spec_machine.specs.Projection.{reads_of, writes_by_others}
use Rattle.spec_machine.proofs.Plant.{q, named, added, piece, opened, tick, reload, reading, step, start}
use Rattle.spec_frames.proofs.Hex.{hex}

-- connection 1 reads Main.count, watches and writes Flags.bits; connection 2 takes handles, writes Main.axis and Main.title,
-- watches, and is closed by a broken frame
abbrev busy : List Move
busy =
    opened 1 ∷ opened 2
    ∷ piece 1 (q 2 1 (codes "40400000 00000000 04000000")) ∷ piece 2 (named 1 0xF003 4 (codes "Main.count") ++ named 2 0xF003 4 (codes "Main.axis"))
    ∷ piece 1 (named 2 0xF003 4 (codes "Main.count")) ∷ piece 2 (q 3 3 (codes "40400000 08000000 02000000 0102"))
    ∷ piece 1 (added 3 (codes "20400000 00000000 01000000 04000000 00000000 00000000"))
    ∷ piece 2 (added 4 (codes "40400000 08000000 02000000 03000000 00000000 00000000"))
    ∷ tick 1000 ∷ piece 2 (q 3 5 (codes "40400000 48000000 01000000 41"))
    ∷ piece 1 (q 3 5 (codes "20400000 00000000 01000000 05"))
    ∷ reload (codes "plant2") ∷ piece 2 (hex (codes "0100200000ff")) ∷ tick 2000
    ∷ piece 1 (q 2 4 (codes "05f00000 01000000 04000000")) ∷ []

-- so many bytes of a symbol of port 851
abbrev named_bytes : List ℕ → ℕ → List ByteName
named_bytes symbol len = symbol_names 851 symbol 0 len

record BesideRows : Type 0 where
  -- what connection 1 reads, were it alone: Main.count, Flags.bits, and Main.count by its handle
  reads : reads_of reading 1 start busy ≡ named_bytes (codes "main.count") 4 ++ named_bytes (codes "flags.bits") 1 ++ named_bytes (codes "main.count") 4
  -- what connection 2 writes: two bytes of Main.axis, one of Main.title
  writes : writes_by_others reading 1 start busy ≡ named_bytes (codes "main.axis") 2 ++ named_bytes (codes "main.title") 1
  alone : output_of 1 (state_after step start busy) ≡ output_of 1 (state_after step start (projection_of 1 busy))

beside_rows : BesideRows
unfolding ams_length_of is_header front_of packet_of behind_frame frames_from frames_of left_behind rest_of has_same_parts has_same_members
    part_behind type_align greatest_align type_size members_end type_depth greatest_depth found_of byte_at with_byte trees_behind trees_of type_text
    group_in group_of request_in request_of byte_range bit_range size_range range_in header_of written_bytes reply_in notes_of connection_after_tick
    connection_after_reload state_after_event state_after_move state_after given_in_turn left_in_turn sum_refusal packed handles_after_all
    memory_after_puts world_after_tick client_after_tick read_write_group act_of plain_act produce produce_all connection_of put_back grant_in is_released_in
    place_after handle_in with_released handles_after write_group control_act client_after client_after_reload ended_of watches_after_reload
    ended_watches name_behind comment_behind entry_of_part numbers_from name_at names_at content_of projection_of acts_of_packets acts_of_move
    acts_of_log acts_by_others reply_in_forms outcome_in_all response_packet performed grouped frames_of_samples samples_at watches_after_tick
    reach_of outcomes_of memory_after_acts client_after_acts is_kept memory_after_reload world_after_reload client_reloaded answered_group
    after_packet after_packets after_piece read_group acts_of decide_request decide digits
beside_rows = record { reads = refl; writes = refl; alone = refl }
