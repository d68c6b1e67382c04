-- A server that gives a right to each machine without a route, by computation.
use Rattle.std.specs.Prelude.{◌≡◌, refl, ℕ, List, [], ◌∷◌, ◌++◌, codes, Option, Some, None}
use Rattle.ads_outside.specs.declared.moves.Move.{Move}
use Rattle.spec_plant.specs.PartTexts.{name_behind, comment_behind}
use Rattle.spec_formats.specs.Groups.{group_in, group_of}
use Rattle.spec_formats.specs.Header.{header_of}
use Rattle.spec_formats.specs.Ranges.{bit_range, byte_range, range_in, size_range}
use Rattle.spec_formats.specs.Reply.{reply_in, written_bytes}
use Rattle.spec_formats.specs.Request.{request_in, request_of}
use Rattle.spec_frames.specs.Division.{ams_length_of, behind_frame, frames_from, frames_of, front_of, is_header, left_behind, packet_of, rest_of}
use Rattle.spec_machine.specs.Access.{memory_after_puts}
use Rattle.spec_machine.specs.Acts.{client_after_acts, memory_after_acts, outcomes_of}
use Rattle.spec_machine.specs.Answers.{answered_group}
use Rattle.spec_machine.specs.ByName.{read_write_group}
use Rattle.spec_machine.specs.Client.{client_after, client_after_reload, ended_of}
use Rattle.spec_machine.specs.Connection.{connection_of, produce, produce_all, put_back}
use Rattle.spec_machine.specs.Entries.{entry_of_part}
use Rattle.spec_machine.specs.HandleLaws.{handles_after_all}
use Rattle.spec_machine.specs.Handles.{grant_in, handle_in, handles_after, is_released_in, place_after, with_released}
use Rattle.spec_machine.specs.MachineState.{start_of, output_of}
use Rattle.spec_machine.specs.Profile.{strict}
use Rattle.spec_machine.specs.Moves.{state_after, state_after_move}
use Rattle.spec_machine.specs.Events.{connection_after_reload, connection_after_tick, state_after_event}
use Rattle.spec_machine.specs.SumPackets.{acts_of, decide_request}
use Rattle.spec_machine.specs.Packets.{decide}
use Rattle.spec_machine.specs.Piece.{after_packet, after_packets, after_piece}
use Rattle.spec_machine.specs.Projection.{acts_by_others, acts_of_log, acts_of_move, acts_of_packets, projection_of}
use Rattle.spec_machine.specs.Reach.{reach_of}
use Rattle.spec_machine.specs.Reads.{read_group}
use Rattle.spec_machine.specs.Reloads.{client_reloaded, is_kept, memory_after_reload, world_after_reload}
use Rattle.spec_machine.specs.Replies.{outcome_in_all, performed, reply_in_forms, response_packet}
use Rattle.spec_machine.specs.Requests.{act_of, plain_act}
use Rattle.spec_machine.specs.RunText.{notes_of}
use Rattle.spec_machine.specs.Stamps.{frames_of_samples, grouped, samples_at, watches_after_tick}
use Rattle.spec_machine.specs.Sums.{given_in_turn, left_in_turn, packed, sum_refusal}
use Rattle.spec_machine.specs.Ticks.{client_after_tick, world_after_tick}
use Rattle.spec_machine.specs.Watches.{ended_watches, watches_after_reload}
use Rattle.spec_machine.specs.World.{world_in, content_of, name_at, names_at, numbers_from}
use Rattle.spec_machine.specs.Writes.{control_act, write_group}
use Rattle.spec_plant.specs.Finding.{found_of}
use Rattle.spec_plant.specs.Parts.{part_behind}
use Rattle.spec_plant.specs.SameTypes.{has_same_members, has_same_parts}
use Rattle.spec_plant.specs.Sizes.{greatest_align, greatest_depth, members_end, type_align, type_depth, type_size}
use Rattle.spec_plant.specs.Spelling.{type_text}
use Rattle.spec_plant.specs.Trees.{trees_behind, trees_of}
use Rattle.spec_plant.specs.World.{byte_at, with_byte}
use Rattle.std.specs.Fmt.{digits}
use Rattle.spec_frames.specs.Frame.{frame_bytes}
use Rattle.spec_frames.proofs.Hex.{hex}
use Rattle.spec_plant.specs.Description.{Rights, Read, Write}
use Rattle.spec_machine.proofs.Plant.{q, q_viewer, a_viewer, packet_from, answer_to, opened, piece, reload, plant, waves, step}

-- all that connection 1 is given where all others have these rights, or none, and it is opened first
abbrev given_where : Option Rights → List Move → List ℕ
given_where others log = output_of 1 (state_after step (start_of (world_in (record { manner = strict.manner; others = others }) plant waves)) (opened 1 ∷ log))

-- a machine without a route, and frames from it and to it
abbrev STRANGER : List ℕ
STRANGER = 9 ∷ 9 ∷ 9 ∷ 9 ∷ 1 ∷ 1 ∷ []

abbrev q_stranger : ℕ → ℕ → List ℕ → List ℕ
q_stranger command id payload = frame_bytes (packet_from STRANGER command id (hex payload))

abbrev a_stranger : ℕ → ℕ → List ℕ → List ℕ
a_stranger command id payload = frame_bytes (answer_to STRANGER command id 0 (hex payload))

record OthersRows : Type 0 where
  -- without a right for others its connection ends, and nothing behind it is taken
  none : given_where None (piece 1 (q_stranger 4 1 (codes "") ++ q 4 2 (codes "")) ∷ []) ≡ []
  -- who may read reads, and writes and controls nothing
  read : given_where (Some Read) (
      piece 1 (q_stranger 4 1 (codes "") ++ q_stranger 3 2 (codes "40400000 00000000 01000000 11"))
      ∷ piece 1 (q_stranger 2 3 (codes "40400000 00000000 04000000") ++ q_stranger 5 4 (codes "0600 0000 00000000")) ∷ [])
      ≡ a_stranger 4 1 (codes "00000000 05000000") ++ a_stranger 3 2 (codes "04070000")
      ++ a_stranger 2 3 (codes "00000000 04000000 2a000000") ++ a_stranger 5 4 (codes "04070000")
  -- who may write writes
  write : given_where (Some Write) (
      piece 1 (q_stranger 3 1 (codes "40400000 00000000 01000000 11") ++ q_stranger 2 2 (codes "40400000 00000000 04000000"))
      ∷ piece 1 (q_stranger 5 3 (codes "0600 0000 00000000")) ∷ [])
      ≡ a_stranger 3 1 (codes "00000000") ++ a_stranger 2 2 (codes "00000000 04000000 11000000") ++ a_stranger 5 3 (codes "04070000")
  -- a machine with a route has the rights of its route alone
  routes_first : given_where (Some Write) (piece 1 (q_viewer 3 1 (codes "40400000 00000000 01000000 11")) ∷ []) ≡ a_viewer 3 1 (codes "04070000")
  -- an accepted reload leaves others their right
  over_a_reload : given_where (Some Read) (reload (codes "plant2") ∷ piece 1 (q_stranger 4 1 (codes "")) ∷ [])
      ≡ a_stranger 4 1 (codes "00000000 05000000")

others_rows : OthersRows
unfolding ams_length_of is_header front_of packet_of behind_frame frames_from frames_of left_behind rest_of has_same_parts has_same_members
    part_behind type_align greatest_align type_size members_end type_depth greatest_depth found_of byte_at with_byte trees_behind trees_of type_text
    group_in group_of request_in request_of byte_range bit_range size_range range_in header_of written_bytes reply_in notes_of connection_after_tick
    connection_after_reload state_after_event state_after_move state_after given_in_turn left_in_turn sum_refusal packed handles_after_all
    memory_after_puts world_after_tick client_after_tick read_write_group act_of plain_act produce produce_all connection_of put_back grant_in is_released_in
    place_after handle_in with_released handles_after write_group control_act client_after client_after_reload ended_of watches_after_reload
    ended_watches name_behind comment_behind entry_of_part numbers_from name_at names_at content_of projection_of acts_of_packets acts_of_move
    acts_of_log acts_by_others reply_in_forms outcome_in_all response_packet performed grouped frames_of_samples samples_at watches_after_tick
    reach_of outcomes_of memory_after_acts client_after_acts is_kept memory_after_reload world_after_reload client_reloaded answered_group
    after_packet after_packets after_piece read_group acts_of decide_request decide digits
others_rows = record { none = refl; read = refl; write = refl; routes_first = refl; over_a_reload = refl }
