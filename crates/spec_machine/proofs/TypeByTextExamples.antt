-- What the wide server tells of types: the entries of types by their texts, and the ids of arrays; by computation.
use Rattle.std.specs.Prelude.{◌≡◌, refl, ℕ, List, [], ◌∷◌, ◌++◌, codes}
use Rattle.ads_outside.specs.declared.moves.Move.{Move}
use Rattle.spec_plant.specs.PartTexts.{name_behind, comment_behind}
use Rattle.spec_formats.specs.Groups.{group_in, group_of}
use Rattle.spec_formats.specs.Header.{header_of}
use Rattle.spec_formats.specs.Ranges.{bit_range, byte_range, range_in, size_range}
use Rattle.spec_formats.specs.Reply.{reply_in, written_bytes}
use Rattle.spec_formats.specs.Request.{request_in, request_of}
use Rattle.spec_frames.specs.Division.{ams_length_of, behind_frame, frames_from, frames_of, front_of, is_header, left_behind, packet_of, rest_of}
use Rattle.spec_machine.specs.Access.{memory_after_puts}
use Rattle.spec_machine.specs.Acts.{client_after_acts, memory_after_acts, outcomes_of}
use Rattle.spec_machine.specs.Answers.{answered_group}
use Rattle.spec_machine.specs.ByName.{read_write_group}
use Rattle.spec_machine.specs.Client.{client_after, client_after_reload, ended_of}
use Rattle.spec_machine.specs.Connection.{connection_of, produce, produce_all, put_back}
use Rattle.spec_machine.specs.Entries.{entry_of_part, type_upload_of}
use Rattle.spec_machine.specs.HandleLaws.{handles_after_all}
use Rattle.spec_machine.specs.Handles.{grant_in, handle_in, handles_after, is_released_in, place_after, with_released}
use Rattle.spec_machine.specs.MachineState.{start_of, output_of}
use Rattle.spec_machine.specs.Profile.{wide}
use Rattle.spec_machine.specs.Moves.{state_after, state_after_move}
use Rattle.spec_machine.specs.Events.{connection_after_reload, connection_after_tick, state_after_event}
use Rattle.spec_machine.specs.SumPackets.{acts_of, decide_request}
use Rattle.spec_machine.specs.Packets.{decide}
use Rattle.spec_machine.specs.Piece.{after_packet, after_packets, after_piece}
use Rattle.spec_machine.specs.Projection.{acts_by_others, acts_of_log, acts_of_move, acts_of_packets, projection_of}
use Rattle.spec_machine.specs.Reach.{reach_of}
use Rattle.spec_machine.specs.Reads.{read_group}
use Rattle.spec_machine.specs.Reloads.{client_reloaded, is_kept, memory_after_reload, world_after_reload}
use Rattle.spec_machine.specs.Replies.{outcome_in_all, performed, reply_in_forms, response_packet}
use Rattle.spec_machine.specs.Requests.{act_of, plain_act}
use Rattle.spec_machine.specs.RunText.{notes_of}
use Rattle.spec_machine.specs.Stamps.{frames_of_samples, grouped, samples_at, watches_after_tick}
use Rattle.spec_machine.specs.Sums.{given_in_turn, left_in_turn, packed, sum_refusal}
use Rattle.spec_machine.specs.Ticks.{client_after_tick, world_after_tick}
use Rattle.spec_machine.specs.Watches.{ended_watches, watches_after_reload}
use Rattle.spec_machine.specs.World.{world_in, content_of, name_at, names_at, numbers_from}
use Rattle.spec_machine.specs.Writes.{control_act, write_group}
use Rattle.spec_plant.specs.Finding.{found_of}
use Rattle.spec_plant.specs.Parts.{part_behind}
use Rattle.spec_plant.specs.SameTypes.{has_same_members, has_same_parts}
use Rattle.spec_plant.specs.Sizes.{greatest_align, greatest_depth, members_end, type_align, type_depth, type_size}
use Rattle.spec_plant.specs.Spelling.{type_text}
use Rattle.spec_plant.specs.Trees.{trees_behind, trees_of}
use Rattle.spec_plant.specs.World.{byte_at, with_byte}
use Rattle.std.specs.Fmt.{digits}
use Rattle.spec_plant.specs.World.{plant_of}
use Rattle.spec_frames.specs.Frame.{frame_bytes}
use Rattle.spec_frames.proofs.Hex.{hex}
use Rattle.spec_machine.specs.TypesByText.{tree_of_text}
use Rattle.spec_plant.specs.Shapes.{shape_of_text}
use Rattle.spec_machine.proofs.Plant.{ENGINEER, answer_to, q, a, named, opened, piece, plant, waves, step}

-- all that connection 1 of the wide server is given, where it is opened first
abbrev given_wide : List Move → List ℕ
given_wide log = output_of 1 (state_after step (start_of (world_in wide plant waves)) (opened 1 ∷ log))

record TypeRows : Type 0 where
  -- a named type, in any case of letters, with a NUL or without: its entry in the upload
  of_a_named_type : given_wide (piece 1 (named 1 0xF011 4294967295 (codes "Axis" ++ 0 ∷ []) ++ named 2 0xF011 215 (codes "aXIS")) ∷ [])
      ≡ frame_bytes (answer_to ENGINEER 9 1 0 (hex (codes "00000000 d7000000") ++ type_upload_of (plant_of plant)))
      ++ frame_bytes (answer_to ENGINEER 9 2 0 (hex (codes "00000000 d7000000") ++ type_upload_of (plant_of plant)))
  -- a plain type, and a text: no text of a type
  of_plain_types : given_wide (piece 1 (named 1 0xF011 4294967295 (codes "DINT" ++ 0 ∷ []) ++ named 2 0xF011 64 (codes "string")) ∷ [])
      ≡ a 9 1 (codes "000000003100000031000000010000000000000000000000040000000000000003000000010000000400000000000000000044494e54000000")
      ++ a 9 2 (codes "00000000370000003700000001000000000000000000000051000000000000001e000000010000000a000000000000000000535452494e4728383029000000")
  -- an array: its element's text and id, and its dimensions
  of_arrays : given_wide (piece 1 (named 1 0xF011 4294967295 (codes "ARRAY [1..3] OF Axis" ++ 0 ∷ [])
      ++ named 2 0xF011 128 (codes "array [-1..0,0..2] of INT")) ∷ [])
      ≡ a 9 1 (codes "000000004d0000004d00000001000000000000000000000030000000000000004100000001000000140004000000010000004152524159"
      ++ codes "205b312e2e335d204f462041786973004178697300000100000003000000")
      ++ a 9 2 (codes "0000000059000000590000000100000000000000000000000c000000000000000200000001000000190003000000020000004152524159"
      ++ codes "205b2d312e2e302c302e2e325d204f4620494e5400494e540000ffffffff020000000000000003000000")
  -- too small a buffer; a type that there is not; an array of more than 1,048,576 bytes; no text; as a part of a sum
  refused : given_wide (piece 1
      (named 1 0xF011 214 (codes "Axis") ++ named 2 0xF011 64 (codes "Nothing" ++ 0 ∷ []) ++ named 3 0xF011 128 (codes "ARRAY [0..524288] OF INT")
      ++ named 4 0xF011 64 [] ++ q 9 5 (codes "82f00000 02000000 00010000 29000000 11f00000 00000000 31000000 04000000 11f00000 00000000 31000000 05000000 44494e54 44494e5500")) ∷ [])
      ≡ a 9 1 (codes "05070000 00000000") ++ a 9 2 (codes "10070000 00000000") ++ a 9 3 (codes "10070000 00000000") ++ a 9 4 (codes "10070000 00000000")
      ++ a 9 5 (codes "00000000410000000000000031000000100700000000000031000000010000000000000000000000040000000000000003000000010000"
      ++ codes "000400000000000000000044494e54000000")

type_rows : TypeRows
unfolding ams_length_of is_header front_of packet_of behind_frame frames_from frames_of left_behind rest_of has_same_parts has_same_members
    part_behind type_align greatest_align type_size members_end type_depth greatest_depth found_of byte_at with_byte trees_behind trees_of type_text
    group_in group_of request_in request_of byte_range bit_range size_range range_in header_of written_bytes reply_in notes_of connection_after_tick
    connection_after_reload state_after_event state_after_move state_after given_in_turn left_in_turn sum_refusal packed handles_after_all
    memory_after_puts world_after_tick client_after_tick read_write_group act_of plain_act produce produce_all connection_of put_back grant_in is_released_in
    place_after handle_in with_released handles_after write_group control_act client_after client_after_reload ended_of watches_after_reload
    ended_watches name_behind comment_behind entry_of_part numbers_from name_at names_at content_of projection_of acts_of_packets acts_of_move
    acts_of_log acts_by_others reply_in_forms outcome_in_all response_packet performed grouped frames_of_samples samples_at watches_after_tick
    reach_of outcomes_of memory_after_acts client_after_acts is_kept memory_after_reload world_after_reload client_reloaded answered_group
    after_packet after_packets after_piece read_group acts_of decide_request decide digits tree_of_text shape_of_text
type_rows = record { of_a_named_type = refl; of_plain_types = refl; of_arrays = refl; refused = refl }
