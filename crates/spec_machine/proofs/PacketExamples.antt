-- The checks of a frame, in their order, by computation.
use Rattle.std.specs.Prelude.{◌≡◌, refl, ℕ, List, [], ◌∷◌, ◌++◌, codes, Bool, true}
use Rattle.spec_plant.specs.PartTexts.{name_behind, comment_behind}
use Rattle.spec_formats.specs.Groups.{group_in, group_of}
use Rattle.spec_formats.specs.Header.{header_of}
use Rattle.spec_formats.specs.Ranges.{bit_range, byte_range, range_in, size_range}
use Rattle.spec_formats.specs.Reply.{reply_in, written_bytes}
use Rattle.spec_formats.specs.Request.{request_in, request_of}
use Rattle.spec_frames.specs.Division.{ams_length_of, behind_frame, frames_from, frames_of, front_of, is_header, left_behind, packet_of, rest_of}
use Rattle.spec_machine.specs.Access.{memory_after_puts}
use Rattle.spec_machine.specs.Acts.{client_after_acts, memory_after_acts, outcomes_of}
use Rattle.spec_machine.specs.Answers.{answered_group}
use Rattle.spec_machine.specs.ByName.{read_write_group}
use Rattle.spec_machine.specs.Client.{client_after, client_after_reload, ended_of}
use Rattle.spec_machine.specs.Connection.{connection_of, produce, produce_all, put_back}
use Rattle.spec_machine.specs.Entries.{entry_of_part}
use Rattle.spec_machine.specs.HandleLaws.{handles_after_all}
use Rattle.spec_machine.specs.Handles.{grant_in, handle_in, handles_after, is_released_in, place_after, with_released}
use Rattle.spec_machine.specs.Moves.{state_after, state_after_move}
use Rattle.spec_machine.specs.Events.{connection_after_reload, connection_after_tick, state_after_event}
use Rattle.spec_machine.specs.SumPackets.{acts_of, decide_request}
use Rattle.spec_machine.specs.Packets.{decide}
use Rattle.spec_machine.specs.Piece.{after_packet, after_packets, after_piece}
use Rattle.spec_machine.specs.Projection.{acts_by_others, acts_of_log, acts_of_move, acts_of_packets, projection_of}
use Rattle.spec_machine.specs.Reach.{reach_of}
use Rattle.spec_machine.specs.Reads.{read_group}
use Rattle.spec_machine.specs.Reloads.{client_reloaded, is_kept, memory_after_reload, world_after_reload}
use Rattle.spec_machine.specs.Replies.{outcome_in_all, performed, reply_in_forms, response_packet}
use Rattle.spec_machine.specs.Requests.{act_of, plain_act}
use Rattle.spec_machine.specs.RunText.{notes_of}
use Rattle.spec_machine.specs.Stamps.{frames_of_samples, grouped, samples_at, watches_after_tick}
use Rattle.spec_machine.specs.Sums.{given_in_turn, left_in_turn, packed, sum_refusal}
use Rattle.spec_machine.specs.Ticks.{client_after_tick, world_after_tick}
use Rattle.spec_machine.specs.Watches.{ended_watches, watches_after_reload}
use Rattle.spec_machine.specs.World.{content_of, name_at, names_at, numbers_from}
use Rattle.spec_machine.specs.Writes.{control_act, write_group}
use Rattle.spec_plant.specs.Finding.{found_of}
use Rattle.spec_plant.specs.Parts.{part_behind}
use Rattle.spec_plant.specs.SameTypes.{has_same_members, has_same_parts}
use Rattle.spec_plant.specs.Sizes.{greatest_align, greatest_depth, members_end, type_align, type_depth, type_size}
use Rattle.spec_plant.specs.Spelling.{type_text}
use Rattle.spec_plant.specs.Trees.{trees_behind, trees_of}
use Rattle.spec_plant.specs.World.{byte_at, with_byte}
use Rattle.std.specs.Fmt.{digits}
use Rattle.spec_machine.specs.Offers.{is_closing_at}
use Rattle.spec_machine.proofs.Plant.{q, a, piece, opened, given, step, start}
use Rattle.spec_frames.proofs.Hex.{hex}

-- what is given for these bytes
abbrev asked : List ℕ → List ℕ
asked text = given (piece 1 (hex text) ∷ [])

abbrev closes : List ℕ → Bool
closes text = is_closing_at 1 (state_after step start (opened 1 ∷ piece 1 (hex text) ∷ []))

record PacketRows : Type 0 where
  -- a data length that is not the AMS length less 32; the connection goes on
  data_length : asked (codes "000021000000 0501020301015303 c0a8000901018980 0400040000000000 0000000001000000 00  "
      ++ codes "000020000000 0501020301015303 c0a8000901018980 0400040000000000 0000000002000000")
      ≡ hex (codes "000020000000 c0a8000901018980 0501020301015303 0400050000000000 0e00000001000000") ++ a 4 2 (codes "0000000005000000")
  -- a response is silent, other flags are not
  response : asked (codes "000020000000 0501020301015303 c0a8000901018980 0400050000000000 0000000001000000") ≡ []
  flags : asked (codes "000020000000 0501020301015303 c0a8000901018980 0400060000000000 0000000001000000")
      ≡ hex (codes "000020000000 c0a8000901018980 0501020301015303 0400050000000000 0b00000001000000")
  -- an unknown route closes without a reply
  no_route : asked (codes "000020000000 0501020301025303 0909090901018980 0400040000000000 0000000001000000") ≡ []
  -- a frame behind one that closes is not taken
  nothing_behind : asked (codes "000020000000 0501020301025303 0909090901018980 0400040000000000 0000000001000000  "
      ++ codes "000020000000 0501020301015303 c0a8000901018980 0400040000000000 0000000002000000") ≡ []
  no_route_closes : closes (codes "000020000000 0501020301025303 0909090901018980 0400040000000000 0000000001000000") ≡ true
  -- an unknown port; an unknown machine, also with an unknown port
  no_port : asked (codes "000020000000 0501020301015403 c0a8000901018980 0400040000000000 0000000001000000")
      ≡ hex (codes "000020000000 c0a8000901018980 0501020301015403 0400050000000000 0600000001000000")
  no_machine : asked (codes "000020000000 0501020301025403 c0a8000901018980 0400040000000000 0000000001000000")
      ≡ hex (codes "000020000000 c0a8000901018980 0501020301025403 0400050000000000 0700000001000000")
  -- a notification is silent; commands 0 and 10 are unknown; a payload that is no text
  notification : given (piece 1 (q 8 1 (codes "00")) ∷ []) ≡ []
  command_0 : asked (codes "000020000000 0501020301015303 c0a8000901018980 0000040000000000 0000000001000000")
      ≡ hex (codes "000020000000 c0a8000901018980 0501020301015303 0000050000000000 0800000001000000")
  command_10 : asked (codes "000020000000 0501020301015303 c0a8000901018980 0a00040000000000 0000000001000000")
      ≡ hex (codes "000020000000 c0a8000901018980 0501020301015303 0a00050000000000 0800000001000000")
  no_text : given (piece 1 (q 2 1 (codes "00")) ∷ piece 1 (q 1 2 (codes "00")) ∷ []) ≡ a 2 1 (codes "05070000 00000000")
      ++ a 1 2 (codes "05070000 0000000000000000 0000000000000000 00000000")

packet_rows : PacketRows
unfolding ams_length_of is_header front_of packet_of behind_frame frames_from frames_of left_behind rest_of has_same_parts has_same_members
    part_behind type_align greatest_align type_size members_end type_depth greatest_depth found_of byte_at with_byte trees_behind trees_of type_text
    group_in group_of request_in request_of byte_range bit_range size_range range_in header_of written_bytes reply_in notes_of connection_after_tick
    connection_after_reload state_after_event state_after_move state_after given_in_turn left_in_turn sum_refusal packed handles_after_all
    memory_after_puts world_after_tick client_after_tick read_write_group act_of plain_act produce produce_all connection_of put_back grant_in is_released_in
    place_after handle_in with_released handles_after write_group control_act client_after client_after_reload ended_of watches_after_reload
    ended_watches name_behind comment_behind entry_of_part numbers_from name_at names_at content_of projection_of acts_of_packets acts_of_move
    acts_of_log acts_by_others reply_in_forms outcome_in_all response_packet performed grouped frames_of_samples samples_at watches_after_tick
    reach_of outcomes_of memory_after_acts client_after_acts is_kept memory_after_reload world_after_reload client_reloaded answered_group
    after_packet after_packets after_piece read_group acts_of decide_request decide digits
packet_rows = record {
  data_length = refl;
  response = refl;
  flags = refl;
  no_route = refl;
  nothing_behind = refl;
  no_route_closes = refl;
  no_port = refl;
  no_machine = refl;
  notification = refl;
  command_0 = refl;
  command_10 = refl;
  no_text = refl;
}
