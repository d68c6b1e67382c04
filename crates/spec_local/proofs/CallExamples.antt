-- Calls over the machine of the plant, by computation.
use Rattle.std.specs.Prelude.{◌≡◌, refl, [], ◌∷◌, codes, flat_map}
use Rattle.spec_plant.proofs.Plant.{VIEWER}
use Rattle.spec_client.specs.Calls.{Info, State, Control, Get, Set, Symbols}
use Rattle.spec_client.specs.Printed.{line}
use Rattle.spec_local.proofs.Told.{told, told_as, told_at, told_by_bytes}
use Rattle.spec_frames.specs.Division.{ams_length_of, is_header, front_of, packet_of, behind_frame, frames_from, frames_of, left_behind, rest_of}
use Rattle.spec_plant.specs.Finding.{found_of}
use Rattle.spec_plant.specs.Parts.{part_behind}
use Rattle.spec_plant.specs.Spelling.{type_text}
use Rattle.spec_plant.specs.Trees.{trees_behind, trees_of}
use Rattle.spec_plant.specs.World.{byte_at, with_byte}
use Rattle.spec_formats.specs.Codes.{text_in}
use Rattle.spec_formats.specs.Groups.{group_in, group_of}
use Rattle.spec_formats.specs.Header.{header_of}
use Rattle.spec_formats.specs.NotificationReading.{sample_of, samples_of, stamp_of, stamps_of, notification_of}
use Rattle.spec_formats.specs.Ranges.{byte_range, bit_range, size_range, range_in, range_of}
use Rattle.spec_formats.specs.Reply.{written_bytes, reply_in, reply_of}
use Rattle.spec_formats.specs.Request.{request_in, request_of}
use Rattle.spec_formats.specs.SymbolEntry.{is_entry, entry_of}
use Rattle.spec_formats.specs.TypeEntryReading.{is_fields, after_sub_in, after_subs_in, is_entry as is_entry_of_ads_formats_typeentryreading, type_entry_of}
use Rattle.spec_formats.specs.ValueText.{form_of, signed_text, before_nul, quoted_byte, quoted, text_of}
use Rattle.spec_machine.specs.Access.{memory_after_puts}
use Rattle.spec_machine.specs.Acts.{outcomes_of, memory_after_acts, client_after_acts}
use Rattle.spec_machine.specs.Answers.{answered_group}
use Rattle.spec_machine.specs.ByName.{read_write_group}
use Rattle.spec_machine.specs.Client.{client_after, client_after_reload, ended_of}
use Rattle.spec_machine.specs.Connection.{produce, produce_all, connection_of, put_back}
use Rattle.spec_machine.specs.Entries.{entry_of_part}
use Rattle.spec_machine.specs.Events.{connection_after_tick, connection_after_reload, state_after_event}
use Rattle.spec_machine.specs.Handles.{grant_in, is_released_in, place_after, handle_in, with_released, handles_after}
use Rattle.spec_machine.specs.Moves.{state_after_move, state_after}
use Rattle.spec_machine.specs.Offers.{left_after, blocked_after, taken_of}
use Rattle.spec_machine.specs.Packets.{decide}
use Rattle.spec_machine.specs.Piece.{after_packet, after_packets, after_piece}
use Rattle.spec_machine.specs.Reach.{reach_of}
use Rattle.spec_machine.specs.Reads.{read_group}
use Rattle.spec_machine.specs.Reloads.{is_kept, memory_after_reload, world_after_reload, client_reloaded}
use Rattle.spec_machine.specs.Replies.{reply_in_forms, outcome_in_all, response_packet, performed}
use Rattle.spec_machine.specs.Requests.{act_of, plain_act}
use Rattle.spec_machine.specs.Stamps.{grouped, frames_of_samples, samples_at, watches_after_tick}
use Rattle.spec_machine.specs.SumPackets.{acts_of, decide_request}
use Rattle.spec_machine.specs.Sums.{given_in_turn, left_in_turn, sum_refusal, packed}
use Rattle.spec_machine.specs.Ticks.{world_after_tick, client_after_tick}
use Rattle.spec_machine.specs.Watches.{watches_after_reload, ended_watches}
use Rattle.spec_machine.specs.World.{numbers_from, name_at, names_at, content_of}
use Rattle.spec_machine.specs.Writes.{write_group, control_act}
use Rattle.spec_client.specs.CallOver.{conversation_after_all}
use Rattle.spec_client.specs.Client.{issued_by, client_after_issue, client_after_tick as client_after_tick_of_ads_client_client}
use Rattle.spec_client.specs.Conversation.{conversation_after_turns, conversation_going_on, conversation_after}
use Rattle.spec_client.specs.Entries.{entries_in, types_in}
use Rattle.spec_client.specs.Hearing.{packet_hearing, packets_hearing, next_hearing}
use Rattle.spec_client.specs.History.{client_after_move, client_after as client_after_of_ads_client_history, all_heard}
use Rattle.spec_client.specs.LeafTypes.{type_named, is_sound_elem}
use Rattle.spec_client.specs.Leaves.{leaves_of_elem}
use Rattle.spec_client.specs.Printed.{escaped}
use Rattle.spec_client.specs.ReadNames.{handle_parts}
use Rattle.spec_client.specs.Replies.{after_reply, after_answer}
use Rattle.spec_client.specs.Runner.{runner_after_hearing, given, turn_within, all_given, turns_within}
use Rattle.spec_client.specs.Steps.{after_sample, after_end, after_heard, begun}
use Rattle.spec_client.specs.Unanswered.{free_id, without_first, least_id}
use Rattle.spec_client.specs.ValueReading.{unquoted, made_value, is_text_of, value_of_text}
use Rattle.spec_local.specs.LocalCall.{machine_after_pieces, bytes_taken, answer_after_tick, local_answer, scene_after, scene_after_answers, answers_in}
use Rattle.spec_plant.specs.PartTexts.{name_behind, comment_behind}
use Rattle.spec_client.specs.PassedOver.{says_something}
use Rattle.spec_plant.specs.Sizes.{type_size, type_align}
use Rattle.std.specs.Fmt.{digits}
use Rattle.hex.specs.Hex.{encode_with, decode_pairs}

record CallRows : Type 0 where
  -- a number
  get_number : told (Get (codes "Main.count")) ≡ 0 ∷ codes "42\n"
  -- a text, behind a route that may read alone
  get_text : told_as VIEWER (Get (codes "main.TITLE")) ≡ 0 ∷ codes "'Mix'\n"
  -- no symbol of that name
  get_none : told (Get (codes "Main.none")) ≡ 8 ∷ codes "ads: refused 0x710 symbol not found\n"
  -- a number is written
  set_number : told (Set (codes "Main.count") (codes "7")) ≡ 0 ∷ codes "ok\n"
  -- a number below zero
  set_negative : told (Set (codes "Main.count") (codes "-7")) ≡ 0 ∷ codes "ok\n"
  -- a number that its type does not hold
  set_beyond : told (Set (codes "Main.count") (codes "2147483648")) ≡ 13 ∷ codes "ads: bad value\n"
  -- a symbol that is read-only
  set_read_only : told (Set (codes "Main.limit") (codes "5")) ≡ 8 ∷ codes "ads: refused 0x704 reading or writing not permitted\n"
  -- the device's name and version
  info : told Info ≡ 0 ∷ codes "name Plc30 App version 3.1.1711\n"
  -- its state
  state : told State ≡ 0 ∷ codes "ads 5 device 0\n"
  -- it is stopped
  control : told (Control 6 0) ≡ 0 ∷ codes "ok\n"
  -- a machine without a route
  stranger : told_as (1 ∷ 1 ∷ 1 ∷ 1 ∷ 1 ∷ 1 ∷ []) State ≡ 9 ∷ codes "ads: bad peer\n"
  -- a port that is not there
  no_port : told_at 852 (Get (codes "Main.count")) ≡ 8 ∷ codes "ads: refused 0x6 target port not found\n"
  -- the same, where the answers come byte for byte
  get_by_bytes : told_by_bytes (Get (codes "Main.count")) ≡ 0 ∷ codes "42\n"
  -- all symbols
  list : told Symbols ≡ 0 ∷ flat_map line (codes "Main.count 0x4040 0 4 0x0 DINT" ∷ codes "Main.axis 0x4040 8 48 0x0 ARRAY [1..3] OF Axis"
      ∷ codes "Main.limit 0x4040 60 2 0x20 INT" ∷ codes "Main.wave 0x4040 64 2 0x0 UINT"
      ∷ codes "Main.title 0x4040 72 8 0x1 STRING(7)" ∷ codes "Flags.bits 0x4020 0 1 0x0 BYTE" ∷ [])

call_rows : CallRows
unfolding name_behind comment_behind says_something type_size type_align ams_length_of is_header front_of packet_of behind_frame frames_from frames_of
    left_behind rest_of found_of part_behind type_text trees_behind trees_of byte_at with_byte text_in group_in group_of header_of sample_of
    samples_of stamp_of stamps_of notification_of byte_range bit_range size_range range_in range_of written_bytes reply_in reply_of request_in
    request_of is_entry entry_of is_fields after_sub_in after_subs_in is_entry_of_ads_formats_typeentryreading type_entry_of form_of signed_text
    before_nul quoted_byte quoted text_of memory_after_puts outcomes_of memory_after_acts client_after_acts answered_group read_write_group
    client_after client_after_reload ended_of produce produce_all connection_of put_back entry_of_part connection_after_tick connection_after_reload
    state_after_event grant_in is_released_in place_after handle_in with_released handles_after state_after_move state_after left_after blocked_after
    taken_of decide after_packet after_packets after_piece reach_of read_group is_kept memory_after_reload world_after_reload client_reloaded
    reply_in_forms outcome_in_all response_packet performed act_of plain_act grouped frames_of_samples samples_at watches_after_tick acts_of decide_request
    given_in_turn left_in_turn sum_refusal packed world_after_tick client_after_tick watches_after_reload ended_watches numbers_from name_at names_at
    content_of write_group control_act conversation_after_all issued_by client_after_issue client_after_tick_of_ads_client_client
    conversation_after_turns conversation_going_on conversation_after entries_in types_in packet_hearing packets_hearing next_hearing
    client_after_move client_after_of_ads_client_history all_heard type_named is_sound_elem leaves_of_elem escaped handle_parts after_reply
    after_answer runner_after_hearing given turn_within all_given turns_within after_sample after_end after_heard begun free_id without_first least_id
    unquoted made_value is_text_of value_of_text machine_after_pieces bytes_taken answer_after_tick local_answer scene_after scene_after_answers
    answers_in digits encode_with decode_pairs
call_rows = record {
  get_number = refl;
  get_text = refl;
  get_by_bytes = refl;
  get_none = refl;
  set_number = refl;
  set_negative = refl;
  set_beyond = refl;
  set_read_only = refl;
  info = refl;
  state = refl;
  control = refl;
  stranger = refl;
  no_port = refl;
  list = refl;
}
