-- What a call over a server in the same process leaves, by computation.
use Rattle.std.specs.Prelude.{◌≡◌, refl, ℕ, List, [], ◌∷◌, codes, map, take, zero, suc, true, false, Bool, Option, Some, None, Ok, bytes_eq, ◌==◌}
use Rattle.std.proofs.Common.{◌∙◌, ap, inl, inr, lit≤, sym}
use Rattle.std.proofs.lemmas.Bool.{false≢true}
use Rattle.spec_frames.specs.Division.{ams_length_of, is_header, front_of, packet_of, behind_frame, frames_from, frames_of, left_behind, rest_of}
use Rattle.spec_plant.specs.Finding.{found_of}
use Rattle.spec_plant.specs.Parts.{part_behind}
use Rattle.spec_plant.specs.Spelling.{type_text}
use Rattle.spec_plant.specs.Trees.{trees_behind, trees_of}
use Rattle.spec_plant.specs.World.{byte_at, with_byte}
use Rattle.spec_formats.specs.Codes.{text_in}
use Rattle.spec_formats.specs.Groups.{group_in, group_of}
use Rattle.spec_formats.specs.Header.{header_of}
use Rattle.spec_formats.specs.NotificationReading.{sample_of, samples_of, stamp_of, stamps_of, notification_of}
use Rattle.spec_formats.specs.Ranges.{byte_range, bit_range, size_range, range_in, range_of}
use Rattle.spec_formats.specs.Reply.{written_bytes, reply_in, reply_of}
use Rattle.spec_formats.specs.Request.{request_in, request_of}
use Rattle.spec_formats.specs.SymbolEntry.{is_entry, entry_of}
use Rattle.spec_formats.specs.TypeEntryReading.{is_fields, after_sub_in, after_subs_in, is_entry as is_entry_of_ads_formats_typeentryreading}
use Rattle.spec_formats.specs.TypeEntryReading.{type_entry_of}
use Rattle.spec_formats.specs.ValueText.{form_of, signed_text, before_nul, quoted_byte, quoted, text_of}
use Rattle.spec_machine.specs.Access.{memory_after_puts}
use Rattle.spec_machine.specs.Acts.{outcomes_of, memory_after_acts, client_after_acts}
use Rattle.spec_machine.specs.Answers.{answered_group}
use Rattle.spec_machine.specs.ByName.{read_write_group}
use Rattle.spec_machine.specs.Client.{client_after, client_after_reload, ended_of}
use Rattle.spec_machine.specs.Connection.{produce, produce_all, connection_of, put_back}
use Rattle.spec_machine.specs.Entries.{entry_of_part}
use Rattle.spec_machine.specs.Events.{connection_after_tick, connection_after_reload, state_after_event}
use Rattle.spec_machine.specs.Handles.{grant_in, is_released_in, place_after, handle_in, with_released, handles_after}
use Rattle.spec_machine.specs.Moves.{state_after_move, state_after}
use Rattle.spec_machine.specs.Offers.{left_after, blocked_after, taken_of}
use Rattle.spec_machine.specs.Packets.{decide}
use Rattle.spec_machine.specs.Piece.{after_packet, after_packets, after_piece}
use Rattle.spec_machine.specs.Reach.{reach_of}
use Rattle.spec_machine.specs.Reads.{read_group}
use Rattle.spec_machine.specs.Reloads.{is_kept, memory_after_reload, world_after_reload, client_reloaded}
use Rattle.spec_machine.specs.Replies.{reply_in_forms, outcome_in_all, response_packet, performed}
use Rattle.spec_machine.specs.Requests.{act_of, plain_act}
use Rattle.spec_machine.specs.Stamps.{grouped, frames_of_samples, samples_at, watches_after_tick}
use Rattle.spec_machine.specs.SumPackets.{acts_of, decide_request}
use Rattle.spec_machine.specs.Sums.{given_in_turn, left_in_turn, sum_refusal, packed}
use Rattle.spec_machine.specs.Ticks.{world_after_tick, client_after_tick}
use Rattle.spec_machine.specs.Watches.{watches_after_reload, ended_watches}
use Rattle.spec_machine.specs.World.{numbers_from, name_at, names_at, content_of}
use Rattle.spec_machine.specs.Writes.{write_group, control_act}
use Rattle.spec_client.specs.CallOver.{conversation_after_all}
use Rattle.spec_client.specs.Client.{issued_by, client_after_issue, client_after_tick as client_after_tick_of_ads_client_client}
use Rattle.spec_client.specs.Conversation.{conversation_after_turns, conversation_going_on, conversation_after}
use Rattle.spec_client.specs.Entries.{entries_in, types_in}
use Rattle.spec_client.specs.Hearing.{packet_hearing, packets_hearing, next_hearing}
use Rattle.spec_client.specs.History.{client_after_move, client_after as client_after_of_ads_client_history, all_heard}
use Rattle.spec_client.specs.LeafTypes.{type_named, is_sound_elem}
use Rattle.spec_client.specs.Leaves.{leaves_of_elem}
use Rattle.spec_client.specs.Printed.{escaped}
use Rattle.spec_client.specs.ReadNames.{handle_parts}
use Rattle.spec_client.specs.Replies.{after_reply, after_answer}
use Rattle.spec_client.specs.Runner.{runner_after_hearing, given, turn_within, all_given, turns_within}
use Rattle.spec_client.specs.Steps.{after_sample, after_end, after_heard, begun}
use Rattle.spec_client.specs.Unanswered.{free_id, without_first, least_id}
use Rattle.spec_client.specs.ValueReading.{unquoted, made_value, is_text_of, value_of_text}
use Rattle.spec_local.specs.LocalCall.{machine_after_pieces, bytes_taken, answer_after_tick, local_answer, scene_after, scene_after_answers, answers_in}
use Rattle.spec_plant.specs.PartTexts.{name_behind, comment_behind}
use Rattle.spec_client.specs.PassedOver.{says_something}
use Rattle.spec_plant.specs.Sizes.{type_size, type_align}
use Rattle.std.specs.Fmt.{digits}
use Rattle.hex.specs.Hex.{encode_with, decode_pairs}
use Rattle.ads_outside.specs.declared.put.Put.TheVariants as put
use Rattle.ads_outside.specs.Puts.{AppendsPart}
use Rattle.ads_outside.specs.SinkState.{SinkState}
use Rattle.spec_client.specs.Calls.{Set, State}
use Rattle.spec_client.specs.Conversation.{LoopEnd, CallEnded, Budget}
use Rattle.spec_client.specs.Stages.{BadValue, Done, TimedOut}
use Rattle.spec_plant.proofs.Plant.{ENGINEER, NET, plant}
use Rattle.spec_machine.proofs.Plant.{waves}
use Rattle.spec_local.specs.LocalCall.{Cutting}
use Rattle.spec_local_room.specs.Laws.{IsAnswered, is_setting}
use Rattle.cli_words.specs.declared.client_words.ClientWords.{ClientWords}
use Rattle.cli_words.specs.declared.client_words.PeerWords.TheVariants as peer
use Rattle.client_loop.specs.declared.loop_end.LoopEnd.TheVariants as end
use Rattle.client_loop.specs.declared.record_end.RecordEnd.TheVariants as record_end
use Rattle.client_loop.specs.Outlets.{outlets}
use Rattle.sample_store.specs.declared.keeper_open.KeeperOpen.TheVariants as open_
use Rattle.run_tasks.specs.declared.client_task.ClientTask.TheVariants as ask
use Rattle.run_tasks.specs.declared.status.Status.TheVariants as status
use Rattle.run_tasks.specs.Asking.{LocalCalling, local_calling}
use Rattle.run_tasks.specs.Ending.{line_alone}
use Rattle.run_tasks.specs.StatusTable.{number_of}
use Rattle.run_tasks.specs.RecordAsked.{local_recording}
use Rattle.client_commands.specs.AskedFrom.{AsksFrom}
use Rattle.client_commands.specs.Calling.{AfterLocal, LocalBreaksOff, LocalTalks, local_conversation, status_of_loop}
use Rattle.client_commands.specs.RecordedFrom.{RecordsFrom}
use Rattle.client_commands.specs.Recording.{AfterLocalRecord, EndsLocalRecording, LocalRecordsAll, LocalRecordsDone, LocalRecordsSome}
use Rattle.run_examples.proofs.CallExamples.{call_rows, the_link}
use Rattle.run_examples.proofs.RecordExamples.{keeper}
use Rattle.run_examples.proofs.TaskExamples.{what}

-- the engineer asks the server of the plant, in the same process
abbrev client : ClientWords
client = record { me = record { bytes = ENGINEER }; port = 851; peer = peer.Local (codes "p") }

abbrev pub asks : LocalCalling
asks = local_calling plant waves ask.State client

abbrev sets : LocalCalling
sets = local_calling plant waves (ask.Set (codes "Main.count") (codes "7x")) client

abbrev text : List ℕ
text = codes "ads 5 device 0\n"

abbrev sink : List ℕ → ℕ → SinkState
sink held faults = record { held = Some held; faults = faults; wants = 0 }

abbrev held_in : Option (List ℕ) → List ℕ
held_in None = []
held_in (Some held) = held

abbrev first_in : Option (List ℕ) → ℕ
first_in (Some (x ∷ xs)) = x
first_in held = 0

abbrev is_budget : Option LoopEnd → Bool
is_budget (Some Budget) = true
is_budget ended = false

abbrev is_done : Option LoopEnd → Bool
is_done (Some (CallEnded Done)) = true
is_done ended = false

-- an end that is no timeout; and that of a text which is no value, only where one is set
setting : map is_setting (State ∷ Set (codes "Main.count") (codes "7") ∷ []) ≡ false ∷ true ∷ []
setting = refl

answered : IsAnswered false (CallEnded Done)
answered = tt

no_timeout : IsAnswered true (CallEnded (TimedOut 5 9)) → ⊥
no_timeout h = h

value_set : IsAnswered true (CallEnded BadValue)
value_set = refl

no_value_set : IsAnswered false (CallEnded BadValue) → ⊥
no_value_set e = false≢true e

-- some first bytes of a text, none of which is an x
part_of_text : (n : ℕ) → Some (120 ∷ []) ≡ Some (take n text) → ⊥
part_of_text zero e = false≢true (sym (ap (λ o. first_in o == 120) e))
part_of_text (suc n) e = false≢true (sym (ap (λ o. first_in o == 120) e))

record LocalRows : Type 0 where
  -- however the answers are cut: here whole, and byte by byte
  whole : (local_conversation asks (λ n. 65535)).text ≡ text
  by_bytes : (local_conversation asks (λ n. 0)).text ≡ text
  end_is : (local_conversation asks (λ n. 65535)).end ≡ Some (CallEnded Done)
  bad_value : (local_conversation sets (λ n. 65535)).end ≡ Some (CallEnded BadValue)
  -- its text is put, and it ends as it does
  text_is_put : LocalTalks asks (CallEnded Done) (sink [] 0) (sink [] 0) → ⊥
  end_is_told : LocalTalks asks Budget (sink [] 0) (sink text 0) → ⊥
  other_bytes : LocalBreaksOff asks (sink [] 0) (sink (120 ∷ []) 1) → ⊥
  budget : AfterLocal (Ok end.Budget) asks (sink [] 0) (sink text 0) → ⊥
  no_link_fails : AfterLocal (Ok end.LinkFault) asks (sink [] 0) (sink [] 1) → ⊥
  -- so of a recording
  all_recorded : LocalRecordsAll asks Budget (outlets (sink [] 0) (keeper [] [] 0)) (outlets (sink text 0) (keeper [] [] 0)) → ⊥
  some_recorded : LocalRecordsSome asks (outlets (sink [] 0) (keeper [] [] 0)) (outlets (sink (120 ∷ []) 0) (keeper [] [] 0)) → ⊥
  done_recorded : LocalRecordsDone AppendsPart sets (outlets (sink [] 0) (keeper [] [] 0)) (outlets (sink text 0) (keeper [] [] 0)) → ⊥
  link_recorded : AfterLocalRecord (Ok (record_end.Loop end.LinkFault)) asks (outlets (sink [] 0) (keeper [] [] 0))
      (outlets (sink [] 0) (keeper [] [] 0)) → ⊥

local_rows : LocalRows
unfolding name_behind comment_behind says_something type_size type_align ams_length_of is_header front_of packet_of behind_frame frames_from frames_of
    left_behind rest_of found_of part_behind type_text trees_behind trees_of byte_at with_byte text_in group_in group_of header_of sample_of samples_of
    stamp_of stamps_of notification_of byte_range bit_range size_range range_in range_of written_bytes reply_in reply_of request_in request_of is_entry
    entry_of is_fields after_sub_in after_subs_in is_entry_of_ads_formats_typeentryreading type_entry_of form_of signed_text before_nul quoted_byte quoted
    text_of memory_after_puts outcomes_of memory_after_acts client_after_acts answered_group read_write_group client_after client_after_reload ended_of
    produce produce_all connection_of put_back entry_of_part connection_after_tick connection_after_reload state_after_event grant_in is_released_in
    place_after handle_in with_released handles_after state_after_move state_after left_after blocked_after taken_of decide after_packet after_packets
    after_piece reach_of read_group is_kept memory_after_reload world_after_reload client_reloaded reply_in_forms outcome_in_all response_packet performed
    act_of plain_act grouped frames_of_samples samples_at watches_after_tick acts_of decide_request given_in_turn left_in_turn sum_refusal packed
    world_after_tick client_after_tick watches_after_reload ended_watches numbers_from name_at names_at content_of write_group control_act
    conversation_after_all issued_by client_after_issue client_after_tick_of_ads_client_client conversation_after_turns conversation_going_on
    conversation_after entries_in types_in packet_hearing packets_hearing next_hearing client_after_move client_after_of_ads_client_history all_heard
    type_named is_sound_elem leaves_of_elem escaped handle_parts after_reply after_answer runner_after_hearing given turn_within all_given turns_within
    after_sample after_end after_heard begun free_id without_first least_id unquoted made_value is_text_of value_of_text machine_after_pieces bytes_taken
    answer_after_tick local_answer scene_after scene_after_answers answers_in digits encode_with decode_pairs
local_rows = record {
  whole = refl;
  by_bytes = refl;
  end_is = refl;
  bad_value = refl;
  text_is_put = λ t. false≢true (ap (λ o. bytes_eq (held_in o) text) (t.text (λ n. 65535)));
  end_is_told = λ t. false≢true (ap is_budget (t.end_is (λ n. 65535)));
  other_bytes = λ b. part_of_text (b (λ n. 65535)).0 (b (λ n. 65535)).1;
  budget = λ t. false≢true (ap is_budget (t.end_is (λ n. 65535)));
  no_link_fails = λ h. h;
  all_recorded = λ r. false≢true (ap is_budget (r.talks.end_is (λ n. 65535)));
  some_recorded = λ r. part_of_text (r.breaks (λ n. 65535)).0 (r.breaks (λ n. 65535)).1;
  done_recorded = λ r. false≢true (ap is_done (r.all.talks.end_is (λ n. 65535)));
  link_recorded = λ h. h;
}

-- a description that is not there ends a call and a recording before all
not_asked : AsksFrom (Some []) [] ask.State client client.peer ⊥ status.ReadFault (sink [] 0) (sink (codes "ads: read fault\n") 0) the_link
not_asked = inl (inl (record { ending = line_alone status.ReadFault; is = refl; printed = inl (refl, refl); still = tt }))

not_recorded : RecordsFrom (Some []) [] what client.peer ⊥ status.ReadFault (sink [] 0) (sink (codes "ads: read fault\n") 0) the_link
    (record { old = keeper [] [] 0; new = keeper [] [] 0 })
not_recorded = inl (inl (record { ending = line_alone status.ReadFault; is = refl; printed = inl (refl, refl); still = tt }))

-- over the link it is a call as that above
over_the_link : AsksFrom None [] ask.State client (peer.To (codes "localhost:48898") (record { bytes = NET })) ⊥ status.Done (sink [] 0) (sink text 0) the_link
over_the_link = call_rows.ends

-- the table of a recording could not be opened, or memory was wanting before it was
no_table : EndsLocalRecording (local_recording plant waves what) status.KeeperFault (sink [] 0) (sink (codes "ads: keeper fault\n") 0)
    (record { old = keeper [] [] 0; new = keeper [] (codes "f" ∷ []) 1 })
no_table = inr (record {
  answer = open_.Failed;
  opened = keeper [] (codes "f" ∷ []) 1;
  counts = tt;
  rows = refl;
  later = lit≤ tt;
  failed = λ e. lit≤ tt;
  ended = ((tt, refl), inl (refl, refl));
})

wanted_first : EndsLocalRecording (local_recording plant waves what) status.Memory (sink [] 0) (sink (codes "ads: memory\n") 0)
    (record { old = keeper [] [] 0; new = keeper [] [] 0 })
wanted_first = inl (tt, refl, (refl, (put.All, refl)))

abbrev number_in : Option LoopEnd → ℕ
number_in None = 9
number_in (Some e) = number_of (status_of_loop e)

-- the state is told, so it never ends by a budget of answers
pub no_budget : (e : LoopEnd) → ((cutting : Cutting) → (local_conversation asks cutting).end ≡ Some e) → 7 ≡ number_of (status_of_loop e) → ⊥
unfolding name_behind comment_behind says_something type_size type_align ams_length_of is_header front_of packet_of behind_frame frames_from frames_of
    left_behind rest_of found_of part_behind type_text trees_behind trees_of byte_at with_byte text_in group_in group_of header_of sample_of samples_of
    stamp_of stamps_of notification_of byte_range bit_range size_range range_in range_of written_bytes reply_in reply_of request_in request_of is_entry
    entry_of is_fields after_sub_in after_subs_in is_entry_of_ads_formats_typeentryreading type_entry_of form_of signed_text before_nul quoted_byte quoted
    text_of memory_after_puts outcomes_of memory_after_acts client_after_acts answered_group read_write_group client_after client_after_reload ended_of
    produce produce_all connection_of put_back entry_of_part connection_after_tick connection_after_reload state_after_event grant_in is_released_in
    place_after handle_in with_released handles_after state_after_move state_after left_after blocked_after taken_of decide after_packet after_packets
    after_piece reach_of read_group is_kept memory_after_reload world_after_reload client_reloaded reply_in_forms outcome_in_all response_packet performed
    act_of plain_act grouped frames_of_samples samples_at watches_after_tick acts_of decide_request given_in_turn left_in_turn sum_refusal packed
    world_after_tick client_after_tick watches_after_reload ended_watches numbers_from name_at names_at content_of write_group control_act
    conversation_after_all issued_by client_after_issue client_after_tick_of_ads_client_client conversation_after_turns conversation_going_on
    conversation_after entries_in types_in packet_hearing packets_hearing next_hearing client_after_move client_after_of_ads_client_history all_heard
    type_named is_sound_elem leaves_of_elem escaped handle_parts after_reply after_answer runner_after_hearing given turn_within all_given turns_within
    after_sample after_end after_heard begun free_id without_first least_id unquoted made_value is_text_of value_of_text machine_after_pieces bytes_taken
    answer_after_tick local_answer scene_after scene_after_answers answers_in digits encode_with decode_pairs
no_budget e is told =
    let done : 0 ≡ number_of (status_of_loop e) = ap number_in (is (λ n. 65535)) in
    false≢true (ap (λ n. n == 7) (done ∙ sym told))
