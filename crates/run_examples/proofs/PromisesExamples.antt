-- What whole logs of a server promise, and what a service leaves in the wire and in the sink, by computation.
use Rattle.std.specs.Prelude.{◌≡◌, refl, ℕ, ◌-◌, ◌^◌, List, [], ◌∷◌, ◌++◌, codes, bytes_eq, true, false, Bool, Option, Some, None, ◌==◌}
use Rattle.std.proofs.Common.{ap, inl, inr, lit<, lit≤, sym}
use Rattle.std.proofs.lemmas.Bool.{false≢true, le-leb}
use Rattle.spec_plant.specs.PartTexts.{name_behind, comment_behind}
use Rattle.spec_formats.specs.Groups.{group_in, group_of}
use Rattle.spec_formats.specs.Header.{header_of}
use Rattle.spec_formats.specs.Ranges.{bit_range, byte_range, range_in, size_range}
use Rattle.spec_formats.specs.Reply.{reply_in, written_bytes}
use Rattle.spec_formats.specs.Request.{request_in, request_of}
use Rattle.spec_frames.specs.Division.{ams_length_of, behind_frame, frames_from, frames_of, front_of, is_header, left_behind, packet_of, rest_of}
use Rattle.spec_machine.specs.Access.{memory_after_puts}
use Rattle.spec_machine.specs.Acts.{client_after_acts, memory_after_acts, outcomes_of}
use Rattle.spec_machine.specs.Answers.{answered_group}
use Rattle.spec_machine.specs.ByName.{read_write_group}
use Rattle.spec_machine.specs.Client.{client_after, client_after_reload, ended_of}
use Rattle.spec_machine.specs.Connection.{connection_of, produce, produce_all, put_back}
use Rattle.spec_machine.specs.Entries.{entry_of_part}
use Rattle.spec_machine.specs.HandleLaws.{handles_after_all}
use Rattle.spec_machine.specs.Handles.{grant_in, handle_in, handles_after, is_released_in, place_after, with_released}
use Rattle.spec_machine.specs.Moves.{state_after, state_after_move}
use Rattle.spec_machine.specs.Events.{connection_after_reload, connection_after_tick, state_after_event}
use Rattle.spec_machine.specs.SumPackets.{acts_of, decide_request}
use Rattle.spec_machine.specs.Packets.{decide}
use Rattle.spec_machine.specs.Piece.{after_packet, after_packets, after_piece}
use Rattle.spec_machine.specs.Projection.{acts_by_others, acts_of_log, acts_of_move, acts_of_packets, projection_of}
use Rattle.spec_machine.specs.Reach.{reach_of}
use Rattle.spec_machine.specs.Reads.{read_group}
use Rattle.spec_machine.specs.Reloads.{client_reloaded, is_kept, memory_after_reload, world_after_reload}
use Rattle.spec_machine.specs.Replies.{outcome_in_all, performed, reply_in_forms, response_packet}
use Rattle.spec_machine.specs.Requests.{act_of, plain_act}
use Rattle.spec_machine.specs.RunText.{notes_of}
use Rattle.spec_machine.specs.Stamps.{frames_of_samples, grouped, samples_at, watches_after_tick}
use Rattle.spec_machine.specs.Sums.{given_in_turn, left_in_turn, packed, sum_refusal}
use Rattle.spec_machine.specs.Ticks.{client_after_tick, world_after_tick}
use Rattle.spec_machine.specs.Watches.{ended_watches, watches_after_reload}
use Rattle.spec_machine.specs.World.{content_of, name_at, names_at, numbers_from}
use Rattle.spec_machine.specs.Writes.{control_act, write_group}
use Rattle.spec_plant.specs.Finding.{found_of}
use Rattle.spec_plant.specs.Parts.{part_behind}
use Rattle.spec_plant.specs.SameTypes.{has_same_members, has_same_parts}
use Rattle.spec_plant.specs.Sizes.{greatest_align, greatest_depth, members_end, type_align, type_depth, type_size}
use Rattle.spec_plant.specs.Spelling.{type_text}
use Rattle.spec_plant.specs.Trees.{trees_behind, trees_of}
use Rattle.spec_plant.specs.World.{byte_at, with_byte}
use Rattle.std.specs.Fmt.{digits}
use Rattle.ads_outside.specs.declared.end.End.TheVariants as end
use Rattle.ads_outside.specs.declared.listening.Listening.{Listening}
use Rattle.ads_outside.specs.declared.moves.Move.{Move}
use Rattle.ads_outside.specs.declared.moves.Move.TheVariants as move
use Rattle.ads_outside.specs.SinkState.{SinkState}
use Rattle.ads_outside.specs.Streams.{Streams, none_taken}
use Rattle.ads_outside.specs.WireState.{WireHistory, end_answered, history_after, listened}
use Rattle.spec_plant.specs.World.{ByteName, SymbolPart}
use Rattle.spec_machine.specs.Delivery.{is_cut_off, is_short_from}
use Rattle.spec_machine.specs.Offers.{taken_of}
use Rattle.spec_machine.specs.Play.{turns_of}
use Rattle.spec_machine.specs.Profile.{strict}
use Rattle.spec_machine.specs.Turns.{AreTurns}
use Rattle.spec_laws.specs.Isolation.{IsAmong, IsUntouchedIn}
use Rattle.spec_server.specs.Server.{read_description, server_after_in, server_output_in}
use Rattle.spec_promises.specs.Written.{HoldsWritesIn}
use Rattle.spec_relay.specs.Passages.{passages_of}
use Rattle.spec_relay.specs.RelayLaws.{AreMarked}
use Rattle.spec_relay.specs.RelayPromises.{RelayKeepsPromises, RelayKeepsPromisesAt, RelayPlayKeepsPromises}
use Rattle.serve_loop.specs.Leads.{events_in}
use Rattle.serve_loop.specs.ToldStreams.{grown_by}
use Rattle.serve_loop.specs.TurnTaken.{IsCountOf, raised_by}
use Rattle.run_tasks.specs.declared.status.Status.TheVariants as status
use Rattle.run_tasks.specs.BuiltIn.{built_in}
use Rattle.run_tasks.specs.Service.{OfRelay, OfServer, Service, counts_after}
use Rattle.run_tasks.specs.Verdict.{Serves as IsServed}
use Rattle.plant_commands.specs.Promises.{ChangesByWritesIn, HoldsAcceptedIn, HoldsThroughoutIn, KeepsPromises, KeepsPromisesAtIn, KeepsPromisesIn}
use Rattle.plant_commands.specs.Promises.{KeepsPromisesSoFarIn, PlayKeepsPromises}
use Rattle.plant_commands.specs.ServiceEnds.{ServesBy}
use Rattle.plant_commands.specs.Serving.{AddsToLog, AddsToStreams, CannotRun, CannotStart, CannotTell, EndsService, MovesKeepPromises}
use Rattle.plant_commands.specs.Serving.{RunsService, StopsBehind}
use Rattle.run_examples.proofs.KeptExamples.{unused}
use Rattle.spec_machine.proofs.Plant.{a, opened, piece, plant, q, start, tick, waves}

-- connection 1 asks the state, and the response of 46 bytes is taken whole
abbrev asks : Move
asks = piece 1 (q 4 7 [])

abbrev reply : List ℕ
reply = a 4 7 (codes "00000000 0500 0000")

abbrev took : List ℕ → Move
took bytes = move.Took 1 46 bytes

-- connection 2 writes a byte of `Main.count`, which connection 1 reads; or one of `Flags.bits`
abbrev reads_count : Move
reads_count = piece 1 (q 2 1 (codes "40400000 00000000 04000000"))

abbrev writes_count : Move
writes_count = piece 2 (q 3 1 (codes "40400000 03000000 01000000 05"))

abbrev writes_flags : Move
writes_flags = piece 2 (q 3 1 (codes "20400000 00000000 01000000 05"))

abbrev across : List Move
across = opened 1 ∷ opened 2 ∷ writes_count ∷ reads_count ∷ []

abbrev beside : List Move
beside = opened 1 ∷ opened 2 ∷ writes_flags ∷ reads_count ∷ []

abbrev byte_named : List ℕ → ℕ → ByteName
byte_named symbol k = record { port = 851; part = SymbolPart symbol; index = k }

abbrev byte_of : List Move → ByteName → Option ℕ
byte_of log name = byte_at (server_after_in strict plant waves log).world.memory name

third_is_written : IsAmong (byte_named (codes "main.count") 2) (byte_named (codes "main.count") 3 ∷ []) → ⊥
third_is_written (inl e) = false≢true (sym (ap (λ (n : ByteName). n.index == 2) e))
third_is_written (inr h) = h

abbrev head_of : List ℕ → ℕ
head_of [] = 1
head_of (x ∷ xs) = x

-- a client whose bytes another writes is not given what it would be given alone
touched : IsUntouchedIn read_description strict plant waves 1 across → ⊥
unfolding ams_length_of is_header front_of packet_of behind_frame frames_from frames_of left_behind rest_of has_same_parts has_same_members part_behind
    type_align greatest_align type_size members_end type_depth greatest_depth found_of byte_at with_byte trees_behind trees_of type_text group_in group_of
    request_in request_of byte_range bit_range size_range range_in header_of written_bytes reply_in notes_of connection_after_tick connection_after_reload
    state_after_event state_after_move state_after given_in_turn left_in_turn sum_refusal packed handles_after_all memory_after_puts world_after_tick
    client_after_tick read_write_group act_of plain_act produce produce_all connection_of put_back grant_in is_released_in place_after handle_in
    with_released handles_after write_group control_act client_after client_after_reload ended_of watches_after_reload ended_watches name_behind
    comment_behind entry_of_part numbers_from name_at names_at content_of projection_of acts_of_packets acts_of_move acts_of_log acts_by_others
    reply_in_forms outcome_in_all response_packet performed grouped frames_of_samples samples_at watches_after_tick reach_of outcomes_of memory_after_acts
    client_after_acts is_kept memory_after_reload world_after_reload client_reloaded answered_group after_packet after_packets after_piece read_group
    acts_of decide_request decide digits
touched u = u (byte_named (codes "main.count") 3) (inr (inr (inr (inl refl)))) (inl refl)

-- what the promises come to, and where they are broken
record PromiseRows : Type 0 where
  -- the frames of a log in which the response was taken whole: what was taken is what was given
  given : KeepsPromises plant waves (opened 1 ∷ asks ∷ took reply ∷ []) → reply ++ [] ≡ server_output_in strict plant waves 1 (opened 1 ∷ asks ∷ [])
  -- they are broken where other bytes were taken, and where nothing was that waits
  other_bytes : KeepsPromisesSoFarIn strict plant waves (opened 1 ∷ asks ∷ took (7 ∷ []) ∷ []) → ⊥
  nothing_taken : KeepsPromisesIn strict plant waves (opened 1 ∷ asks ∷ []) → ⊥
  at_its_end : KeepsPromisesAtIn end.Budget strict plant waves (opened 1 ∷ asks ∷ []) → ⊥
  served_end : MovesKeepPromises end.Done (OfServer strict plant waves) (opened 1 ∷ asks ∷ []) → ⊥
  memory_end : MovesKeepPromises end.Memory (OfServer strict plant waves) (opened 1 ∷ asks ∷ took (7 ∷ []) ∷ []) → ⊥
  -- a client beside whom another writes is given what it would be given alone
  alone : KeepsPromisesSoFarIn strict plant waves beside
      → server_output_in strict plant waves 2 beside ≡ server_output_in strict plant waves 2 (opened 2 ∷ writes_flags ∷ [])
  -- a byte that no request names stays
  stays : ChangesByWritesIn strict plant waves (opened 2 ∷ []) writes_count
      → byte_of (opened 2 ∷ writes_count ∷ []) (byte_named (codes "main.count") 2) ≡ byte_of (opened 2 ∷ []) (byte_named (codes "main.count") 2)
  throughout : HoldsThroughoutIn strict plant waves (opened 2 ∷ writes_count ∷ [])
      → byte_of (opened 2 ∷ writes_count ∷ []) (byte_named (codes "main.count") 2) ≡ byte_of (opened 2 ∷ []) (byte_named (codes "main.count") 2)
  -- a write in it holds what is promised of it, at its place in the log
  held : HoldsAcceptedIn strict plant waves beside → HoldsWritesIn strict plant waves (opened 1 ∷ opened 2 ∷ []) writes_flags
  of_a_play : PlayKeepsPromises plant waves [] → KeepsPromises plant waves []

promise_rows : PromiseRows
unfolding ams_length_of is_header front_of packet_of behind_frame frames_from frames_of left_behind rest_of has_same_parts has_same_members part_behind
    type_align greatest_align type_size members_end type_depth greatest_depth found_of byte_at with_byte trees_behind trees_of type_text group_in group_of
    request_in request_of byte_range bit_range size_range range_in header_of written_bytes reply_in notes_of connection_after_tick connection_after_reload
    state_after_event state_after_move state_after given_in_turn left_in_turn sum_refusal packed handles_after_all memory_after_puts world_after_tick
    client_after_tick read_write_group act_of plain_act produce produce_all connection_of put_back grant_in is_released_in place_after handle_in
    with_released handles_after write_group control_act client_after client_after_reload ended_of watches_after_reload ended_watches name_behind
    comment_behind entry_of_part numbers_from name_at names_at content_of projection_of acts_of_packets acts_of_move acts_of_log acts_by_others
    reply_in_forms outcome_in_all response_packet performed grouped frames_of_samples samples_at watches_after_tick reach_of outcomes_of memory_after_acts
    client_after_acts is_kept memory_after_reload world_after_reload client_reloaded answered_group after_packet after_packets after_piece read_group
    acts_of decide_request decide digits taken_of is_cut_off is_short_from turns_of
promise_rows = record {
  given = λ k. k.all 1 refl refl;
  other_bytes = λ k. false≢true (ap (λ l. head_of l == 7) ((k.begins 1).1));
  nothing_taken = λ k. false≢true (sym (ap (λ l. head_of l == 1) (k.all 1 refl refl)));
  at_its_end = λ k. false≢true (sym (ap (λ l. head_of l == 1) (k.all 1 refl refl)));
  served_end = λ k. false≢true (sym (ap (λ l. head_of l == 1) (k.all 1 refl refl)));
  memory_end = λ k. false≢true (ap (λ l. head_of l == 7) ((k.begins 1).1));
  alone = λ k. k.isolated 2 (λ n r w. r);
  stays = λ h. h (byte_named (codes "main.count") 2) refl third_is_written;
  throughout = λ h. h.writes (opened 2 ∷ []) [] writes_count refl (byte_named (codes "main.count") 2) refl third_is_written;
  held = λ h. h.held (opened 1 ∷ opened 2 ∷ []) (reads_count ∷ []) writes_flags refl;
  of_a_play = λ p. p.kept;
}

counted : events_in (opened 1 ∷ took reply ∷ tick 5 ∷ move.Lost 1 ∷ move.Shut 2 ∷ []) ≡ 2
counted = refl

rose : raised_by 3 4 ≡ 7
unfolding raised_by
rose = refl

at_most : raised_by 3 (2 ^ 64 - 2) ≡ 2 ^ 64 - 1
unfolding raised_by
at_most = refl

fewer : IsCountOf end.Done 6 7
fewer = lit< tt

all_allowed : IsCountOf end.Budget 7 7
all_allowed = refl

one_too_few : IsCountOf end.Budget 6 7 → ⊥
one_too_few e = false≢true (ap (λ n. n == 7) e)

all_and_ended : IsCountOf end.LinkFault 7 7 → ⊥
all_and_ended e = false≢true (le-leb 8 7 e)

-- what a wire that was never used is started with, and the relay of the built-in description on it
abbrev starts_with : Listening
starts_with = record { listen = codes "127.0.0.1:48898"; name = codes "p"; first = [] }

abbrev pub service : Service
service = record { start = starts_with; machine = OfRelay built_in; limit = 3 }

abbrev started : WireHistory
started = listened starts_with unused

abbrev pub sink : List ℕ → ℕ → SinkState
sink held faults = record { held = Some held; faults = faults; wants = 0 }

abbrev told : SinkState
told = sink (codes "listening\n") 0

abbrev counts : List ℕ
counts = codes "connections 0 frames 0 passed 0 unknown 0\n"

abbrev is_one : Option (List Move) → Bool
is_one (Some (m ∷ [])) = true
is_one log = false

abbrev stream_of : ℕ → Option Streams → List ℕ
stream_of c None = []
stream_of c (Some streams) = streams c

-- the relay promises all of a log without a move
no_passage : RelayKeepsPromisesAt end.Done built_in []
unfolding connection_of state_after passages_of AreMarked taken_of AreTurns
no_passage = record {
  turns = record { turns = []; whole = refl; served = tt };
  passes = record { given = λ c. refl; taken = λ c. refl; once = λ test. lit≤ tt; marked = tt };
  begins = λ c. ([], refl);
  all = λ c short cut. refl;
}

-- what is promised of a relay's play is promised of its log
of_a_relay_play : RelayPlayKeepsPromises built_in [] → RelayKeepsPromises built_in []
unfolding ams_length_of is_header front_of packet_of behind_frame frames_from frames_of left_behind rest_of has_same_parts has_same_members part_behind
    type_align greatest_align type_size members_end type_depth greatest_depth found_of byte_at with_byte trees_behind trees_of type_text group_in group_of
    request_in request_of byte_range bit_range size_range range_in header_of written_bytes reply_in notes_of connection_after_tick connection_after_reload
    state_after_event state_after_move state_after given_in_turn left_in_turn sum_refusal packed handles_after_all memory_after_puts world_after_tick
    client_after_tick read_write_group act_of plain_act produce produce_all connection_of put_back grant_in is_released_in place_after handle_in
    with_released handles_after write_group control_act client_after client_after_reload ended_of watches_after_reload ended_watches name_behind
    comment_behind entry_of_part numbers_from name_at names_at content_of projection_of acts_of_packets acts_of_move acts_of_log acts_by_others
    reply_in_forms outcome_in_all response_packet performed grouped frames_of_samples samples_at watches_after_tick reach_of outcomes_of memory_after_acts
    client_after_acts is_kept memory_after_reload world_after_reload client_reloaded answered_group after_packet after_packets after_piece read_group
    acts_of decide_request decide digits turns_of
of_a_relay_play p = p

-- no event came, and then End: the counts are printed behind `listening`
runs : RunsService service status.Done told (sink (codes "listening\n" ++ counts) 0) started (end_answered started)
unfolding history_after state_after taken_of digits
runs = record {
  ended = end.Done;
  moves = [];
  wire = record { grown = refl; logged = refl; streamed = refl; count = lit< tt; most = lit≤ tt; promises = no_passage };
  prints = inl (refl, refl);
}

ends : EndsService service status.Done (sink [] 0) (sink (codes "listening\n" ++ counts) 0) unused (end_answered started)
ends = inr (inr (record { between = told; told = record { listening = refl; later = record { faults = lit≤ tt; wants = lit≤ tt } }; runs = runs }))

by_the_verdict : ServesBy (IsServed service) ⊥ status.Done (sink [] 0) (sink (codes "listening\n" ++ counts) 0) unused (end_answered started)
by_the_verdict = inl (inr (record { made = service; is = refl; comes = ends }))

-- the counts of a server
of_a_server : counts_after (OfServer strict plant waves) (opened 1 ∷ asks ∷ took reply ∷ [])
    ≡ codes "connections 1 requests 1 replies 1 samples 0 reloads 0 0\n"
unfolding ams_length_of is_header front_of packet_of behind_frame frames_from frames_of left_behind rest_of has_same_parts has_same_members part_behind
    type_align greatest_align type_size members_end type_depth greatest_depth found_of byte_at with_byte trees_behind trees_of type_text group_in group_of
    request_in request_of byte_range bit_range size_range range_in header_of written_bytes reply_in notes_of connection_after_tick connection_after_reload
    state_after_event state_after_move state_after given_in_turn left_in_turn sum_refusal packed handles_after_all memory_after_puts world_after_tick
    client_after_tick read_write_group act_of plain_act produce produce_all connection_of put_back grant_in is_released_in place_after handle_in
    with_released handles_after write_group control_act client_after client_after_reload ended_of watches_after_reload ended_watches name_behind
    comment_behind entry_of_part numbers_from name_at names_at content_of projection_of acts_of_packets acts_of_move acts_of_log acts_by_others
    reply_in_forms outcome_in_all response_packet performed grouped frames_of_samples samples_at watches_after_tick reach_of outcomes_of memory_after_acts
    client_after_acts is_kept memory_after_reload world_after_reload client_reloaded answered_group after_packet after_packets after_piece read_group
    acts_of decide_request decide digits
of_a_server = refl

-- the wire could not be started: that is told, and nothing else was
not_started : CannotStart starts_with status.LinkFault (sink [] 0) (sink (codes "ads: link fault\n") 0) unused (record started { stops = 1 })
not_started = inl (record { same = refl; stopped = lit≤ tt }, inl (refl, refl))

-- it was, and `listening` was not put whole
not_told : CannotTell status.WriteFault (sink [] 0) (sink (codes "list") 1) started started
not_told = (refl, inl (refl, ((4, refl), lit≤ tt)))

not_run : CannotRun starts_with status.WriteFault (sink [] 0) (sink (codes "list") 1) unused started
not_run = inr not_told

-- a start that failed is counted
not_counted : StopsBehind started started → ⊥
not_counted s = false≢true (le-leb 1 0 s.stopped)

-- what stands behind a log, and what each connection took in it
adds : AddsToLog (Some (tick 1 ∷ [])) (Some (tick 1 ∷ took reply ∷ [])) (took reply ∷ [])
adds = refl

adds_nothing : AddsToLog (Some []) (Some []) (tick 1 ∷ []) → ⊥
adds_nothing e = false≢true (ap is_one e)

took_in_it : stream_of 1 (Some (grown_by (took (7 ∷ 8 ∷ []) ∷ took (9 ∷ []) ∷ []) none_taken)) ≡ 7 ∷ 8 ∷ 9 ∷ []
unfolding taken_of
took_in_it = refl

of_another : AddsToStreams (Some none_taken) (Some none_taken) (took (7 ∷ []) ∷ []) → ⊥
unfolding taken_of
of_another e = false≢true (ap (λ o. bytes_eq (stream_of 1 o) (7 ∷ [])) e)
