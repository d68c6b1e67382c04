-- What is promised of a move, of a notification and of handles over a whole log, by computation.
use Rattle.std.specs.Prelude.{◌≡◌, refl, ℕ, List, [], ◌∷◌, ◌++◌, codes, bytes_eq, true, false, Bool, None, unwrap_or, replicate, take}
use Rattle.std.proofs.Common.{ap, inl, inr, lit<, lit≤, sym}
use Rattle.std.proofs.lemmas.Bool.{false≢true, le-leb}
use Rattle.std.specs.Str.{chars, is_utf8}
use Rattle.toml.proofs.OnLiterals.{toml_on_literals}
use Rattle.spec_plant.specs.PartTexts.{name_behind, comment_behind}
use Rattle.spec_formats.specs.Groups.{group_in, group_of}
use Rattle.spec_formats.specs.Header.{header_of}
use Rattle.spec_formats.specs.Ranges.{bit_range, byte_range, range_in, size_range}
use Rattle.spec_formats.specs.Reply.{reply_in, written_bytes}
use Rattle.spec_formats.specs.Request.{request_in, request_of}
use Rattle.spec_frames.specs.Division.{ams_length_of, behind_frame, frames_from, frames_of, front_of, is_header, left_behind, packet_of, rest_of}
use Rattle.spec_machine.specs.Access.{memory_after_puts}
use Rattle.spec_machine.specs.Acts.{client_after_acts, memory_after_acts, outcomes_of}
use Rattle.spec_machine.specs.Answers.{answered_group}
use Rattle.spec_machine.specs.ByName.{read_write_group}
use Rattle.spec_machine.specs.Acts.{Outcome}
use Rattle.spec_machine.specs.Client.{client_after, client_after_reload, ended_of}
use Rattle.spec_machine.specs.Connection.{connection_of, produce, produce_all, put_back}
use Rattle.spec_machine.specs.Entries.{entry_of_part}
use Rattle.spec_machine.specs.HandleLaws.{handles_after_all}
use Rattle.spec_machine.specs.Handles.{grant_in, handle_in, handles_after, is_released_in, place_after, with_released}
use Rattle.spec_machine.specs.Moves.{state_after, state_after_move}
use Rattle.spec_machine.specs.Events.{connection_after_reload, connection_after_tick, state_after_event}
use Rattle.spec_machine.specs.SumPackets.{acts_of, decide_request}
use Rattle.spec_machine.specs.Packets.{decide}
use Rattle.spec_machine.specs.Piece.{after_packet, after_packets, after_piece}
use Rattle.spec_machine.specs.Projection.{acts_by_others, acts_of_log, acts_of_move, acts_of_packets, projection_of}
use Rattle.spec_machine.specs.Reach.{reach_of}
use Rattle.spec_machine.specs.Reads.{read_group}
use Rattle.spec_machine.specs.Reloads.{client_reloaded, is_kept, memory_after_reload, world_after_reload}
use Rattle.spec_machine.specs.Replies.{outcome_in_all, performed, reply_in_forms, response_packet}
use Rattle.spec_machine.specs.Requests.{act_of, plain_act}
use Rattle.spec_machine.specs.RunText.{notes_of}
use Rattle.spec_machine.specs.Stamps.{frames_of_samples, grouped, samples_at, watches_after_tick}
use Rattle.spec_machine.specs.Sums.{given_in_turn, left_in_turn, packed, sum_refusal}
use Rattle.spec_machine.specs.Ticks.{client_after_tick, world_after_tick}
use Rattle.spec_machine.specs.Watches.{ended_watches, watches_after_reload}
use Rattle.spec_machine.specs.World.{content_of, name_at, names_at, numbers_from}
use Rattle.spec_machine.specs.Writes.{control_act, write_group}
use Rattle.spec_plant.specs.Finding.{found_of}
use Rattle.spec_plant.specs.Parts.{part_behind}
use Rattle.spec_plant.specs.SameTypes.{has_same_members, has_same_parts}
use Rattle.spec_plant.specs.Sizes.{greatest_align, greatest_depth, members_end, type_align, type_depth, type_size}
use Rattle.spec_plant.specs.Spelling.{type_text}
use Rattle.spec_plant.specs.Trees.{trees_behind, trees_of}
use Rattle.spec_plant.specs.World.{byte_at, with_byte}
use Rattle.std.specs.Fmt.{digits}
use Rattle.ads_outside.specs.declared.moves.Move.{Move}
use Rattle.spec_formats.specs.Request.{Request, Read as ReadBytes, Write}
use Rattle.spec_plant.specs.Description.{Control}
use Rattle.spec_plant.specs.World.{PlantPort, Block, plant_port}
use Rattle.spec_plant.proofs.Plant.{axis_type, count_symbol, port_with, symbols_with, title_symbol}
use Rattle.spec_rules.specs.TextVerdict.{text_verdict}
use Rattle.spec_machine.specs.Access.{Addressed}
use Rattle.spec_machine.specs.Client.{Client, new_client}
use Rattle.spec_machine.specs.Connection.{Connection, fresh_connection}
use Rattle.spec_machine.specs.Handles.{Live, Released, kept_status}
use Rattle.spec_machine.specs.MachineState.{MachineState}
use Rattle.spec_machine.specs.Profile.{strict}
use Rattle.spec_machine.specs.Watches.{Watch, Cyclic, Mode}
use Rattle.spec_machine.specs.World.{World, setup_of}
use Rattle.spec_machine.specs.Writes.{Asker}
use Rattle.spec_laws.specs.Histories.{handle_history, handle_events_of_event}
use Rattle.spec_server.specs.Server.{server_after_in}
use Rattle.spec_promises.specs.Asked.{Asked, asked_in_turn, asked_of_move, asked_of_packets, outcome_of_asked, requests_of}
use Rattle.spec_promises.specs.KeptHandles.{HandlesAreHistoryIn, KeepsHandlesIn, read_by_handle}
use Rattle.spec_promises.specs.Notified.{GivesAsAsked, IsByCycle, NotifiesAfterIn, TickSeen, life_of, watch_at}
use Rattle.spec_promises.specs.Written.{ChangesByRequests, HoldsWritesIn, IsWritten}
use Rattle.spec_promises.specs.Written.{asked_at_move, memory_at}
use Rattle.spec_machine.proofs.Plant.{ENGINEER, added, named, opened, piece, plant, q, reload, start, tick, waves}

-- connection 1 has the handle 1 of `Main.count`, and the handle 2 of `Flags.bits`, which it gave back
abbrev before : List Move
before = opened 1 ∷ piece 1 (named 1 0xF003 4 (codes "Main.count") ++ named 2 0xF003 4 (codes "Flags.bits"))
    ∷ piece 1 (q 3 3 (codes "06f00000 00000000 04000000 02000000")) ∷ []

-- it writes 7 and 8 at byte 2 of `Main.count`; and it reads there
abbrev writes : Move
writes = piece 1 (q 3 4 (codes "40400000 02000000 02000000 0708"))

abbrev reads : Move
reads = piece 1 (q 2 4 (codes "40400000 02000000 02000000"))

abbrev Holds : Move → Type 0
Holds m = HoldsWritesIn strict plant waves before m

abbrev asked : Move → List Asked
asked m = asked_at_move strict plant waves before m

abbrev bytes_after : List Move → List Block
bytes_after more = memory_at strict plant waves (before ++ more)

-- the port that is asked, who asks, and what is asked
abbrev port : PlantPort
port = plant_port (axis_type ∷ []) (port_with (symbols_with (count_symbol 0) (title_symbol 7 (codes "Mix" ++ replicate 5 0))))

abbrev state : MachineState World Client
state = server_after_in strict plant waves before

abbrev client : Client
client = (unwrap_or (connection_of 1 state.connections) (fresh_connection new_client 1)).client

abbrev engineer : Asker
engineer = record { port = port; address = record { net = ENGINEER; port = 32905 }; rights = Control }

abbrev asks : Request → Asked
asks r = record { setup = setup_of start.world; asker = engineer; before = record { client = client; memory = state.world.memory }; request = r }

-- the connection and the state behind a reload that is refused, and what is read of `Main.count`
abbrev connection : Connection Client
connection = unwrap_or (connection_of 1 state.connections) (fresh_connection new_client 1)

abbrev refused_state : MachineState World Client
refused_state = server_after_in strict plant waves (before ++ reload (codes "schema = = 2") ∷ [])

abbrev full_count : Outcome
full_count = record { code = 0; bytes = 42 ∷ 0 ∷ 0 ∷ 0 ∷ [] }

abbrev is_read : Request → Bool
is_read (ReadBytes group offset len) = true
is_read r = false

abbrev is_write : Request → Bool
is_write (Write group offset bytes) = true
is_write r = false

record MoveRows : Type 0 where
  -- what each asks: one request, by the port's engineer
  one_write : asked writes ≡ asks (Write 0x4040 2 (7 ∷ 8 ∷ [])) ∷ []
  one_read : asked reads ≡ asks (ReadBytes 0x4040 2 2) ∷ []
  accepted : outcome_of_asked (asks (Write 0x4040 2 (7 ∷ 8 ∷ []))) ≡ record { code = 0; bytes = [] }
  refused : outcome_of_asked (asks (Write 0x4040 999 (7 ∷ []))) ≡ record { code = 0x703; bytes = [] }
  nothing_asked : asked (tick 5) ≡ []
  -- a read holds all that is promised of a move; a write changes the bytes by its request
  read_holds : Holds reads
  tick_asks_nothing : ChangesByRequests strict plant waves before (tick 5)
  write_changes : ChangesByRequests strict plant waves before writes

move_rows : MoveRows
unfolding ams_length_of is_header front_of packet_of behind_frame frames_from frames_of left_behind rest_of has_same_parts has_same_members part_behind
    type_align greatest_align type_size members_end type_depth greatest_depth found_of byte_at with_byte trees_behind trees_of type_text group_in group_of
    request_in request_of byte_range bit_range size_range range_in header_of written_bytes reply_in notes_of connection_after_tick connection_after_reload
    state_after_event state_after_move state_after given_in_turn left_in_turn sum_refusal packed handles_after_all memory_after_puts world_after_tick
    client_after_tick read_write_group act_of plain_act produce produce_all connection_of put_back grant_in is_released_in place_after handle_in
    with_released handles_after write_group control_act client_after client_after_reload ended_of watches_after_reload ended_watches name_behind
    comment_behind entry_of_part numbers_from name_at names_at content_of projection_of acts_of_packets acts_of_move acts_of_log acts_by_others
    reply_in_forms outcome_in_all response_packet performed grouped frames_of_samples samples_at watches_after_tick reach_of outcomes_of memory_after_acts
    client_after_acts is_kept memory_after_reload world_after_reload client_reloaded answered_group after_packet after_packets after_piece read_group
    acts_of decide_request decide digits handle_history handle_events_of_event asked_in_turn asked_of_move asked_of_packets requests_of
    text_verdict toml_on_literals is_utf8 chars
move_rows = record {
  one_write = refl;
  one_read = refl;
  accepted = refl;
  refused = refl;
  nothing_asked = refl;
  read_holds = record {
    requests = (refl, refl);
    names = refl;
    writes = ((λ group offset bytes e code. absurd (false≢true (ap is_write e))), tt);
    controls = ((λ ads device bytes e code. absurd (false≢true (sym (ap is_read e)))), tt);
  };
  tick_asks_nothing = tt;
  write_changes = (refl, refl);
}

-- a write does not leave other bytes
another_byte : IsWritten (asks (Write 0x4040 2 (7 ∷ 8 ∷ []))) 0x4040 2 (8 ∷ 8 ∷ []) → ⊥
unfolding ams_length_of is_header front_of packet_of behind_frame frames_from frames_of left_behind rest_of has_same_parts has_same_members part_behind
    type_align greatest_align type_size members_end type_depth greatest_depth found_of byte_at with_byte trees_behind trees_of type_text group_in group_of
    request_in request_of byte_range bit_range size_range range_in header_of written_bytes reply_in notes_of connection_after_tick connection_after_reload
    state_after_event state_after_move state_after given_in_turn left_in_turn sum_refusal packed handles_after_all memory_after_puts world_after_tick
    client_after_tick read_write_group act_of plain_act produce produce_all connection_of put_back grant_in is_released_in place_after handle_in
    with_released handles_after write_group control_act client_after client_after_reload ended_of watches_after_reload ended_watches name_behind
    comment_behind entry_of_part numbers_from name_at names_at content_of projection_of acts_of_packets acts_of_move acts_of_log acts_by_others
    reply_in_forms outcome_in_all response_packet performed grouped frames_of_samples samples_at watches_after_tick reach_of outcomes_of memory_after_acts
    client_after_acts is_kept memory_after_reload world_after_reload client_reloaded answered_group after_packet after_packets after_piece read_group
    acts_of decide_request decide digits handle_history handle_events_of_event asked_in_turn asked_of_move asked_of_packets requests_of
    text_verdict toml_on_literals is_utf8 chars
another_byte h = false≢true (ap (λ l. bytes_eq (take 4 l) (42 ∷ 0 ∷ 8 ∷ 8 ∷ [])) h.holds)

record HandleRows : Type 0 where
  -- each handle is what its history says
  live : HandlesAreHistoryIn strict plant waves before
      → kept_status client.handles 1 851 ≡ Live (record { symbol = codes "main.count"; first = 0; len = 4 })
  released : HandlesAreHistoryIn strict plant waves before → kept_status client.handles 2 851 ≡ Released
  -- a handle reads the same behind a reload that is refused
  kept : KeepsHandlesIn strict plant waves before (codes "schema = = 2") → read_by_handle refused_state connection engineer 1 4 ≡ full_count

handle_rows : HandleRows
unfolding ams_length_of is_header front_of packet_of behind_frame frames_from frames_of left_behind rest_of has_same_parts has_same_members part_behind
    type_align greatest_align type_size members_end type_depth greatest_depth found_of byte_at with_byte trees_behind trees_of type_text group_in group_of
    request_in request_of byte_range bit_range size_range range_in header_of written_bytes reply_in notes_of connection_after_tick connection_after_reload
    state_after_event state_after_move state_after given_in_turn left_in_turn sum_refusal packed handles_after_all memory_after_puts world_after_tick
    client_after_tick read_write_group act_of plain_act produce produce_all connection_of put_back grant_in is_released_in place_after handle_in
    with_released handles_after write_group control_act client_after client_after_reload ended_of watches_after_reload ended_watches name_behind
    comment_behind entry_of_part numbers_from name_at names_at content_of projection_of acts_of_packets acts_of_move acts_of_log acts_by_others
    reply_in_forms outcome_in_all response_packet performed grouped frames_of_samples samples_at watches_after_tick reach_of outcomes_of memory_after_acts
    client_after_acts is_kept memory_after_reload world_after_reload client_reloaded answered_group after_packet after_packets after_piece read_group
    acts_of decide_request decide digits handle_history handle_events_of_event asked_in_turn asked_of_move asked_of_packets requests_of
    text_verdict toml_on_literals is_utf8 chars
handle_rows = record {
  live = λ h. h 1 connection refl 1 851;
  released = λ h. h 1 connection refl 2 851;
  kept = λ h. h 1 connection connection engineer engineer (record { before = refl; heard = refl; after = refl; same_port = refl }) 1 refl refl 4;
}

-- notification 1, of `Main.count`, at each cycle of 1,000; and what comes then
abbrev watching : List Move
watching = opened 1 ∷ opened 2 ∷ piece 1 (added 1 (codes "40400000 00000000 04000000 03000000 00000000 e8030000")) ∷ []

abbrev write_five : Move
write_five = piece 2 (q 3 1 (codes "40400000 00000000 04000000 05000000"))

abbrev some_ticks : List Move
some_ticks = tick 500 ∷ write_five ∷ tick 1499 ∷ tick 1500 ∷ []

abbrev watched_state : MachineState World Client
watched_state = server_after_in strict plant waves watching

abbrev watch : Watch (List Addressed)
watch = record {
  handle = 1;
  port = 851;
  address = record { net = ENGINEER; port = 32905 };
  watched = [];
  mode = Cyclic;
  cycle = 1000;
  last = None;
  sent = [];
}

abbrev full : ℕ → List ℕ
full n = n ∷ 0 ∷ 0 ∷ 0 ∷ []

abbrev seen : ℕ → ℕ → List (List ℕ) → TickSeen
seen moment value given = record { moment = moment; found = full value; given = given }

abbrev is_cyclic : Mode → Bool
is_cyclic Cyclic = true
is_cyclic mode = false

abbrev is_none : List (List ℕ) → Bool
is_none [] = true
is_none (s ∷ ss) = false

-- a sample before the cycle has passed
early : GivesAsAsked watch (seen 500 42 (full 42 ∷ []) ∷ seen 1499 5 (full 5 ∷ []) ∷ []) → ⊥
early g = early_in (g.cyclic refl)
  where
    early_in : IsByCycle 1000 (seen 500 42 (full 42 ∷ []) ∷ seen 1499 5 (full 5 ∷ []) ∷ []) → ⊥
    early_in (first, inl (given, due, rest)) = false≢true (le-leb 1500 1499 due)
    early_in (first, inr (none, not_due, rest)) = false≢true (ap is_none none)

record NotifiedRows : Type 0 where
  -- as it was asked: none at 1,499, and the new value at 1,500
  as_asked : GivesAsAsked watch (seen 500 42 (full 42 ∷ []) ∷ seen 1499 5 [] ∷ seen 1500 5 (full 5 ∷ []) ∷ [])
  too_early : GivesAsAsked watch (seen 500 42 (full 42 ∷ []) ∷ seen 1499 5 (full 5 ∷ []) ∷ []) → ⊥
  -- the promise, of what the machine does
  promised : NotifiesAfterIn strict plant waves watching some_ticks
      → IsByCycle 1000 (seen 500 42 (full 42 ∷ []) ∷ seen 1499 5 [] ∷ seen 1500 5 (full 5 ∷ []) ∷ [])

notified_rows : NotifiedRows
unfolding ams_length_of is_header front_of packet_of behind_frame frames_from frames_of left_behind rest_of has_same_parts has_same_members part_behind
    type_align greatest_align type_size members_end type_depth greatest_depth found_of byte_at with_byte trees_behind trees_of type_text group_in group_of
    request_in request_of byte_range bit_range size_range range_in header_of written_bytes reply_in notes_of connection_after_tick connection_after_reload
    state_after_event state_after_move state_after given_in_turn left_in_turn sum_refusal packed handles_after_all memory_after_puts world_after_tick
    client_after_tick read_write_group act_of plain_act produce produce_all connection_of put_back grant_in is_released_in place_after handle_in
    with_released handles_after write_group control_act client_after client_after_reload ended_of watches_after_reload ended_watches name_behind
    comment_behind entry_of_part numbers_from name_at names_at content_of projection_of acts_of_packets acts_of_move acts_of_log acts_by_others
    reply_in_forms outcome_in_all response_packet performed grouped frames_of_samples samples_at watches_after_tick reach_of outcomes_of memory_after_acts
    client_after_acts is_kept memory_after_reload world_after_reload client_reloaded answered_group after_packet after_packets after_piece read_group
    acts_of decide_request decide digits life_of
notified_rows = record {
  as_asked = record {
    cyclic = λ e. (refl, inr (refl, lit< tt, inl (refl, lit≤ tt, tt)));
    on_change = λ e. absurd (false≢true (sym (ap is_cyclic e)));
  };
  too_early = early;
  promised = λ h. (h 1 1 (unwrap_or (watch_at 1 1 watched_state) watch) refl refl).cyclic refl;
}
