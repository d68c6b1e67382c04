-- The play of a script over a store, by computation.
use Rattle.std.specs.Prelude.{◌≡◌, ◌⊎◌, refl, ℕ, List, [], ◌∷◌, ◌++◌, codes, replicate, true, false, Option, Some, None, bytes_eq, ◌==◌, if◌then◌else◌}
use Rattle.std.proofs.Common.{◌∙◌, ap, inl, inr, lit≤}
use Rattle.std.proofs.lemmas.Bool.{false≢true, le-leb}
use Rattle.spec_plant.specs.PartTexts.{name_behind, comment_behind}
use Rattle.spec_formats.specs.Groups.{group_in, group_of}
use Rattle.spec_formats.specs.Header.{header_of}
use Rattle.spec_formats.specs.Ranges.{bit_range, byte_range, range_in, size_range}
use Rattle.spec_formats.specs.Reply.{reply_in, written_bytes}
use Rattle.spec_formats.specs.Request.{request_in, request_of}
use Rattle.spec_frames.specs.Division.{ams_length_of, behind_frame, frames_from, frames_of, front_of, is_header, left_behind, packet_of, rest_of}
use Rattle.spec_machine.specs.Access.{memory_after_puts}
use Rattle.spec_machine.specs.Acts.{client_after_acts, memory_after_acts, outcomes_of}
use Rattle.spec_machine.specs.Answers.{answered_group}
use Rattle.spec_machine.specs.ByName.{read_write_group}
use Rattle.spec_machine.specs.Client.{client_after, client_after_reload, ended_of}
use Rattle.spec_machine.specs.Connection.{connection_of, produce, produce_all, put_back}
use Rattle.spec_machine.specs.Entries.{entry_of_part}
use Rattle.spec_machine.specs.HandleLaws.{handles_after_all}
use Rattle.spec_machine.specs.Handles.{grant_in, handle_in, handles_after, is_released_in, place_after, with_released}
use Rattle.spec_machine.specs.Moves.{state_after, state_after_move}
use Rattle.spec_machine.specs.Events.{connection_after_reload, connection_after_tick, state_after_event}
use Rattle.spec_machine.specs.SumPackets.{acts_of, decide_request}
use Rattle.spec_machine.specs.Packets.{decide}
use Rattle.spec_machine.specs.Piece.{after_packet, after_packets, after_piece}
use Rattle.spec_machine.specs.Projection.{acts_by_others, acts_of_log, acts_of_move, acts_of_packets, projection_of}
use Rattle.spec_machine.specs.Reach.{reach_of}
use Rattle.spec_machine.specs.Reads.{read_group}
use Rattle.spec_machine.specs.Reloads.{client_reloaded, is_kept, memory_after_reload, world_after_reload}
use Rattle.spec_machine.specs.Replies.{outcome_in_all, performed, reply_in_forms, response_packet}
use Rattle.spec_machine.specs.Requests.{act_of, plain_act}
use Rattle.spec_machine.specs.RunText.{notes_of}
use Rattle.spec_machine.specs.Stamps.{frames_of_samples, grouped, samples_at, watches_after_tick}
use Rattle.spec_machine.specs.Sums.{given_in_turn, left_in_turn, packed, sum_refusal}
use Rattle.spec_machine.specs.Ticks.{client_after_tick, world_after_tick}
use Rattle.spec_machine.specs.Watches.{ended_watches, watches_after_reload}
use Rattle.spec_machine.specs.World.{content_of, name_at, names_at, numbers_from}
use Rattle.spec_machine.specs.Writes.{control_act, write_group}
use Rattle.spec_plant.specs.Finding.{found_of}
use Rattle.spec_plant.specs.Parts.{part_behind}
use Rattle.spec_plant.specs.SameTypes.{has_same_members, has_same_parts}
use Rattle.spec_plant.specs.Sizes.{greatest_align, greatest_depth, members_end, type_align, type_depth, type_size}
use Rattle.spec_plant.specs.Spelling.{type_text}
use Rattle.spec_plant.specs.Trees.{trees_behind, trees_of}
use Rattle.spec_plant.specs.World.{byte_at, with_byte}
use Rattle.std.specs.Fmt.{digits}
use Rattle.ads_outside.specs.declared.end.End.TheVariants as end
use Rattle.ads_outside.specs.declared.event.Event.TheVariants as event
use Rattle.ads_outside.specs.declared.moves.Move.{Move}
use Rattle.ads_outside.specs.SinkState.{SinkState}
use Rattle.ads_outside.specs.Streams.{none_taken}
use Rattle.ads_outside.specs.WireState.{WireHistory, history_after}
use Rattle.hex.specs.Hex.{encode_with}
use Rattle.spec_machine.specs.LogText.{log_text_of}
use Rattle.spec_machine.specs.Offers.{left_after}
use Rattle.spec_machine.specs.Peers.{offers_to, peers_after}
use Rattle.spec_machine.specs.Play.{moves_of_each, turns_of}
use Rattle.spec_machine.specs.ScriptLine.{ScriptLine, Happens}
use Rattle.spec_server.specs.Server.{server, server_start}
use Rattle.spec_store.specs.BodyText.{entry_of, entries_in, entries_of}
use Rattle.spec_store.specs.Runs.{IsOneOf, standing_after_all}
use Rattle.spec_store.specs.Slots.{Standing, behind_gate, slot_of, standing_of}
use Rattle.spec_persistent.specs.Persistent.{body_of}
use Rattle.type_layout.specs.Forms.{form_of}
use Rattle.persist_store.specs.Marks.{Mark}
use Rattle.keep_loop.specs.Bodies.{bodies_at_ticks, bodies_looked_at, bodies_to_end, is_any_over, paced, saves_in}
use Rattle.keep_loop.specs.KeepingOn.{LooksAt}
use Rattle.keep_loop.specs.Marking.{HoldsSaves, MarksRun}
use Rattle.keep_play.specs.KeptDisk.{DiskUse, FileStands, disk_used}
use Rattle.keep_play.specs.KeptMarks.{AllMarked}
use Rattle.keep_play.specs.KeptPlay.{AllSaved}
use Rattle.keep_play.specs.KeptSaves.{bodies_of_play, body_of_world, description_kept, kept_text, saved_line, saves_of_play, saves_over}
use Rattle.run_tasks.specs.declared.status.Status.TheVariants as status
use Rattle.run_tasks.specs.BuiltIn.{built_in}
use Rattle.run_tasks.specs.KeepAsked.{Keeping, keeping}
use Rattle.run_tasks.specs.StatusTable.{number_of}
use Rattle.run_tasks.specs.Verdict.{Keeps}
use Rattle.plant_commands.specs.Keeping.{EndsKeeping, KeepsBy, PrintsKept, kept_ending}
use Rattle.spec_plant.proofs.Plant.{count_symbol, description_with, symbols_with, title_symbol}
use Rattle.spec_machine.proofs.Plant.{opened, piece, plant, q, step, start, tick, waves}

-- the body of the plant's one persistent symbol, `Main.title`, with this first letter
abbrev title : ℕ → List ℕ
title letter = 1 ∷ 0 ∷ 0 ∷ 0 ∷ 83 ∷ 3 ∷ 10 ∷ 0 ∷ codes "Main.title" ++ 9 ∷ 0 ∷ 0 ∷ 0 ∷ 0 ∷ 0 ∷ 0 ∷ 0
    ∷ codes "string(7)" ++ 8 ∷ 0 ∷ 0 ∷ 0 ∷ letter ∷ codes "ix" ++ replicate 5 0

-- a client writes its first letter, an F for an M, between the first tick and the second
abbrev writes_an_f : Move
writes_an_f = piece 1 (q 3 1 (codes "40400000 48000000 01000000 46"))

abbrev moves : List Move
moves = tick 1 ∷ opened 1 ∷ writes_an_f ∷ tick 2 ∷ tick 3 ∷ []

abbrev lines : List ScriptLine
lines = Happens (event.Tick 1) ∷ Happens (event.Opened 1) ∷ Happens (event.Piece 1 (q 3 1 (codes "40400000 48000000 01000000 46")))
    ∷ Happens (event.Tick 2) ∷ []

-- the body of `F` stands already
abbrev f_stands : Standing
f_stands = record { is_second = true; slot = record { sequence = 8; body = title 70 } }

record BodyRows : Type 0 where
  -- behind each tick, and behind each second one and the end
  at_ticks : bodies_at_ticks body_of_world step start moves ≡ title 77 ∷ title 70 ∷ title 70 ∷ []
  looked_at : bodies_looked_at 2 body_of_world step start moves ≡ title 70 ∷ []
  to_end : bodies_to_end 2 body_of_world step start (tick 1 ∷ []) ≡ title 77 ∷ []
  looks_done : LooksAt end.Budget 2 body_of_world step start moves (title 70 ∷ title 70 ∷ [])
  looks_memory : LooksAt end.Memory 1 body_of_world step start moves (title 77 ∷ [])
  looks_at_more : LooksAt end.Memory 1 body_of_world step start moves (title 70 ∷ []) → ⊥
  -- a play: behind its ticks and at its end; what differs is saved
  of_play : bodies_of_play plant waves lines ≡ title 77 ∷ title 70 ∷ title 70 ∷ []
  saves : saves_of_play plant waves lines None ≡ title 77 ∷ title 70 ∷ []
  -- where the `F` stood, the plant begins with it, and nothing has to be saved
  kept : description_kept plant (Some f_stands) ≡ description_with (symbols_with (count_symbol 0) (title_symbol 7 (codes "Fix" ++ replicate 5 0)))
  no_save : saves_of_play plant waves lines (Some f_stands) ≡ []
  -- a body that is no body text gives nothing
  no_body : description_kept plant (Some (record f_stands { slot = record { sequence = 8; body = 7 ∷ [] } })) ≡ plant

abbrev first_of : List (List ℕ) → List ℕ
first_of [] = []
first_of (x ∷ xs) = x

body_rows : BodyRows
unfolding ams_length_of is_header front_of packet_of behind_frame frames_from frames_of left_behind rest_of has_same_parts has_same_members part_behind
    type_align greatest_align type_size members_end type_depth greatest_depth found_of byte_at with_byte trees_behind trees_of type_text group_in group_of
    request_in request_of byte_range bit_range size_range range_in header_of written_bytes reply_in notes_of connection_after_tick connection_after_reload
    state_after_event state_after_move state_after given_in_turn left_in_turn sum_refusal packed handles_after_all memory_after_puts world_after_tick
    client_after_tick read_write_group act_of plain_act produce produce_all connection_of put_back grant_in is_released_in place_after handle_in
    with_released handles_after write_group control_act client_after client_after_reload ended_of watches_after_reload ended_watches name_behind
    comment_behind entry_of_part numbers_from name_at names_at content_of projection_of acts_of_packets acts_of_move acts_of_log acts_by_others
    reply_in_forms outcome_in_all response_packet performed grouped frames_of_samples samples_at watches_after_tick reach_of outcomes_of memory_after_acts
    client_after_acts is_kept memory_after_reload world_after_reload client_reloaded answered_group after_packet after_packets after_piece read_group
    acts_of decide_request decide digits body_of form_of bodies_at_ticks paced saves_in saves_over left_after offers_to peers_after moves_of_each turns_of
    entry_of entries_in entries_of
body_rows = record {
  at_ticks = refl;
  looked_at = refl;
  to_end = refl;
  looks_done = refl;
  looks_memory = record { rest = title 70 ∷ title 70 ∷ []; is = refl };
  looks_at_more = λ f. false≢true (ap (λ l. bytes_eq (first_of l) (title 70)) f.is);
  of_play = refl;
  saves = refl;
  kept = refl;
  no_save = refl;
  no_body = refl;
}

saved : saved_line 12 ≡ codes "saved 12\n"
unfolding digits
saved = refl

-- An empty script over a new store, with the built-in description, which has nothing persistent: one save is done, of no entry.
abbrev pub empty : List ℕ
empty = 0 ∷ 0 ∷ 0 ∷ 0 ∷ []

abbrev pub file : List ℕ
file = 1 ∷ behind_gate (record { sequence = 1; body = empty })

abbrev ask : Keeping
ask = keeping built_in [] []

-- a wire that was never used, which tells all that it is asked
abbrev pub unused : WireHistory
unused = record { log = Some []; streams = Some none_taken; starts = Some []; opened = []; events = 0; ends = 0; stops = 0 }

-- the disk tells its file: it was new, and then it is this one, of which nothing is pending; a stop in between may leave either
-- a mark of it may be told, at the end of a play without an event
abbrev mark : Mark
mark = record { wire = unused; file = Some file }

abbrev pub disk_with : List ℕ → ℕ → DiskUse
disk_with now faults = disk_used {D = ℕ} (λ (d : ℕ). if d == 0 then Some [] else Some now) (λ (d : ℕ) bytes. bytes ≡ (if d == 0 then [] else now))
    (λ (d : ℕ). d) (λ (d : ℕ) since bytes. (bytes ≡ []) ⊎ (bytes ≡ now))
    (λ (d : ℕ) marks. marks ≡ (if d == 0 then [] else mark ∷ [])) (λ (d : ℕ). if d == 0 then 0 else faults) 0 1

abbrev pub disk : DiskUse
disk = disk_with file 0

abbrev text : List ℕ
text = codes "connections 0 requests 0 replies 0 samples 0 reloads 0 0\nsaved 1\n"

abbrev sink : List ℕ → SinkState
sink held = record { held = Some held; faults = 0; wants = 0 }

abbrev bytes_in : Option (List ℕ) → List ℕ
bytes_in None = []
bytes_in (Some bytes) = bytes

-- what stood before it, or what it is the save of
left : (bytes : List ℕ) → (bytes ≡ []) ⊎ (bytes ≡ file) → (bytes ≡ []) ⊎ IsOneOf None (empty ∷ []) (standing_of bytes)
unfolding IsOneOf slot_of standing_of entry_of entries_in entries_of
left bytes (inl e) = inl e
left bytes (inr e) = inr (inr (ap standing_of e))

pub all_saved : AllSaved disk None (empty ∷ [])
unfolding is_any_over standing_after_all slot_of standing_of entry_of entries_in entries_of
all_saved = record {
  within = refl;
  stands = λ old e. record { file = file; told = refl; only = λ bytes h. h; stands = refl };
}

abbrev sequence_in : Option Standing → ℕ
sequence_in None = 0
sequence_in (Some s) = s.slot.sequence

not_standing : FileStands (disk_with [] 0) (standing_after_all None (empty ∷ [])) → false ≡ true
unfolding standing_after_all slot_of standing_of entry_of entries_in entries_of
not_standing f = ap (λ s. sequence_in s == 1) (ap (λ o. standing_of (bytes_in o)) f.told ∙ f.stands)

not_saved : AllSaved (disk_with [] 0) None (empty ∷ []) → ⊥
unfolding standing_after_all slot_of standing_of entry_of entries_in entries_of
not_saved h = false≢true (not_standing (h.stands [] refl))

-- behind the play, that had no tick, one mark is told: at its end, when the file stood for its save
marked : AllMarked built_in [] [] disk None
unfolding ams_length_of is_header front_of packet_of behind_frame frames_from frames_of left_behind rest_of has_same_parts has_same_members part_behind
    type_align greatest_align type_size members_end type_depth greatest_depth found_of byte_at with_byte trees_behind trees_of type_text group_in group_of
    request_in request_of byte_range bit_range size_range range_in header_of written_bytes reply_in notes_of connection_after_tick connection_after_reload
    state_after_event state_after_move state_after given_in_turn left_in_turn sum_refusal packed handles_after_all memory_after_puts world_after_tick
    client_after_tick read_write_group act_of plain_act produce produce_all connection_of put_back grant_in is_released_in place_after handle_in
    with_released handles_after write_group control_act client_after client_after_reload ended_of watches_after_reload ended_watches name_behind
    comment_behind entry_of_part numbers_from name_at names_at content_of projection_of acts_of_packets acts_of_move acts_of_log acts_by_others
    reply_in_forms outcome_in_all response_packet performed grouped frames_of_samples samples_at watches_after_tick reach_of outcomes_of memory_after_acts
    client_after_acts is_kept memory_after_reload world_after_reload client_reloaded answered_group after_packet after_packets after_piece read_group
    acts_of decide_request decide digits body_of bodies_at_ticks paced saves_in saves_over left_after offers_to peers_after moves_of_each turns_of slot_of
    standing_of entry_of entries_in entries_of standing_after_all
marked = λ marks e. record {
  more = mark ∷ [];
  told = ap (λ l. l ++ mark ∷ []) e;
  are = record {
    looks = [];
    each = refl;
    are = tt;
    last = record { whole = refl; last = mark; are = refl; wire = refl; holds = λ first told. (file, refl, refl) };
  };
}

record PlayRows : Type 0 where
  its_text : kept_text built_in [] [] None ≡ text
  ending : kept_ending ask None ≡ record { status = status.Done; text = text }
  its_saves : saves_of_play built_in [] [] None ≡ empty ∷ []
  -- all was saved, and that is printed
  printed : PrintsKept ask status.Done (sink []) (sink text) disk None (empty ∷ [])
  ends : EndsKeeping ask status.Done (sink []) (sink text) disk
  by_the_verdict : KeepsBy (Keeps ask) ⊥ status.Done (sink []) (sink text) disk
  -- a call of the disk failed, and that is told
  failed : PrintsKept ask status.StoreFault (sink []) (sink (codes "ads: store fault\n")) (disk_with [] 1) None (empty ∷ [])
  -- no fault is told where none was
  no_fault : PrintsKept ask status.StoreFault (sink []) (sink (codes "ads: store fault\n")) disk None (empty ∷ []) → ⊥

no_fault_told : PrintsKept ask status.StoreFault (sink []) (sink (codes "ads: store fault\n")) disk None (empty ∷ []) → ⊥
unfolding is_any_over
no_fault_told (inl (all, inl (same, put), marks)) = false≢true (ap (λ s. number_of s == 0) same)
no_fault_told (inl (all, inr (inl (same, put)), marks)) = false≢true (ap (λ s. number_of s == 5) same)
no_fault_told (inl (all, inr (inr (same, put)), marks)) = false≢true (ap (λ s. number_of s == 10) same)
no_fault_told (inr (inl (over, printed))) = false≢true over
no_fault_told (inr (inr (inl (rose, printed)))) = false≢true (le-leb 1 0 rose)
no_fault_told (inr (inr (inr (same, put)))) = false≢true (ap (λ s. number_of s == 10) same)

play_rows : PlayRows
unfolding ams_length_of is_header front_of packet_of behind_frame frames_from frames_of left_behind rest_of has_same_parts has_same_members part_behind
    type_align greatest_align type_size members_end type_depth greatest_depth found_of byte_at with_byte trees_behind trees_of type_text group_in group_of
    request_in request_of byte_range bit_range size_range range_in header_of written_bytes reply_in notes_of connection_after_tick connection_after_reload
    state_after_event state_after_move state_after given_in_turn left_in_turn sum_refusal packed handles_after_all memory_after_puts world_after_tick
    client_after_tick read_write_group act_of plain_act produce produce_all connection_of put_back grant_in is_released_in place_after handle_in
    with_released handles_after write_group control_act client_after client_after_reload ended_of watches_after_reload ended_watches name_behind
    comment_behind entry_of_part numbers_from name_at names_at content_of projection_of acts_of_packets acts_of_move acts_of_log acts_by_others
    reply_in_forms outcome_in_all response_packet performed grouped frames_of_samples samples_at watches_after_tick reach_of outcomes_of memory_after_acts
    client_after_acts is_kept memory_after_reload world_after_reload client_reloaded answered_group after_packet after_packets after_piece read_group
    acts_of decide_request decide digits body_of bodies_at_ticks saves_in saves_over log_text_of encode_with left_after offers_to peers_after moves_of_each
    turns_of slot_of standing_of entry_of entries_in entries_of
play_rows = record {
  its_text = refl;
  ending = refl;
  its_saves = refl;
  printed = inl (all_saved, inl (refl, refl), marked);
  ends = record {
    standing = None;
    stood = λ old e. ap (λ o. standing_of (bytes_in o)) e;
    left = λ old e bytes l. left bytes l;
    ends = inl (all_saved, inl (refl, refl), marked);
  };
  by_the_verdict = inl (inr (record {
    made = ask;
    is = refl;
    comes = record {
      standing = None;
      stood = λ old e. ap (λ o. standing_of (bytes_in o)) e;
      left = λ old e bytes l. left bytes l;
      ends = inl (all_saved, inl (refl, refl), marked);
    };
  }));
  failed = inr (inr (inl (lit≤ tt, inl (refl, refl))));
  no_fault = no_fault_told;
}

-- A run of one tick: a mark behind its turn, when the save was done, and one at the end, when nothing had to be saved.
abbrev ticked : WireHistory
ticked = history_after unused (tick 1 ∷ [])

abbrev mark_behind : WireHistory → Mark
mark_behind wire = record { wire = wire; file = Some file }

marks : MarksRun true 1 body_of_world server (server_start built_in []) (HoldsSaves (Some []) None) unused ticked
    (mark_behind ticked ∷ mark_behind ticked ∷ [])
unfolding ams_length_of is_header front_of packet_of behind_frame frames_from frames_of left_behind rest_of has_same_parts has_same_members part_behind
    type_align greatest_align type_size members_end type_depth greatest_depth found_of byte_at with_byte trees_behind trees_of type_text group_in group_of
    request_in request_of byte_range bit_range size_range range_in header_of written_bytes reply_in notes_of connection_after_tick connection_after_reload
    state_after_event state_after_move state_after given_in_turn left_in_turn sum_refusal packed handles_after_all memory_after_puts world_after_tick
    client_after_tick read_write_group act_of plain_act produce produce_all connection_of put_back grant_in is_released_in place_after handle_in
    with_released handles_after write_group control_act client_after client_after_reload ended_of watches_after_reload ended_watches name_behind
    comment_behind entry_of_part numbers_from name_at names_at content_of projection_of acts_of_packets acts_of_move acts_of_log acts_by_others
    reply_in_forms outcome_in_all response_packet performed grouped frames_of_samples samples_at watches_after_tick reach_of outcomes_of memory_after_acts
    client_after_acts is_kept memory_after_reload world_after_reload client_reloaded answered_group after_packet after_packets after_piece read_group
    acts_of decide_request decide digits body_of bodies_at_ticks paced saves_in history_after slot_of standing_of entry_of entries_in entries_of
    standing_after_all
marks = record {
  moves = tick 1 ∷ [];
  later = [];
  few = lit≤ tt;
  ended = refl;
  looks = mark_behind ticked ∷ [];
  each = refl;
  are = (
    record {
      before = [];
      turn = tick 1 ∷ [];
      later = [];
      are = refl;
      one = refl;
      so_far = refl;
      due = refl;
      wire = refl;
      holds = λ first told. (file, refl, refl);
    },
    tt,
  );
  all = record { whole = refl; last = mark_behind ticked; are = refl; wire = refl; holds = λ first told. (file, refl, refl) };
}

-- what stands for another body holds no save
no_sequence : (now : List ℕ) × (Some [] ≡ Some now) × (standing_of now ≡ standing_after_all None (saves_in None (empty ∷ []))) → ⊥
unfolding saves_in slot_of standing_of entry_of entries_in entries_of standing_after_all
no_sequence (now, same, stands) =
    false≢true (ap (λ o. sequence_in (standing_of (bytes_in o)) == 1) same ∙ ap (λ s. sequence_in s == 1) stands)

holds_no_save : HoldsSaves (Some []) None (empty ∷ []) (Some []) → ⊥
unfolding saves_in slot_of standing_of entry_of entries_in entries_of standing_after_all
holds_no_save h = no_sequence (h [] refl)
