-- Whom another's writes touch, what a move may change, and what a log says of handles, by computation.
use Rattle.std.specs.Prelude.{◌≡◌, refl, ℕ, List, [], ◌∷◌, ◌++◌, codes, bytes_eq, true, false, ◌==◌, unwrap_or}
use Rattle.std.proofs.Common.{ap, inl, inr}
use Rattle.std.proofs.lemmas.Bool.{false≢true, le-leb}
use Rattle.spec_plant.specs.PartTexts.{name_behind, comment_behind}
use Rattle.spec_formats.specs.Groups.{group_in, group_of}
use Rattle.spec_formats.specs.Header.{header_of}
use Rattle.spec_formats.specs.Ranges.{bit_range, byte_range, range_in, size_range}
use Rattle.spec_formats.specs.Reply.{reply_in, written_bytes}
use Rattle.spec_formats.specs.Request.{request_in, request_of}
use Rattle.spec_frames.specs.Division.{ams_length_of, behind_frame, frames_from, frames_of, front_of, is_header, left_behind, packet_of, rest_of}
use Rattle.spec_machine.specs.Access.{memory_after_puts}
use Rattle.spec_machine.specs.Acts.{client_after_acts, memory_after_acts, outcomes_of}
use Rattle.spec_machine.specs.Answers.{answered_group}
use Rattle.spec_machine.specs.ByName.{read_write_group}
use Rattle.spec_machine.specs.Client.{client_after, client_after_reload, ended_of}
use Rattle.spec_machine.specs.Connection.{connection_of, produce, produce_all, put_back}
use Rattle.spec_machine.specs.Entries.{entry_of_part}
use Rattle.spec_machine.specs.HandleLaws.{handles_after_all}
use Rattle.spec_machine.specs.Handles.{grant_in, handle_in, handles_after, is_released_in, place_after, with_released}
use Rattle.spec_machine.specs.Moves.{state_after, state_after_move}
use Rattle.spec_machine.specs.Events.{connection_after_reload, connection_after_tick, state_after_event}
use Rattle.spec_machine.specs.SumPackets.{acts_of, decide_request}
use Rattle.spec_machine.specs.Packets.{decide}
use Rattle.spec_machine.specs.Piece.{after_packet, after_packets, after_piece}
use Rattle.spec_machine.specs.Projection.{acts_by_others, acts_of_log, acts_of_move, acts_of_packets, projection_of}
use Rattle.spec_machine.specs.Reach.{reach_of}
use Rattle.spec_machine.specs.Reads.{read_group}
use Rattle.spec_machine.specs.Reloads.{client_reloaded, is_kept, memory_after_reload, world_after_reload}
use Rattle.spec_machine.specs.Replies.{outcome_in_all, performed, reply_in_forms, response_packet}
use Rattle.spec_machine.specs.Requests.{act_of, plain_act}
use Rattle.spec_machine.specs.RunText.{notes_of}
use Rattle.spec_machine.specs.Stamps.{frames_of_samples, grouped, samples_at, watches_after_tick}
use Rattle.spec_machine.specs.Sums.{given_in_turn, left_in_turn, packed, sum_refusal}
use Rattle.spec_machine.specs.Ticks.{client_after_tick, world_after_tick}
use Rattle.spec_machine.specs.Watches.{ended_watches, watches_after_reload}
use Rattle.spec_machine.specs.World.{content_of, name_at, names_at, numbers_from}
use Rattle.spec_machine.specs.Writes.{control_act, write_group}
use Rattle.spec_plant.specs.Finding.{found_of}
use Rattle.spec_plant.specs.Parts.{part_behind}
use Rattle.spec_plant.specs.SameTypes.{has_same_members, has_same_parts}
use Rattle.spec_plant.specs.Sizes.{greatest_align, greatest_depth, members_end, type_align, type_depth, type_size}
use Rattle.spec_plant.specs.Spelling.{type_text}
use Rattle.spec_plant.specs.Trees.{trees_behind, trees_of}
use Rattle.spec_plant.specs.World.{byte_at, with_byte}
use Rattle.std.specs.Fmt.{digits}
use Rattle.ads_outside.specs.declared.moves.Move.{Move}
use Rattle.ads_outside.specs.declared.event.Event.TheVariants as event
use Rattle.ads_outside.specs.declared.moves.Move.{Move}
use Rattle.ads_outside.specs.declared.moves.Move.TheVariants as move
use Rattle.spec_plant.specs.World.{ByteName, SymbolPart, Block}
use Rattle.spec_machine.specs.Handles.{HandleStatus, Never, Released, Outdated, Live, status_of}
use Rattle.spec_machine.specs.World.{World, symbol_names}
use Rattle.spec_machine.specs.Client.{Place, Client}
use Rattle.spec_machine.specs.MachineState.{MachineState}
use Rattle.spec_machine.specs.Profile.{Profile}
use Rattle.spec_laws.specs.Isolation.{IsAmong, IsUntouchedIn, output}
use Rattle.spec_laws.specs.ExactWrites.{writes_of_move, is_accepted_reload, WritesPlace}
use Rattle.spec_laws.specs.Histories.{handle_history, handle_events_of_event}
use Rattle.spec_machine.proofs.Plant.{plant, waves, reading, q, named, piece, opened, tick, reload, start, step}

abbrev profile : Profile
profile = start.world.profile

abbrev byte_named : List ℕ → ℕ → ByteName
byte_named symbol k = record { port = 851; part = SymbolPart symbol; index = k }

-- connection 1 reads `Main.count`, while connection 2 writes `Flags.bits`, or a byte of `Main.count`
abbrev reads_count : Move
reads_count = piece 1 (q 2 1 (codes "40400000 00000000 04000000"))

abbrev writes_flags : Move
writes_flags = piece 2 (q 3 1 (codes "20400000 00000000 01000000 05"))

abbrev writes_count : Move
writes_count = piece 2 (q 3 1 (codes "40400000 03000000 01000000 05"))

abbrev beside : List Move
beside = opened 1 ∷ opened 2 ∷ writes_flags ∷ reads_count ∷ []

abbrev across : List Move
across = opened 1 ∷ opened 2 ∷ writes_count ∷ reads_count ∷ []

abbrev output_in : List Move → List ℕ
output_in log = output reading profile plant waves 1 log

one_is_not_two : IsAmong (byte_named (codes "main.count") 1) (byte_named (codes "main.count") 0 ∷ byte_named (codes "main.count") 2 ∷ []) → ⊥
one_is_not_two (inl e) = false≢true (ap (λ (n : ByteName). n.index == 0) e)
one_is_not_two (inr (inl e)) = false≢true (ap (λ (n : ByteName). n.index == 2) e)
one_is_not_two (inr (inr e)) = e

-- the handles of connection 1: 1 of `Main.count`, 2 of `Main.title`, 3 of `Flags.bits`, which it gives back; connection 2 has one
abbrev handles_log : List Move
handles_log = opened 1 ∷ opened 2
    ∷ piece 1 (named 1 0xF003 4 (codes "Main.count") ++ named 2 0xF003 4 (codes "Main.title") ++ named 3 0xF003 4 (codes "Flags.bits"))
    ∷ piece 2 (named 1 0xF003 4 (codes "Main.axis")) ∷ piece 1 (q 3 4 (codes "06f00000 00000000 04000000 03000000"))
    ∷ reload (codes "no description") ∷ []

abbrev status_in : ℕ → List Move → ℕ → ℕ → HandleStatus Place
status_in c log handle port = status_of (handle_history reading c start log) handle port

abbrev place : List ℕ → ℕ → Place
place symbol len = record { symbol = symbol; first = 0; len = len }

abbrev count_place : Place
count_place = place (codes "main.count") 4

abbrev here : MachineState World Client
here = state_after step start (opened 1 ∷ [])

-- 7 at the first byte of `Main.count`, and 7 with an 8 behind it
abbrev seven : List Block
seven = (state_after step here (piece 1 (q 3 1 (codes "40400000 00000000 01000000 07")) ∷ [])).world.memory

abbrev seven_and_eight : List Block
seven_and_eight = (state_after step here (piece 1 (q 3 1 (codes "40400000 00000000 02000000 0708")) ∷ [])).world.memory

second_is_another : IsAmong (byte_named (codes "main.count") 1) (byte_named (codes "main.count") 0 ∷ []) → ⊥
second_is_another (inl e) = false≢true (ap (λ (n : ByteName). n.index == 0) e)
second_is_another (inr e) = e

pub record LogRows : Type 0 where
  pub among : IsAmong (byte_named (codes "main.count") 2) (byte_named (codes "main.count") 0 ∷ byte_named (codes "main.count") 2 ∷ [])
  pub not_among : IsAmong (byte_named (codes "main.count") 1) (byte_named (codes "main.count") 0 ∷ byte_named (codes "main.count") 2 ∷ []) → ⊥
  -- who is touched, and what he is given then
  pub touched : IsUntouchedIn reading profile plant waves 1 across → ⊥
  pub others_are_not : IsUntouchedIn reading profile plant waves 2 across
  pub alone : output_in beside ≡ output_in (opened 1 ∷ reads_count ∷ [])
  pub not_alone : output_in across ≡ output_in (opened 1 ∷ reads_count ∷ []) → ⊥
  -- what a move may change
  pub by_a_write : writes_of_move reading (state_after step start (opened 2 ∷ [])) writes_count ≡ byte_named (codes "main.count") 3 ∷ []
  pub by_nobody : writes_of_move reading start writes_count ≡ []
  pub by_a_signal : writes_of_move reading start (tick 1000) ≡ symbol_names 851 (codes "main.wave") 0 2
  pub by_a_reload : writes_of_move reading start (reload (codes "plant2")) ≡ []
  pub by_a_loss : writes_of_move reading here (move.Lost 1) ≡ []
  pub accepted : is_accepted_reload reading start (reload (codes "plant2")) ≡ true
  pub refused : is_accepted_reload reading start (reload (codes "no description")) ≡ false
  pub no_reload : is_accepted_reload reading start (tick 1) ≡ false
  -- a write to the first bytes of a place
  pub next_byte_changed : WritesPlace 851 count_place (7 ∷ []) here.world.memory seven_and_eight → ⊥
  pub too_many : WritesPlace 851 count_place (7 ∷ 0 ∷ 0 ∷ 0 ∷ 0 ∷ []) here.world.memory seven → ⊥
  -- what a log says of handles
  pub live : status_in 1 handles_log 1 851 ≡ Live count_place
  pub other_port : status_in 1 handles_log 1 852 ≡ Never
  pub released : status_in 1 handles_log 3 851 ≡ Released
  pub never : status_in 1 handles_log 4 851 ≡ Never
  pub none : status_in 1 handles_log 0 851 ≡ Never
  pub of_another : status_in 2 handles_log 1 851 ≡ Live (place (codes "main.axis") 48)
  pub of_nobody : status_in 3 handles_log 1 851 ≡ Never
  pub kept : status_in 1 (handles_log ++ reload (codes "plant2") ∷ []) 1 851 ≡ Live count_place
  pub outdated : status_in 1 (handles_log ++ reload (codes "plant2") ∷ []) 2 851 ≡ Outdated
  pub not_again : status_in 1 (handles_log ++ reload (codes "plant2") ∷ reload (codes "plant") ∷ []) 2 851 ≡ Outdated
  -- a connection that is gone is not moved by a reload
  pub unheard : status_in 1 (handles_log ++ move.Event (event.Closed 1) ∷ reload (codes "plant2") ∷ []) 2 851 ≡ Live (place (codes "main.title") 8)

pub log_rows : LogRows
unfolding ams_length_of is_header front_of packet_of behind_frame frames_from frames_of left_behind rest_of has_same_parts has_same_members
    part_behind type_align greatest_align type_size members_end type_depth greatest_depth found_of byte_at with_byte trees_behind trees_of type_text
    group_in group_of request_in request_of byte_range bit_range size_range range_in header_of written_bytes reply_in notes_of connection_after_tick
    connection_after_reload state_after_event state_after_move state_after given_in_turn left_in_turn sum_refusal packed handles_after_all
    memory_after_puts world_after_tick client_after_tick read_write_group act_of plain_act produce produce_all connection_of put_back grant_in is_released_in
    place_after handle_in with_released handles_after write_group control_act client_after client_after_reload ended_of watches_after_reload
    ended_watches name_behind comment_behind entry_of_part numbers_from name_at names_at content_of projection_of acts_of_packets acts_of_move
    acts_of_log acts_by_others reply_in_forms outcome_in_all response_packet performed grouped frames_of_samples samples_at watches_after_tick
    reach_of outcomes_of memory_after_acts client_after_acts is_kept memory_after_reload world_after_reload client_reloaded answered_group
    after_packet after_packets after_piece read_group acts_of decide_request decide digits
    handle_history handle_events_of_event
log_rows = record {
  among = inr (inl refl);
  not_among = one_is_not_two;
  touched = λ u. u (byte_named (codes "main.count") 3) (inr (inr (inr (inl refl)))) (inl refl);
  others_are_not = λ n r w. r;
  alone = refl;
  not_alone = λ e. false≢true (ap (λ l. bytes_eq l (output_in (opened 1 ∷ reads_count ∷ []))) e);
  by_a_write = refl;
  by_nobody = refl;
  by_a_signal = refl;
  by_a_reload = refl;
  by_a_loss = refl;
  accepted = refl;
  refused = refl;
  no_reload = refl;
  next_byte_changed = λ h. false≢true (ap (λ o. unwrap_or o 9 == 0) (h.others (byte_named (codes "main.count") 1) second_is_another));
  too_many = λ h. false≢true (le-leb 5 4 h.fits);
  live = refl;
  other_port = refl;
  released = refl;
  never = refl;
  none = refl;
  of_another = refl;
  of_nobody = refl;
  kept = refl;
  outdated = refl;
  not_again = refl;
  unheard = refl;
}
