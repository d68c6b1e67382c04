-- The ticks of a notification, from a state of the machine on, by computation.
use Rattle.std.specs.Prelude.{◌≡◌, refl, ℕ, List, [], ◌∷◌, codes}
use Rattle.std.proofs.Common.{lit<, lit≤, inl, inr}
use Rattle.spec_plant.specs.PartTexts.{name_behind, comment_behind}
use Rattle.spec_formats.specs.Groups.{group_in, group_of}
use Rattle.spec_formats.specs.Header.{header_of}
use Rattle.spec_formats.specs.Ranges.{bit_range, byte_range, range_in, size_range}
use Rattle.spec_formats.specs.Reply.{reply_in, written_bytes}
use Rattle.spec_formats.specs.Request.{request_in, request_of}
use Rattle.spec_frames.specs.Division.{ams_length_of, behind_frame, frames_from, frames_of, front_of, is_header, left_behind, packet_of, rest_of}
use Rattle.spec_machine.specs.Access.{memory_after_puts}
use Rattle.spec_machine.specs.Acts.{client_after_acts, memory_after_acts, outcomes_of}
use Rattle.spec_machine.specs.Answers.{answered_group}
use Rattle.spec_machine.specs.ByName.{read_write_group}
use Rattle.spec_machine.specs.Client.{client_after, client_after_reload, ended_of}
use Rattle.spec_machine.specs.Connection.{connection_of, produce, produce_all, put_back}
use Rattle.spec_machine.specs.Entries.{entry_of_part}
use Rattle.spec_machine.specs.HandleLaws.{handles_after_all}
use Rattle.spec_machine.specs.Handles.{grant_in, handle_in, handles_after, is_released_in, place_after, with_released}
use Rattle.spec_machine.specs.Moves.{state_after, state_after_move}
use Rattle.spec_machine.specs.Events.{connection_after_reload, connection_after_tick, state_after_event}
use Rattle.spec_machine.specs.SumPackets.{acts_of, decide_request}
use Rattle.spec_machine.specs.Packets.{decide}
use Rattle.spec_machine.specs.Piece.{after_packet, after_packets, after_piece}
use Rattle.spec_machine.specs.Projection.{acts_by_others, acts_of_log, acts_of_move, acts_of_packets, projection_of}
use Rattle.spec_machine.specs.Reach.{reach_of}
use Rattle.spec_machine.specs.Reads.{read_group}
use Rattle.spec_machine.specs.Reloads.{client_reloaded, is_kept, memory_after_reload, world_after_reload}
use Rattle.spec_machine.specs.Replies.{outcome_in_all, performed, reply_in_forms, response_packet}
use Rattle.spec_machine.specs.Requests.{act_of, plain_act}
use Rattle.spec_machine.specs.RunText.{notes_of}
use Rattle.spec_machine.specs.Stamps.{frames_of_samples, grouped, samples_at, watches_after_tick}
use Rattle.spec_machine.specs.Sums.{given_in_turn, left_in_turn, packed, sum_refusal}
use Rattle.spec_machine.specs.Ticks.{client_after_tick, world_after_tick}
use Rattle.spec_machine.specs.Watches.{ended_watches, watches_after_reload}
use Rattle.spec_machine.specs.World.{content_of, name_at, names_at, numbers_from}
use Rattle.spec_machine.specs.Writes.{control_act, write_group}
use Rattle.spec_plant.specs.Finding.{found_of}
use Rattle.spec_plant.specs.Parts.{part_behind}
use Rattle.spec_plant.specs.SameTypes.{has_same_members, has_same_parts}
use Rattle.spec_plant.specs.Sizes.{greatest_align, greatest_depth, members_end, type_align, type_depth, type_size}
use Rattle.spec_plant.specs.Spelling.{type_text}
use Rattle.spec_plant.specs.Trees.{trees_behind, trees_of}
use Rattle.spec_plant.specs.World.{byte_at, with_byte}
use Rattle.std.specs.Fmt.{digits}
use Rattle.ads_outside.specs.declared.moves.Move.{Move}
use Rattle.ads_outside.specs.declared.event.Event.TheVariants as event
use Rattle.ads_outside.specs.declared.moves.Move.{Move}
use Rattle.ads_outside.specs.declared.moves.Move.TheVariants as move
use Rattle.spec_machine.specs.World.{World}
use Rattle.spec_machine.specs.Client.{Client}
use Rattle.spec_machine.specs.MachineState.{MachineState}
use Rattle.spec_promises.specs.Notified.{TickSeen, IsByCycle, life_of}
use Rattle.spec_machine.proofs.Plant.{q, added, piece, opened, tick, start, step}

-- connection 1 watches `Main.count` in cycle mode, every 1,000, by handle 1, and on change, at each tick, by handle 2
abbrev here : MachineState World Client
here = state_after step start (opened 1 ∷ opened 2
    ∷ piece 1 (added 1 (codes "40400000 00000000 04000000 03000000 00000000 e8030000"))
    ∷ piece 1 (added 2 (codes "40400000 00000000 04000000 04000000 00000000 00000000")) ∷ [])

abbrev write_five : Move
write_five = piece 2 (q 3 1 (codes "40400000 00000000 04000000 05000000"))

-- the notification 1 is deleted before the last tick
abbrev some_ticks : List Move
some_ticks = tick 500 ∷ write_five ∷ tick 1499 ∷ tick 1500 ∷ tick 10 ∷ piece 1 (q 7 3 (codes "01000000")) ∷ tick 9000 ∷ []

abbrev full : ℕ → List ℕ
full n = n ∷ 0 ∷ 0 ∷ 0 ∷ []

abbrev seen : ℕ → ℕ → List (List ℕ) → TickSeen
seen moment value given = record { moment = moment; found = full value; given = given }

pub record LifeRows : Type 0 where
  -- until it is deleted; a tick that goes back counts as the last moment
  pub cyclic : life_of 1 1 here some_ticks
      ≡ seen 500 42 (full 42 ∷ []) ∷ seen 1499 5 [] ∷ seen 1500 5 (full 5 ∷ []) ∷ seen 1500 5 [] ∷ []
  pub on_change : life_of 1 2 here some_ticks
      ≡ seen 500 42 (full 42 ∷ []) ∷ seen 1499 5 (full 5 ∷ []) ∷ seen 1500 5 [] ∷ seen 1500 5 [] ∷ seen 9000 5 [] ∷ []
  pub by_cycle : IsByCycle 1000 (life_of 1 1 here some_ticks)
  -- another handle, another connection, one that is closed
  pub no_such_handle : life_of 1 3 here some_ticks ≡ []
  pub other_connection : life_of 2 1 here some_ticks ≡ []
  pub closed : life_of 1 1 here (tick 500 ∷ move.Event (event.Closed 1) ∷ tick 1500 ∷ []) ≡ seen 500 42 (full 42 ∷ []) ∷ []
  pub lost : life_of 1 1 here (tick 500 ∷ move.Lost 1 ∷ tick 1500 ∷ []) ≡ seen 500 42 (full 42 ∷ []) ∷ []
  pub other_closed : life_of 1 1 here (move.Event (event.Closed 2) ∷ tick 500 ∷ []) ≡ seen 500 42 (full 42 ∷ []) ∷ []

pub life_rows : LifeRows
unfolding ams_length_of is_header front_of packet_of behind_frame frames_from frames_of left_behind rest_of has_same_parts has_same_members
    part_behind type_align greatest_align type_size members_end type_depth greatest_depth found_of byte_at with_byte trees_behind trees_of type_text
    group_in group_of request_in request_of byte_range bit_range size_range range_in header_of written_bytes reply_in notes_of connection_after_tick
    connection_after_reload state_after_event state_after_move state_after given_in_turn left_in_turn sum_refusal packed handles_after_all
    memory_after_puts world_after_tick client_after_tick read_write_group act_of plain_act produce produce_all connection_of put_back grant_in is_released_in
    place_after handle_in with_released handles_after write_group control_act client_after client_after_reload ended_of watches_after_reload
    ended_watches name_behind comment_behind entry_of_part numbers_from name_at names_at content_of projection_of acts_of_packets acts_of_move
    acts_of_log acts_by_others reply_in_forms outcome_in_all response_packet performed grouped frames_of_samples samples_at watches_after_tick
    reach_of outcomes_of memory_after_acts client_after_acts is_kept memory_after_reload world_after_reload client_reloaded answered_group
    after_packet after_packets after_piece read_group acts_of decide_request decide digits life_of
life_rows = record {
  cyclic = refl;
  on_change = refl;
  by_cycle = (refl, inr (refl, lit< tt, inl (refl, lit≤ tt, inr (refl, lit< tt, tt))));
  no_such_handle = refl;
  other_connection = refl;
  closed = refl;
  lost = refl;
  other_closed = refl;
}
