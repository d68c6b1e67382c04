-- What is read by a handle before and after a reload, by computation.
use Rattle.std.specs.Prelude.{◌≡◌, refl, ℕ, List, [], ◌∷◌, ◌++◌, codes, bytes_eq, Bool, true, false, unwrap_or}
use Rattle.std.proofs.Common.{ap}
use Rattle.std.proofs.lemmas.Bool.{false≢true}
use Rattle.spec_plant.specs.PartTexts.{name_behind, comment_behind}
use Rattle.spec_formats.specs.Groups.{group_in, group_of}
use Rattle.spec_formats.specs.Header.{header_of}
use Rattle.spec_formats.specs.Ranges.{bit_range, byte_range, range_in, size_range}
use Rattle.spec_formats.specs.Reply.{reply_in, written_bytes}
use Rattle.spec_formats.specs.Request.{request_in, request_of}
use Rattle.spec_frames.specs.Division.{ams_length_of, behind_frame, frames_from, frames_of, front_of, is_header, left_behind, packet_of, rest_of}
use Rattle.spec_machine.specs.Access.{memory_after_puts}
use Rattle.spec_machine.specs.Acts.{client_after_acts, memory_after_acts, outcomes_of}
use Rattle.spec_machine.specs.Answers.{answered_group}
use Rattle.spec_machine.specs.ByName.{read_write_group}
use Rattle.spec_machine.specs.Client.{client_after, client_after_reload, ended_of}
use Rattle.spec_machine.specs.Connection.{connection_of, produce, produce_all, put_back}
use Rattle.spec_machine.specs.Entries.{entry_of_part}
use Rattle.spec_machine.specs.HandleLaws.{handles_after_all}
use Rattle.spec_machine.specs.Handles.{grant_in, handle_in, handles_after, is_released_in, place_after, with_released}
use Rattle.spec_machine.specs.Moves.{state_after, state_after_move}
use Rattle.spec_machine.specs.Events.{connection_after_reload, connection_after_tick, state_after_event}
use Rattle.spec_machine.specs.SumPackets.{acts_of, decide_request}
use Rattle.spec_machine.specs.Packets.{decide}
use Rattle.spec_machine.specs.Piece.{after_packet, after_packets, after_piece}
use Rattle.spec_machine.specs.Projection.{acts_by_others, acts_of_log, acts_of_move, acts_of_packets, projection_of}
use Rattle.spec_machine.specs.Reach.{reach_of}
use Rattle.spec_machine.specs.Reads.{read_group}
use Rattle.spec_machine.specs.Reloads.{client_reloaded, is_kept, memory_after_reload, world_after_reload}
use Rattle.spec_machine.specs.Replies.{outcome_in_all, performed, reply_in_forms, response_packet}
use Rattle.spec_machine.specs.Requests.{act_of, plain_act}
use Rattle.spec_machine.specs.RunText.{notes_of}
use Rattle.spec_machine.specs.Stamps.{frames_of_samples, grouped, samples_at, watches_after_tick}
use Rattle.spec_machine.specs.Sums.{given_in_turn, left_in_turn, packed, sum_refusal}
use Rattle.spec_machine.specs.Ticks.{client_after_tick, world_after_tick}
use Rattle.spec_machine.specs.Watches.{ended_watches, watches_after_reload}
use Rattle.spec_machine.specs.World.{content_of, name_at, names_at, numbers_from}
use Rattle.spec_machine.specs.Writes.{control_act, write_group}
use Rattle.spec_plant.specs.Finding.{found_of}
use Rattle.spec_plant.specs.Parts.{part_behind}
use Rattle.spec_plant.specs.SameTypes.{has_same_members, has_same_parts}
use Rattle.spec_plant.specs.Sizes.{greatest_align, greatest_depth, members_end, type_align, type_depth, type_size}
use Rattle.spec_plant.specs.Spelling.{type_text}
use Rattle.spec_plant.specs.Trees.{trees_behind, trees_of}
use Rattle.spec_plant.specs.World.{byte_at, with_byte}
use Rattle.std.specs.Fmt.{digits}
use Rattle.spec_plant.specs.Description.{Rights, Read, Control}
use Rattle.spec_plant.specs.World.{PlantPort, plant_port}
use Rattle.spec_plant.proofs.Plant.{ENGINEER, VIEWER, axis_type, count_symbol, title_symbol, symbols_with, port_with}
use Rattle.spec_machine.specs.Acts.{Outcome}
use Rattle.spec_machine.specs.Connection.{Connection, fresh_connection}
use Rattle.spec_machine.specs.Handles.{is_live, kept_status}
use Rattle.spec_machine.specs.World.{World}
use Rattle.spec_machine.specs.Client.{Client, new_client}
use Rattle.spec_machine.specs.MachineState.{MachineState}
use Rattle.spec_machine.specs.Writes.{Asker}
use Rattle.spec_promises.specs.KeptHandles.{read_by_handle, IsHeardAgain, ReadsAsBefore}
use Rattle.spec_machine.proofs.Plant.{q, named, piece, opened, reload, start, step}
use Rattle.std.specs.Prelude.{replicate}

-- connection 1 has the handle 1 of `Main.count`, 2 of `Main.title` and 3 of `Flags.bits`, which it gave back
abbrev before : MachineState World Client
before = state_after step start (opened 1
    ∷ piece 1 (named 1 0xF003 4 (codes "Main.count") ++ named 2 0xF003 4 (codes "Main.title") ++ named 3 0xF003 4 (codes "Flags.bits"))
    ∷ piece 1 (q 3 4 (codes "06f00000 00000000 04000000 03000000")) ∷ [])

-- a reload moves `Main.count` and changes the type of `Main.title`
abbrev after : MachineState World Client
after = state_after step before (reload (codes "plant2") ∷ [])

-- the same, with another value of `Main.count`
abbrev changed : MachineState World Client
changed = state_after step after (piece 1 (q 3 5 (codes "05f00000 01000000 01000000 07")) ∷ [])

abbrev connection_in : MachineState World Client → Connection Client
connection_in s = unwrap_or (connection_of 1 s.connections) (fresh_connection new_client 1)

abbrev port_before : PlantPort
port_before = plant_port (axis_type ∷ []) (port_with (symbols_with (count_symbol 0) (title_symbol 7 (codes "Mix" ++ replicate 5 0))))

abbrev port_after : PlantPort
port_after = plant_port (axis_type ∷ []) (port_with (symbols_with (count_symbol 100) (title_symbol 8 (replicate 9 0))))

abbrev asker_at : PlantPort → List ℕ → Rights → Asker
asker_at port net rights = record { port = port; address = record { net = net; port = 32905 }; rights = rights }

abbrev reads_before : ℕ → ℕ → Outcome
reads_before handle len = read_by_handle before (connection_in before) (asker_at port_before ENGINEER Control) handle len

abbrev reads_after : ℕ → ℕ → Outcome
reads_after handle len = read_by_handle after (connection_in after) (asker_at port_after VIEWER Read) handle len

abbrev is_live_in : MachineState World Client → ℕ → Bool
is_live_in s handle = is_live (kept_status (connection_in s).client.handles handle 851)

abbrev outcome : ℕ → List ℕ → Outcome
outcome code bytes = record { code = code; bytes = bytes }

abbrev Again : MachineState World Client → Type 0
Again t = IsHeardAgain before t 1 (connection_in before) (connection_in t) (asker_at port_before ENGINEER Control) (asker_at port_after VIEWER Read)

pub record KeptRows : Type 0 where
  -- which are live
  pub live_before : is_live_in before 1 ≡ true
  pub live_after : is_live_in after 1 ≡ true
  pub outdated : is_live_in after 2 ≡ false
  pub released : is_live_in before 3 ≡ false
  pub never : is_live_in before 4 ≡ false
  -- what is read by them
  pub count_before : reads_before 1 4 ≡ outcome 0 (42 ∷ 0 ∷ 0 ∷ 0 ∷ [])
  pub count_after : reads_after 1 4 ≡ outcome 0 (42 ∷ 0 ∷ 0 ∷ 0 ∷ [])
  pub first_byte : reads_after 1 1 ≡ outcome 0 (42 ∷ [])
  pub too_long : reads_after 1 5 ≡ outcome 0x705 []
  pub title_before : reads_before 2 3 ≡ outcome 0 (codes "Mix")
  pub title_after : reads_after 2 3 ≡ outcome 0x711 []
  pub bits_before : reads_before 3 1 ≡ outcome 0x710 []
  -- the connection is the same, and who asks may be another
  pub heard : Again after
  -- the promise, at this handle
  pub promised : ReadsAsBefore before after → reads_after 1 4 ≡ reads_before 1 4
  -- and it is refuted where another value stands
  pub refuted : ReadsAsBefore before changed → ⊥

pub kept_rows : KeptRows
unfolding ams_length_of is_header front_of packet_of behind_frame frames_from frames_of left_behind rest_of has_same_parts has_same_members
    part_behind type_align greatest_align type_size members_end type_depth greatest_depth found_of byte_at with_byte trees_behind trees_of type_text
    group_in group_of request_in request_of byte_range bit_range size_range range_in header_of written_bytes reply_in notes_of connection_after_tick
    connection_after_reload state_after_event state_after_move state_after given_in_turn left_in_turn sum_refusal packed handles_after_all
    memory_after_puts world_after_tick client_after_tick read_write_group act_of plain_act produce produce_all connection_of put_back grant_in is_released_in
    place_after handle_in with_released handles_after write_group control_act client_after client_after_reload ended_of watches_after_reload
    ended_watches name_behind comment_behind entry_of_part numbers_from name_at names_at content_of projection_of acts_of_packets acts_of_move
    acts_of_log acts_by_others reply_in_forms outcome_in_all response_packet performed grouped frames_of_samples samples_at watches_after_tick
    reach_of outcomes_of memory_after_acts client_after_acts is_kept memory_after_reload world_after_reload client_reloaded answered_group
    after_packet after_packets after_piece read_group acts_of decide_request decide digits
kept_rows = record {
  live_before = refl;
  live_after = refl;
  outdated = refl;
  released = refl;
  never = refl;
  count_before = refl;
  count_after = refl;
  first_byte = refl;
  too_long = refl;
  title_before = refl;
  title_after = refl;
  bits_before = refl;
  heard = record { before = refl; heard = refl; after = refl; same_port = refl };
  promised = λ p. p 1 (connection_in before) (connection_in after) (asker_at port_before ENGINEER Control) (asker_at port_after VIEWER Read)
      (record { before = refl; heard = refl; after = refl; same_port = refl }) 1 refl refl 4;
  refuted = λ p. let e = p 1 (connection_in before) (connection_in changed) (asker_at port_before ENGINEER Control) (asker_at port_after VIEWER Read)
      (record { before = refl; heard = refl; after = refl; same_port = refl }) 1 refl refl 1
      in false≢true (ap (λ o. bytes_eq o.bytes (42 ∷ [])) e);
}
