-- What an accepted write and an accepted control leave, and what they may not leave, by computation.
use Rattle.std.specs.Prelude.{◌≡◌, refl, ℕ, List, [], ◌∷◌, ◌++◌, codes, take, replicate, bytes_eq, ◌==◌, Some, None, unwrap_or}
use Rattle.std.proofs.Common.{ap, lit≤, subst, sym}
use Rattle.std.proofs.lemmas.Bool.{false≢true}
use Rattle.spec_plant.specs.PartTexts.{name_behind, comment_behind}
use Rattle.spec_formats.specs.Groups.{group_in, group_of}
use Rattle.spec_formats.specs.Header.{header_of}
use Rattle.spec_formats.specs.Ranges.{bit_range, byte_range, range_in, size_range}
use Rattle.spec_formats.specs.Reply.{reply_in, written_bytes}
use Rattle.spec_formats.specs.Request.{request_in, request_of}
use Rattle.spec_frames.specs.Division.{ams_length_of, behind_frame, frames_from, frames_of, front_of, is_header, left_behind, packet_of, rest_of}
use Rattle.spec_machine.specs.Access.{memory_after_puts}
use Rattle.spec_machine.specs.Acts.{client_after_acts, memory_after_acts, outcomes_of}
use Rattle.spec_machine.specs.Answers.{answered_group}
use Rattle.spec_machine.specs.ByName.{read_write_group}
use Rattle.spec_machine.specs.Client.{client_after, client_after_reload, ended_of}
use Rattle.spec_machine.specs.Connection.{connection_of, produce, produce_all, put_back}
use Rattle.spec_machine.specs.Entries.{entry_of_part}
use Rattle.spec_machine.specs.HandleLaws.{handles_after_all}
use Rattle.spec_machine.specs.Handles.{grant_in, handle_in, handles_after, is_released_in, place_after, with_released}
use Rattle.spec_machine.specs.Moves.{state_after, state_after_move}
use Rattle.spec_machine.specs.Events.{connection_after_reload, connection_after_tick, state_after_event}
use Rattle.spec_machine.specs.SumPackets.{acts_of, decide_request}
use Rattle.spec_machine.specs.Packets.{decide}
use Rattle.spec_machine.specs.Piece.{after_packet, after_packets, after_piece}
use Rattle.spec_machine.specs.Projection.{acts_by_others, acts_of_log, acts_of_move, acts_of_packets, projection_of}
use Rattle.spec_machine.specs.Reach.{reach_of}
use Rattle.spec_machine.specs.Reads.{read_group}
use Rattle.spec_machine.specs.Reloads.{client_reloaded, is_kept, memory_after_reload, world_after_reload}
use Rattle.spec_machine.specs.Replies.{outcome_in_all, performed, reply_in_forms, response_packet}
use Rattle.spec_machine.specs.Requests.{act_of, plain_act}
use Rattle.spec_machine.specs.RunText.{notes_of}
use Rattle.spec_machine.specs.Stamps.{frames_of_samples, grouped, samples_at, watches_after_tick}
use Rattle.spec_machine.specs.Sums.{given_in_turn, left_in_turn, packed, sum_refusal}
use Rattle.spec_machine.specs.Ticks.{client_after_tick, world_after_tick}
use Rattle.spec_machine.specs.Watches.{ended_watches, watches_after_reload}
use Rattle.spec_machine.specs.World.{content_of, name_at, names_at, numbers_from}
use Rattle.spec_machine.specs.Writes.{control_act, write_group}
use Rattle.spec_plant.specs.Finding.{found_of}
use Rattle.spec_plant.specs.Parts.{part_behind}
use Rattle.spec_plant.specs.SameTypes.{has_same_members, has_same_parts}
use Rattle.spec_plant.specs.Sizes.{greatest_align, greatest_depth, members_end, type_align, type_depth, type_size}
use Rattle.spec_plant.specs.Spelling.{type_text}
use Rattle.spec_plant.specs.Trees.{trees_behind, trees_of}
use Rattle.spec_plant.specs.World.{byte_at, with_byte}
use Rattle.std.specs.Fmt.{digits}
use Rattle.spec_plant.specs.Description.{Memory, Process, Control}
use Rattle.spec_plant.specs.World.{PlantPort, Block, ByteName, SymbolPart, plant_port}
use Rattle.spec_plant.proofs.Plant.{ENGINEER, axis_type, count_symbol, title_symbol, symbols_with, port_with}
use Rattle.spec_formats.specs.Groups.{AreaBytes, AreaBit, ValueByHandle, ReleaseHandle, SumRead}
use Rattle.spec_formats.specs.Request.{Request, Write, WriteControl}
use Rattle.spec_machine.specs.Connection.{fresh_connection}
use Rattle.spec_machine.specs.Handles.{is_live}
use Rattle.spec_machine.specs.World.{World, setup_of}
use Rattle.spec_machine.specs.Client.{Client, new_client}
use Rattle.spec_machine.specs.MachineState.{MachineState}
use Rattle.spec_machine.specs.Writes.{Asker}
use Rattle.spec_laws.specs.ExactWrites.{IsBitPut}
use Rattle.spec_laws.proofs.BitWrites.{puts_bits}
use Rattle.spec_promises.specs.Asked.{Asked}
use Rattle.spec_promises.specs.Written.{HoldsBytes, HoldsBit, HoldsByHandle, HoldsAt, read_back, IsReadBack, StatesAreSet}
use Rattle.spec_machine.proofs.Plant.{q, named, piece, opened, start, step}

-- connection 1 has the handle 1 of `Main.count` and the handle 2 of `Flags.bits`, which it gave back
abbrev here : MachineState World Client
here = state_after step start (opened 1 ∷ piece 1 (named 1 0xF003 4 (codes "Main.count") ++ named 2 0xF003 4 (codes "Flags.bits"))
    ∷ piece 1 (q 3 3 (codes "06f00000 00000000 04000000 02000000")) ∷ [])

abbrev client : Client
client = (unwrap_or (connection_of 1 here.connections) (fresh_connection new_client 1)).client

abbrev port : PlantPort
port = plant_port (axis_type ∷ []) (port_with (symbols_with (count_symbol 0) (title_symbol 7 (codes "Mix" ++ replicate 5 0))))

abbrev before : List Block
before = here.world.memory

-- the bytes behind a request
abbrev behind : List ℕ → List Block
behind bytes = (state_after step here (piece 1 bytes ∷ [])).world.memory

-- 7 and 8 at byte 2 of `Main.count`; and a 9 behind them, in its neighbour
abbrev two_bytes : List Block
two_bytes = behind (q 3 4 (codes "40400000 02000000 02000000 0708"))

abbrev and_a_neighbour : List Block
and_a_neighbour = behind (q 3 4 (codes "40400000 02000000 03000000 070809"))

-- bit 3 of `Flags.bits`; bits 2 and 3
abbrev one_bit : List Block
one_bit = behind (q 3 4 (codes "21400000 03000000 01000000 01"))

abbrev two_bits : List Block
two_bits = behind (q 3 4 (codes "20400000 00000000 01000000 0c"))

-- 9 by handle
abbrev by_handle : List Block
by_handle = behind (q 3 4 (codes "05f00000 01000000 01000000 09"))

abbrev first_six : List Block → List ℕ
first_six memory = take 6 (content_of memory port Process)

abbrev engineer : Asker
engineer = record { port = port; address = record { net = ENGINEER; port = 32905 }; rights = Control }

-- a request that finds this
abbrev asks : Request → Asked
asks r = record { setup = setup_of start.world; asker = engineer; before = record { client = client; memory = before }; request = r }

abbrev writes : Asked
writes = asks (Write 0x4040 2 (7 ∷ 8 ∷ []))

abbrev writes_a_bit : Asked
writes_a_bit = asks (Write 0x4021 3 (5 ∷ []))

abbrev stops : Asked
stops = asks (WriteControl 6 3 [])

-- the byte of `Flags.bits`
abbrev flags : ByteName
flags = record { port = 851; part = SymbolPart (codes "flags.bits"); index = 0 }

three_is_not_two : ◌≡◌ {A = ℕ} 2 3 → ⊥
three_is_not_two e = false≢true (ap (λ n. n == 3) e)

pub record WrittenRows : Type 0 where
  -- what each leaves, as it stands
  pub content : first_six two_bytes ≡ 42 ∷ 0 ∷ 7 ∷ 8 ∷ 0 ∷ 0 ∷ []
  pub in_the_neighbour : first_six and_a_neighbour ≡ 42 ∷ 0 ∷ 7 ∷ 8 ∷ 9 ∷ 0 ∷ []
  -- by group and offset: the bytes, in their order, and no others
  pub bytes : HoldsBytes before two_bytes port Process 2 (7 ∷ 8 ∷ [])
  pub another_order : HoldsBytes before two_bytes port Process 2 (8 ∷ 7 ∷ []) → ⊥
  pub another_place : HoldsBytes before two_bytes port Process 3 (7 ∷ 8 ∷ []) → ⊥
  pub neighbour_changed : HoldsBytes before and_a_neighbour port Process 2 (7 ∷ 8 ∷ []) → ⊥
  pub nothing_done : HoldsBytes before before port Process 2 (7 ∷ 8 ∷ []) → ⊥
  -- by bit
  pub bit : HoldsBit before one_bit port Memory 3 (1 ∷ [])
  pub neighbour_bit_changed : HoldsBit before two_bits port Memory 3 (1 ∷ []) → ⊥
  pub bit_not_set : HoldsBit before before port Memory 3 (1 ∷ []) → ⊥
  pub two_values : HoldsBit before one_bit port Memory 3 (1 ∷ 1 ∷ []) → ⊥
  -- by a handle, and by one that was given back
  pub handle : HoldsByHandle by_handle client port 1 (9 ∷ [])
  pub released : HoldsByHandle by_handle client port 2 (0 ∷ []) → ⊥
  -- by its group
  pub at_bytes : HoldsAt (Some (AreaBytes Process)) before two_bytes client port 2 (7 ∷ 8 ∷ [])
  pub at_handle : HoldsAt (Some ValueByHandle) before by_handle client port 1 (9 ∷ [])
  pub release : HoldsAt (Some ReleaseHandle) before before client port 0 (1 ∷ 0 ∷ 0 ∷ 0 ∷ [])
  pub release_writes : HoldsAt (Some ReleaseHandle) before by_handle client port 0 (1 ∷ 0 ∷ 0 ∷ 0 ∷ []) → ⊥
  pub no_such_write : HoldsAt (Some SumRead) before before client port 0 [] → ⊥
  pub no_group : HoldsAt None before before client port 0 [] → ⊥
  -- what is read back
  pub back : read_back (Some (AreaBytes Memory)) (5 ∷ 0 ∷ []) ≡ 5 ∷ 0 ∷ []
  pub bit_back : read_back (Some (AreaBit Memory)) (5 ∷ []) ≡ 1 ∷ []
  pub is_read : IsReadBack writes 0x4040 2 (7 ∷ 8 ∷ [])
  pub bit_is_read : IsReadBack writes_a_bit 0x4021 3 (5 ∷ [])
  pub old_is_read : IsReadBack writes 0x4040 2 (0 ∷ 0 ∷ []) → ⊥
  -- the state words
  pub stopped : StatesAreSet stops 6 3
  pub another_state : StatesAreSet stops 5 3 → ⊥
  pub another_device_state : StatesAreSet stops 6 4 → ⊥
  pub state_by_a_write : StatesAreSet writes 6 3 → ⊥

pub written_rows : WrittenRows
unfolding ams_length_of is_header front_of packet_of behind_frame frames_from frames_of left_behind rest_of has_same_parts has_same_members
    part_behind type_align greatest_align type_size members_end type_depth greatest_depth found_of byte_at with_byte trees_behind trees_of type_text
    group_in group_of request_in request_of byte_range bit_range size_range range_in header_of written_bytes reply_in notes_of connection_after_tick
    connection_after_reload state_after_event state_after_move state_after given_in_turn left_in_turn sum_refusal packed handles_after_all
    memory_after_puts world_after_tick client_after_tick read_write_group act_of plain_act produce produce_all connection_of put_back grant_in is_released_in
    place_after handle_in with_released handles_after write_group control_act client_after client_after_reload ended_of watches_after_reload
    ended_watches name_behind comment_behind entry_of_part numbers_from name_at names_at content_of projection_of acts_of_packets acts_of_move
    acts_of_log acts_by_others reply_in_forms outcome_in_all response_packet performed grouped frames_of_samples samples_at watches_after_tick
    reach_of outcomes_of memory_after_acts client_after_acts is_kept memory_after_reload world_after_reload client_reloaded answered_group
    after_packet after_packets after_piece read_group acts_of decide_request decide digits
written_rows = record {
  content = refl;
  in_the_neighbour = refl;
  bytes = refl;
  another_order = λ e. false≢true (ap (λ l. bytes_eq (take 4 l) (42 ∷ 0 ∷ 8 ∷ 7 ∷ [])) e);
  another_place = λ e. false≢true (ap (λ l. bytes_eq (take 4 l) (42 ∷ 0 ∷ 0 ∷ 7 ∷ [])) e);
  neighbour_changed = λ e. false≢true (ap (λ l. bytes_eq (take 6 l) (42 ∷ 0 ∷ 7 ∷ 8 ∷ 0 ∷ 0 ∷ [])) e);
  nothing_done = λ e. false≢true (ap (λ l. bytes_eq (take 4 l) (42 ∷ 0 ∷ 7 ∷ 8 ∷ [])) e);
  bit = let p = puts_bits before flags 3 1 0 refl in subst (IsBitPut 3 1 0) (sym (ap (λ o. unwrap_or o 0) (p.1))) (p.2);
  neighbour_bit_changed = λ h. false≢true (ap (λ n. n == 0) (h.others 2 three_is_not_two));
  bit_not_set = λ h. false≢true (ap (λ n. n == 1) (h.here));
  two_values = λ h. h;
  handle = record { place = record { symbol = codes "main.count"; first = 0; len = 4 }; live = refl; fits = lit≤ tt; holds = refl };
  released = λ h. false≢true (ap is_live (h.live));
  at_bytes = refl;
  at_handle = record { place = record { symbol = codes "main.count"; first = 0; len = 4 }; live = refl; fits = lit≤ tt; holds = refl };
  release = refl;
  release_writes = λ e. false≢true (ap (λ m. bytes_eq (take 1 (content_of m port Process)) (42 ∷ [])) e);
  no_such_write = λ h. h;
  no_group = λ h. h;
  back = refl;
  bit_back = refl;
  is_read = refl;
  bit_is_read = refl;
  old_is_read = λ e. false≢true (ap (λ o. bytes_eq o.bytes (0 ∷ 0 ∷ [])) e);
  stopped = record { holds = refl; read = refl };
  another_state = λ h. false≢true (ap (λ l. bytes_eq l (5 ∷ 0 ∷ 3 ∷ 0 ∷ [])) (h.holds));
  another_device_state = λ h. false≢true (ap (λ l. bytes_eq l (6 ∷ 0 ∷ 4 ∷ 0 ∷ [])) (h.holds));
  state_by_a_write = λ h. false≢true (ap (λ l. bytes_eq l (6 ∷ 0 ∷ 3 ∷ 0 ∷ [])) (h.holds));
}
