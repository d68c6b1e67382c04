-- The requests of a piece one by one: which they are, what each finds, and what they write, by computation.
use Rattle.std.specs.Prelude.{◌≡◌, refl, ℕ, List, [], ◌∷◌, ◌++◌, codes, map, take, drop, ◌==◌}
use Rattle.std.proofs.Common.{ap}
use Rattle.std.proofs.lemmas.Bool.{false≢true}
use Rattle.spec_plant.specs.PartTexts.{name_behind, comment_behind}
use Rattle.spec_formats.specs.Groups.{group_in, group_of}
use Rattle.spec_formats.specs.Header.{header_of}
use Rattle.spec_formats.specs.Ranges.{bit_range, byte_range, range_in, size_range}
use Rattle.spec_formats.specs.Reply.{reply_in, written_bytes}
use Rattle.spec_formats.specs.Request.{request_in, request_of}
use Rattle.spec_frames.specs.Division.{ams_length_of, behind_frame, frames_from, frames_of, front_of, is_header, left_behind, packet_of, rest_of}
use Rattle.spec_machine.specs.Access.{memory_after_puts}
use Rattle.spec_machine.specs.Acts.{client_after_acts, memory_after_acts, outcomes_of}
use Rattle.spec_machine.specs.Answers.{answered_group}
use Rattle.spec_machine.specs.ByName.{read_write_group}
use Rattle.spec_machine.specs.Client.{client_after, client_after_reload, ended_of}
use Rattle.spec_machine.specs.Connection.{connection_of, produce, produce_all, put_back}
use Rattle.spec_machine.specs.Entries.{entry_of_part}
use Rattle.spec_machine.specs.HandleLaws.{handles_after_all}
use Rattle.spec_machine.specs.Handles.{grant_in, handle_in, handles_after, is_released_in, place_after, with_released}
use Rattle.spec_machine.specs.Moves.{state_after, state_after_move}
use Rattle.spec_machine.specs.Events.{connection_after_reload, connection_after_tick, state_after_event}
use Rattle.spec_machine.specs.SumPackets.{acts_of, decide_request}
use Rattle.spec_machine.specs.Packets.{decide}
use Rattle.spec_machine.specs.Piece.{after_packet, after_packets, after_piece}
use Rattle.spec_machine.specs.Projection.{acts_by_others, acts_of_log, acts_of_move, acts_of_packets, projection_of}
use Rattle.spec_machine.specs.Reach.{reach_of}
use Rattle.spec_machine.specs.Reads.{read_group}
use Rattle.spec_machine.specs.Reloads.{client_reloaded, is_kept, memory_after_reload, world_after_reload}
use Rattle.spec_machine.specs.Replies.{outcome_in_all, performed, reply_in_forms, response_packet}
use Rattle.spec_machine.specs.Requests.{act_of, plain_act}
use Rattle.spec_machine.specs.RunText.{notes_of}
use Rattle.spec_machine.specs.Stamps.{frames_of_samples, grouped, samples_at, watches_after_tick}
use Rattle.spec_machine.specs.Sums.{given_in_turn, left_in_turn, packed, sum_refusal}
use Rattle.spec_machine.specs.Ticks.{client_after_tick, world_after_tick}
use Rattle.spec_machine.specs.Watches.{ended_watches, watches_after_reload}
use Rattle.spec_machine.specs.World.{content_of, name_at, names_at, numbers_from}
use Rattle.spec_machine.specs.Writes.{control_act, write_group}
use Rattle.spec_plant.specs.Finding.{found_of}
use Rattle.spec_plant.specs.Parts.{part_behind}
use Rattle.spec_plant.specs.SameTypes.{has_same_members, has_same_parts}
use Rattle.spec_plant.specs.Sizes.{greatest_align, greatest_depth, members_end, type_align, type_depth, type_size}
use Rattle.spec_plant.specs.Spelling.{type_text}
use Rattle.spec_plant.specs.Trees.{trees_behind, trees_of}
use Rattle.spec_plant.specs.World.{byte_at, with_byte}
use Rattle.std.specs.Fmt.{digits}
use Rattle.spec_plant.specs.World.{ByteName, SymbolPart, Block, byte_or_zero}
use Rattle.spec_formats.specs.Request.{Request, Read, Write}
use Rattle.spec_machine.specs.World.{World}
use Rattle.spec_machine.specs.Client.{Client}
use Rattle.spec_machine.specs.MachineState.{MachineState}
use Rattle.spec_promises.specs.Asked.{Asked, asked_of_move, asked_of_packets, asked_in_turn, requests_of, names_written, Leads}
use Rattle.spec_frames.proofs.Hex.{hex}
use Rattle.spec_frames.specs.Frame.{frame_bytes}
use Rattle.spec_machine.proofs.Plant.{q, packet_from, piece, opened, tick, start, step}

abbrev here : MachineState World Client
here = state_after step start (opened 1 ∷ [])

-- a read of `Main.count`; a write of its bytes 2 and 3; one of `Main.limit`, which is read-only
abbrev read_count : List ℕ
read_count = q 2 1 (codes "40400000 00000000 04000000")

abbrev write_count : List ℕ
write_count = q 3 2 (codes "40400000 02000000 02000000 0708")

abbrev write_limit : List ℕ
write_limit = q 3 3 (codes "40400000 3c000000 02000000 0102")

-- two writes in a sum: 1 and 2 to bytes 0 and 1, 3 to byte 1
abbrev two_writes : List ℕ
two_writes = q 9 4 (codes "81f00000 02000000 08000000 1b000000  40400000 00000000 02000000  40400000 01000000 01000000  0102 03")

-- the same, of which a byte is missing
abbrev short_sum : List ℕ
short_sum = q 9 5 (codes "81f00000 02000000 08000000 1a000000  40400000 00000000 02000000  40400000 01000000 01000000  0102")

-- a header that no frame has, which closes its connection
abbrev broken : List ℕ
broken = hex (codes "0100200000ff")

-- a read of a machine that has no route, which closes its connection too
abbrev unrouted : List ℕ
unrouted = frame_bytes (packet_from (9 ∷ 9 ∷ 9 ∷ 9 ∷ 1 ∷ 1 ∷ []) 2 6 (hex (codes "40400000 00000000 04000000")))

abbrev requests_in : MachineState World Client → List ℕ → List Request
requests_in s bytes = map (λ (a : Asked). a.request) (asked_of_move s (piece 1 bytes))

abbrev count_byte : ℕ → ByteName
count_byte k = record { port = 851; part = SymbolPart (codes "main.count"); index = k }

-- byte 1 of `Main.count`, as each request finds it
abbrev byte_found : List ℕ → List ℕ
byte_found bytes = map (λ (a : Asked). byte_or_zero a.before.memory (count_byte 1)) (asked_of_move here (piece 1 bytes))

abbrev names_in : List ℕ → List ByteName
names_in bytes = names_written (asked_of_move here (piece 1 bytes))

abbrev memory_before : List Block
memory_before = here.world.memory

abbrev memory_behind : List ℕ → List Block
memory_behind bytes = (state_after step here (piece 1 bytes ∷ [])).world.memory

pub record AskedRows : Type 0 where
  pub one : requests_in here read_count ≡ Read 0x4040 0 4 ∷ []
  pub in_order : requests_in here (read_count ++ write_count) ≡ Read 0x4040 0 4 ∷ Write 0x4040 2 (7 ∷ 8 ∷ []) ∷ []
  -- a frame is a request when it is complete
  pub half : requests_in here (take 40 read_count) ≡ []
  pub whole : requests_in (state_after step here (piece 1 (take 40 read_count) ∷ [])) (drop 40 read_count) ≡ Read 0x4040 0 4 ∷ []
  -- the parts of a sum, and none of one that is refused whole
  pub parts : requests_in here two_writes ≡ Write 0x4040 0 (1 ∷ 2 ∷ []) ∷ Write 0x4040 1 (3 ∷ []) ∷ []
  pub refused_sum : requests_in here short_sum ≡ []
  -- none of a connection that is not there, none behind a frame that closes it
  pub nobody : requests_in start read_count ≡ []
  pub behind_broken : requests_in here (read_count ++ broken ++ read_count) ≡ Read 0x4040 0 4 ∷ []
  pub behind_unrouted : requests_in here (read_count ++ unrouted ++ read_count) ≡ Read 0x4040 0 4 ∷ []
  pub closing : requests_in (state_after step here (piece 1 broken ∷ [])) read_count ≡ []
  -- a tick asks nothing
  pub at_a_tick : asked_of_move here (tick 1000) ≡ []
  -- each part finds what the one before it left
  pub found : byte_found (two_writes ++ read_count) ≡ 0 ∷ 2 ∷ 3 ∷ []
  -- a read writes nothing, nor does a write that is refused
  pub names : names_in (read_count ++ write_count ++ write_limit) ≡ count_byte 2 ∷ count_byte 3 ∷ []
  -- from the bytes before a piece its requests lead to those behind it
  pub leads : Leads memory_before (asked_of_move here (piece 1 two_writes)) (memory_behind two_writes)
  -- and not to those before it; no request at all leads to no change
  pub leads_not_back : Leads memory_before (asked_of_move here (piece 1 two_writes)) memory_before → ⊥
  pub leads_nowhere : Leads memory_before [] (memory_behind two_writes) → ⊥

pub asked_rows : AskedRows
unfolding ams_length_of is_header front_of packet_of behind_frame frames_from frames_of left_behind rest_of has_same_parts has_same_members
    part_behind type_align greatest_align type_size members_end type_depth greatest_depth found_of byte_at with_byte trees_behind trees_of type_text
    group_in group_of request_in request_of byte_range bit_range size_range range_in header_of written_bytes reply_in notes_of connection_after_tick
    connection_after_reload state_after_event state_after_move state_after given_in_turn left_in_turn sum_refusal packed handles_after_all
    memory_after_puts world_after_tick client_after_tick read_write_group act_of plain_act produce produce_all connection_of put_back grant_in is_released_in
    place_after handle_in with_released handles_after write_group control_act client_after client_after_reload ended_of watches_after_reload
    ended_watches name_behind comment_behind entry_of_part numbers_from name_at names_at content_of projection_of acts_of_packets acts_of_move
    acts_of_log acts_by_others reply_in_forms outcome_in_all response_packet performed grouped frames_of_samples samples_at watches_after_tick
    reach_of outcomes_of memory_after_acts client_after_acts is_kept memory_after_reload world_after_reload client_reloaded answered_group
    after_packet after_packets after_piece read_group acts_of decide_request decide digits
    asked_of_move asked_of_packets asked_in_turn requests_of
asked_rows = record {
  one = refl;
  in_order = refl;
  half = refl;
  whole = refl;
  parts = refl;
  refused_sum = refl;
  nobody = refl;
  behind_broken = refl;
  behind_unrouted = refl;
  closing = refl;
  at_a_tick = refl;
  found = refl;
  names = refl;
  leads = (refl, (refl, refl));
  leads_not_back = λ l. false≢true (ap (λ m. byte_or_zero m (count_byte 1) == 0) (l.1.1));
  leads_nowhere = λ l. false≢true (ap (λ m. byte_or_zero m (count_byte 1) == 3) l);
}
