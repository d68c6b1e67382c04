-- What runs print, with rooms, failing offers and reloads, by computation.
use Rattle.std.specs.Prelude.{◌≡◌, refl, ℕ, List, [], ◌∷◌, ◌++◌, codes}
use Rattle.spec_plant.specs.PartTexts.{name_behind, comment_behind}
use Rattle.spec_formats.specs.Groups.{group_in, group_of}
use Rattle.spec_formats.specs.Header.{header_of}
use Rattle.spec_formats.specs.Ranges.{bit_range, byte_range, range_in, size_range}
use Rattle.spec_formats.specs.Reply.{reply_in, written_bytes}
use Rattle.spec_formats.specs.Request.{request_in, request_of}
use Rattle.spec_frames.specs.Division.{ams_length_of, behind_frame, frames_from, frames_of, front_of, is_header, left_behind, packet_of, rest_of}
use Rattle.spec_machine.specs.Access.{memory_after_puts}
use Rattle.spec_machine.specs.Acts.{client_after_acts, memory_after_acts, outcomes_of}
use Rattle.spec_machine.specs.Answers.{answered_group}
use Rattle.spec_machine.specs.ByName.{read_write_group}
use Rattle.spec_machine.specs.Client.{client_after, client_after_reload, ended_of}
use Rattle.spec_machine.specs.Connection.{connection_of, produce, produce_all, put_back}
use Rattle.spec_machine.specs.Entries.{entry_of_part}
use Rattle.spec_machine.specs.HandleLaws.{handles_after_all}
use Rattle.spec_machine.specs.Handles.{grant_in, handle_in, handles_after, is_released_in, place_after, with_released}
use Rattle.spec_machine.specs.Moves.{state_after, state_after_move}
use Rattle.spec_machine.specs.Events.{connection_after_reload, connection_after_tick, state_after_event}
use Rattle.spec_machine.specs.SumPackets.{acts_of, decide_request}
use Rattle.spec_machine.specs.Packets.{decide}
use Rattle.spec_machine.specs.Piece.{after_packet, after_packets, after_piece}
use Rattle.spec_machine.specs.Projection.{acts_by_others, acts_of_log, acts_of_move, acts_of_packets, projection_of}
use Rattle.spec_machine.specs.Reach.{reach_of}
use Rattle.spec_machine.specs.Reads.{read_group}
use Rattle.spec_machine.specs.Reloads.{client_reloaded, is_kept, memory_after_reload, world_after_reload}
use Rattle.spec_machine.specs.Replies.{outcome_in_all, performed, reply_in_forms, response_packet}
use Rattle.spec_machine.specs.Requests.{act_of, plain_act}
use Rattle.spec_machine.specs.RunText.{notes_of}
use Rattle.spec_machine.specs.Stamps.{frames_of_samples, grouped, samples_at, watches_after_tick}
use Rattle.spec_machine.specs.Sums.{given_in_turn, left_in_turn, packed, sum_refusal}
use Rattle.spec_machine.specs.Ticks.{client_after_tick, world_after_tick}
use Rattle.spec_machine.specs.Watches.{ended_watches, watches_after_reload}
use Rattle.spec_machine.specs.World.{content_of, name_at, names_at, numbers_from}
use Rattle.spec_machine.specs.Writes.{control_act, write_group}
use Rattle.spec_plant.specs.Finding.{found_of}
use Rattle.spec_plant.specs.Parts.{part_behind}
use Rattle.spec_plant.specs.SameTypes.{has_same_members, has_same_parts}
use Rattle.spec_plant.specs.Sizes.{greatest_align, greatest_depth, members_end, type_align, type_depth, type_size}
use Rattle.spec_plant.specs.Spelling.{type_text}
use Rattle.spec_plant.specs.Trees.{trees_behind, trees_of}
use Rattle.spec_plant.specs.World.{byte_at, with_byte}
use Rattle.std.specs.Fmt.{digits}
use Rattle.spec_machine.specs.Offers.{left_after}
use Rattle.spec_machine.specs.Peers.{offers_to, peers_after}
use Rattle.spec_machine.specs.Play.{moves_of_each, turns_of}
use Rattle.hex.specs.Hex.{encode_with, encode_lower}
use Rattle.spec_machine.specs.LogText.{log_text_of}
use Rattle.spec_machine.specs.RunText.{text_of_play}
use Rattle.ads_outside.specs.declared.event.Event.TheVariants as event
use Rattle.spec_machine.specs.ScriptLine.{ScriptLine, Happens, TakesAtMost, FailsNext}
use Rattle.spec_machine.proofs.Plant.{q, a, added, stamp, device, start}

abbrev line_opened : ℕ → ScriptLine
line_opened c = Happens (event.Opened c)

abbrev line_state : ℕ → ℕ → ScriptLine
line_state c id = Happens (event.Piece c (q 4 id []))

abbrev reply_text : List ℕ
reply_text = codes "000028000000c0a8000901018980050102030101530304000500080000000000000001000000" ++ codes "0000000005000000\n"

-- the line of bytes that connection 1 took
abbrev out_line : List ℕ → List ℕ
out_line bytes = codes "out 1 " ++ encode_lower bytes ++ 10 ∷ []

record RunRows : Type 0 where
  -- a frame taken in two offers: three bytes, and the rest once there is room
  two_offers : text_of_play device start (line_opened 1 ∷ TakesAtMost 1 3 ∷ line_state 1 1 ∷ TakesAtMost 1 100 ∷ [])
      ≡ codes "out 1 000028\nout 1 000000c0a8000901018980050102030101530304000500080000000000000001000000"
      ++ codes "0000000005000000\nconnections 1 requests 1 replies 1 samples 0 reloads 0 0\n"
  -- a failed offer loses one connection alone
  failed_offer : text_of_play device start (line_opened 1 ∷ line_opened 2 ∷ FailsNext 1 ∷ line_state 1 1 ∷ line_state 2 1 ∷ line_state 1 1 ∷ [])
      ≡ codes "lost 1\nout 2 " ++ reply_text ++ codes "connections 2 requests 2 replies 2 samples 0 reloads 0 0\n"
  -- a connection that is blocked at a reload: the end of its notification waits until there is room
  blocked_reload : text_of_play device start
      (line_opened 1 ∷ Happens (event.Piece 1 (added 1 (codes "40400000 48000000 08000000 04000000 00000000 00000000"))) ∷ Happens (event.Tick 9)
      ∷ TakesAtMost 1 0 ∷ Happens (event.Reload (codes "plant2")) ∷ Happens (event.Tick 10) ∷ TakesAtMost 1 1000 ∷ [])
      ≡ out_line (a 6 1 (codes "00000000 01000000")) ++ out_line (stamp 9 1 (codes "01000000 08000000 4d69780000000000")) ++ codes "reload ok 2\n"
      ++ out_line (stamp 9 1 (codes "01000000 00000000")) ++ codes "connections 1 requests 1 replies 1 samples 2 reloads 1 0\n"
  -- accepted and refused reloads
  reloads : text_of_play device start
      (Happens (event.Reload (codes "plant2")) ∷ Happens (event.Reload (codes "no")) ∷ Happens (event.Reload (codes "plant")) ∷ [])
      ≡ codes "reload ok 2\nreload refused 2\nreload ok 3\nconnections 0 requests 0 replies 0 samples 0 reloads 2 1\n"

run_rows : RunRows
unfolding ams_length_of is_header front_of packet_of behind_frame frames_from frames_of left_behind rest_of has_same_parts has_same_members
    part_behind type_align greatest_align type_size members_end type_depth greatest_depth found_of byte_at with_byte trees_behind trees_of type_text
    group_in group_of request_in request_of byte_range bit_range size_range range_in header_of written_bytes reply_in notes_of connection_after_tick
    connection_after_reload state_after_event state_after_move state_after given_in_turn left_in_turn sum_refusal packed handles_after_all
    memory_after_puts world_after_tick client_after_tick read_write_group act_of plain_act produce produce_all connection_of put_back grant_in is_released_in
    place_after handle_in with_released handles_after write_group control_act client_after client_after_reload ended_of watches_after_reload
    ended_watches name_behind comment_behind entry_of_part numbers_from name_at names_at content_of projection_of acts_of_packets acts_of_move
    acts_of_log acts_by_others reply_in_forms outcome_in_all response_packet performed grouped frames_of_samples samples_at watches_after_tick
    reach_of outcomes_of memory_after_acts client_after_acts is_kept memory_after_reload world_after_reload client_reloaded answered_group
    after_packet after_packets after_piece read_group acts_of decide_request decide digits left_after offers_to peers_after moves_of_each turns_of
    log_text_of encode_with
run_rows = record { two_offers = refl; failed_offer = refl; blocked_reload = refl; reloads = refl }
