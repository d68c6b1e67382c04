-- Clients and their histories, by computation.
use Rattle.std.specs.Prelude.{◌≡◌, refl, ℕ, List, [], ◌∷◌, ◌++◌, codes, Some, None, map, Option}
use Rattle.std.specs.List.{range_with_len}
use Rattle.ads_base.specs.declared.peer.Peer.TheVariants as peers
use Rattle.spec_frames.specs.Division.{ams_length_of, behind_frame, frames_from, frames_of, front_of, is_header, left_behind, packet_of, rest_of}
use Rattle.spec_frames.proofs.Hex.{hex}
use Rattle.spec_formats.specs.Header.{header_of}
use Rattle.spec_formats.specs.Reply.{reply_in, reply_of}
use Rattle.spec_formats.specs.NotificationReading.{sample_of, samples_of, stamp_of, stamps_of, notification_of}
use Rattle.spec_formats.specs.Request.{ReadState}
use Rattle.spec_client.specs.ReadNames.{handle_parts, read_names_request}
use Rattle.spec_client.proofs.Frames.{me, peer, request, reply, stamp}
use Rattle.spec_client.specs.Heard.{Heard, Answered, Sampled, Ended, Stray, TimedOut, NotYet, Broken}
use Rattle.spec_client.specs.Unanswered.{free_id, least_id, without_first}
use Rattle.spec_client.specs.Client.{new_client, Issued, issued_by, client_after_issue, client_after_tick}
use Rattle.spec_client.specs.PassedOver.{says_something}
use Rattle.spec_client.specs.Hearing.{packet_hearing, packets_hearing, next_hearing}
use Rattle.spec_client.specs.History.{ClientMove, Issue, Fed, Tick, Next, ClientHistory, client_after_move, client_after, all_heard, issued_after}

abbrev state_issued : ℕ → ClientMove
state_issued now = Issue ReadState now

abbrev state_reply : ℕ → List ℕ
state_reply id = reply 4 id (codes "00000000 0500 0000")

abbrev state_answered : ℕ → Heard
state_answered id = Answered id 0 4 (hex (codes "00000000 0500 0000"))

-- all that is heard in a history
abbrev heard_in : ClientHistory → List Heard
heard_in history = all_heard (new_client me peer) history

abbrev id_of : Option Issued → ℕ
id_of None = 0
id_of (Some issued) = issued.id

abbrev sixty_four : ClientHistory
sixty_four = map state_issued (range_with_len 1 64)

record HistoryRows : Type 0 where
  -- the first request's frame
  first : issued_after me peer [] ReadState ≡ Some (record { id = 1; frame = request 4 1 [] })
  -- two symbols are read by their handles: a result of 4 bytes each, and 4 and 2 bytes
  names : issued_after me peer [] (read_names_request (1 ∷ 2 ∷ []) (4 ∷ 2 ∷ []))
      ≡ Some (record { id = 1; frame = request 9 1 (codes "80f00000 02000000 0e000000 18000000 05f00000 01000000 04000000 05f00000 02000000 02000000") })
  -- 64 requests are outstanding, and the 65th is not issued; behind the answer of the third the next one has the id 65
  at_most : issued_after me peer sixty_four ReadState ≡ None
  next : id_of (issued_after me peer (sixty_four ++ Fed (state_reply 3) ∷ Next ∷ []) ReadState) ≡ 65
  -- replies out of order, and a reply that comes again
  out_of_order : heard_in (state_issued 0 ∷ state_issued 0 ∷ Fed (state_reply 2 ++ state_reply 1) ∷ Next ∷ Next ∷ Next ∷ Fed (state_reply 1) ∷ Next ∷ [])
      ≡ state_answered 2 ∷ state_answered 1 ∷ NotYet ∷ Stray 1 ∷ []
  -- a broken frame stays broken, and timeouts come before it
  broken : heard_in (state_issued 5 ∷ state_issued 6 ∷ Fed (hex (codes "010020000000 00"))
      ∷ Next ∷ Tick 50000005 ∷ Next ∷ Next ∷ Fed (state_reply 1) ∷ Next ∷ [])
      ≡ Broken (peers.Frame (hex (codes "010020000000"))) ∷ TimedOut 1 5 50000005 ∷ Broken (peers.Frame (hex (codes "010020000000")))
      ∷ Broken (peers.Frame (hex (codes "010020000000"))) ∷ []
  -- timeouts are told by their ids, and a late reply answers nothing
  late : heard_in (state_issued 5 ∷ state_issued 6 ∷ Tick 50000010 ∷ Fed (state_reply 2) ∷ Next ∷ Next ∷ Next ∷ [])
      ≡ TimedOut 1 5 50000010 ∷ TimedOut 2 6 50000010 ∷ Stray 2 ∷ []
  -- a moment before that nothing times out
  in_time : heard_in (state_issued 5 ∷ Tick 50000004 ∷ Fed (state_reply 1) ∷ Next ∷ Next ∷ []) ≡ state_answered 1 ∷ NotYet ∷ []
  -- the samples of a notification one after another, and its end
  samples : heard_in (Fed (stamp 1000 2 (codes "01000000 02000000 2a00 02000000 00000000")) ∷ Next ∷ Next ∷ Next ∷ [])
      ≡ Sampled 1 1000 (42 ∷ 0 ∷ []) ∷ Ended 2 ∷ NotYet ∷ []

history_rows : HistoryRows
unfolding handle_parts ams_length_of is_header front_of packet_of behind_frame frames_from frames_of left_behind rest_of header_of reply_in reply_of
    sample_of samples_of stamp_of stamps_of notification_of free_id least_id without_first issued_by client_after_issue client_after_tick
    says_something packet_hearing packets_hearing next_hearing client_after_move client_after all_heard
history_rows = record
    { first = refl; names = refl; at_most = refl; next = refl; out_of_order = refl; broken = refl; late = refl; in_time = refl; samples = refl }
