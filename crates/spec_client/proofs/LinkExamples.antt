-- Calls over a link whose answers are given, by computation.
use Rattle.std.specs.Prelude.{◌≡◌, refl, ℕ, List, [], ◌∷◌, ◌++◌, codes, Some, None, take, drop}
use Rattle.std.specs.Fmt.{digits}
use Rattle.ads_base.specs.declared.peer.Peer.TheVariants as peers
use Rattle.spec_frames.specs.Division.{ams_length_of, is_header, front_of, packet_of, behind_frame, frames_from, frames_of, left_behind, rest_of}
use Rattle.spec_frames.proofs.Hex.{hex}
use Rattle.spec_formats.specs.Codes.{text_in}
use Rattle.spec_formats.specs.Header.{header_of}
use Rattle.spec_formats.specs.NotificationReading.{notification_of}
use Rattle.spec_formats.specs.Reply.{reply_in, reply_of}
use Rattle.spec_client.specs.Unanswered.{free_id, least_id, without_first}
use Rattle.spec_client.specs.Client.{issued_by, client_after_issue, client_after_tick}
use Rattle.spec_client.specs.PassedOver.{says_something}
use Rattle.spec_client.specs.Hearing.{packet_hearing, packets_hearing, next_hearing}
use Rattle.spec_client.specs.Calls.{State}
use Rattle.spec_client.specs.Stages.{BadPeer}
use Rattle.spec_client.specs.Replies.{after_reply, after_answer}
use Rattle.spec_client.specs.Steps.{after_sample, after_end, after_heard, begun}
use Rattle.spec_client.specs.Runner.{runner_after_hearing, given, turn_within, all_given, turns_within}
use Rattle.spec_client.specs.Conversation.{LinkAnswer, Bytes, Quiet, Closed, CallEnded, Conversation}
use Rattle.spec_client.specs.Conversation.{conversation_after_turns, conversation_going_on, conversation_after}
use Rattle.spec_client.specs.CallOver.{call_over, conversation_after_all}
use Rattle.spec_client.proofs.Frames.{me, peer, request, reply}
use Rattle.spec_client.proofs.Told.{told_in}

abbrev over : ℕ → List LinkAnswer → Conversation
over now answers = call_over me peer State now answers

abbrev state_reply : List ℕ
state_reply = reply 4 1 (codes "00000000 0500 0000")

record LinkRows : Type 0 where
  -- a broken frame ends the call
  broken : (over 0 (Bytes (hex (codes "010020000000")) 0 ∷ [])).end ≡ Some (CallEnded (BadPeer (peers.Frame (hex (codes "010020000000")))))
  -- no answer for five seconds
  timed_out : told_in (over 5 (Quiet 5 ∷ Quiet 6 ∷ Quiet 50000004 ∷ Quiet 50000005 ∷ [])) ≡ 11 ∷ codes "ads: timed out 5 50000005\n"
  -- it goes on until then
  goes_on : (over 5 (Quiet 5 ∷ Quiet 50000004 ∷ [])).end ≡ None
  -- its request is sent behind the first answer
  sent : (over 5 []).sent ≡ record { answers = 1; bytes = request 4 1 [] } ∷ []
  -- an answer in pieces, with another response before it
  in_pieces : told_in (over 5 (Bytes (reply 4 2 [] ++ take 7 state_reply) 6 ∷ Quiet 6 ∷ Bytes (drop 7 state_reply) 7 ∷ [])) ≡ 0 ∷ codes "ads 5 device 0\n"
  -- bytes that came are heard before the link is closed
  closed : told_in (over 5 (Bytes (take 7 state_reply) 6 ∷ Bytes (drop 7 state_reply) 6 ∷ Closed 6 ∷ [])) ≡ 0 ∷ codes "ads 5 device 0\n"
  -- a link that is closed before
  closed_before : (over 5 (Bytes (take 7 state_reply) 6 ∷ Closed 6 ∷ [])).end ≡ Some (CallEnded (BadPeer peers.Closed))

link_rows : LinkRows
unfolding digits ams_length_of is_header front_of packet_of behind_frame frames_from frames_of left_behind rest_of text_in header_of notification_of
    reply_in reply_of free_id least_id without_first issued_by client_after_issue client_after_tick says_something packet_hearing packets_hearing
    next_hearing after_reply after_answer after_sample after_end after_heard begun runner_after_hearing given turn_within all_given turns_within
    conversation_after_turns conversation_going_on conversation_after conversation_after_all
link_rows = record { broken = refl; timed_out = refl; goes_on = refl; sent = refl; in_pieces = refl; closed = refl; closed_before = refl }
