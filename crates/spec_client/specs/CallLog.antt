-- The log that a call leaves on a link: what it sends, and the answers that come, in order.
use Rattle.std.specs.Prelude.{ℕ, List, [], ◌∷◌, ◌++◌, length, drop, map}
use Rattle.ads_outside.specs.declared.link_event.LinkEvent.{LinkEvent}
use Rattle.ads_outside.specs.declared.link_event.LinkEvent.TheVariants as come
use Rattle.ads_outside.specs.declared.link_move.LinkMove.{LinkMove}
use Rattle.ads_outside.specs.declared.link_move.LinkMove.TheVariants as link
use Rattle.spec_formats.specs.Header.{AmsAddress}
use Rattle.spec_client.specs.Calls.{Call}
use Rattle.spec_client.specs.Conversation.{LinkAnswer, Bytes, Quiet, Closed, Sent, Conversation, conversation_begun, conversation_after}

-- an answer, as what came
abbrev pub event_of : LinkAnswer → LinkEvent
event_of (Bytes bytes now) = come.Bytes bytes now
event_of (Quiet now) = come.Quiet now
event_of (Closed now) = come.Closed now

abbrev pub sent_moves : List Sent → List LinkMove
sent_moves sent = map (λ (s : Sent). link.Sent s.bytes) sent

-- what a call sends behind an answer
abbrev pub sent_behind : Conversation → LinkAnswer → List Sent
sent_behind c answer = drop (length c.sent) (conversation_after c answer).sent

-- what is still to be sent, and then each answer with what the call sends behind it
unfoldable pub log_behind : List Sent → Conversation → List LinkAnswer → List LinkMove
log_behind pending c [] = sent_moves pending
log_behind pending c (answer ∷ answers) =
    sent_moves pending ++ link.Came (event_of answer) ∷ log_behind (sent_behind c answer) (conversation_after c answer) answers

-- the same without what is sent behind the last answer
unfoldable pub log_up_to : List Sent → Conversation → List LinkAnswer → List LinkMove
log_up_to pending c [] = []
log_up_to pending c (answer ∷ answers) =
    sent_moves pending ++ link.Came (event_of answer) ∷ log_up_to (sent_behind c answer) (conversation_after c answer) answers

-- what is sent behind the last answer
unfoldable pub sent_last : List Sent → Conversation → List LinkAnswer → List Sent
sent_last pending c [] = pending
sent_last pending c (answer ∷ answers) = sent_last (sent_behind c answer) (conversation_after c answer) answers

-- all moves of a link that was connected at a moment and gave these answers to a call
abbrev pub call_log : AmsAddress → AmsAddress → Call → List ℕ → ℕ → List LinkAnswer → List LinkMove
call_log me peer call to now answers =
    let c = conversation_begun me peer call now in
    link.Connected to now ∷ log_behind c.sent c answers

-- up to the last answer
abbrev pub call_log_up_to : AmsAddress → AmsAddress → Call → List ℕ → ℕ → List LinkAnswer → List LinkMove
call_log_up_to me peer call to now answers =
    let c = conversation_begun me peer call now in
    link.Connected to now ∷ log_up_to c.sent c answers

-- what the call sends behind the last answer, or at once where none came
abbrev pub call_sent_last : AmsAddress → AmsAddress → Call → ℕ → List LinkAnswer → List Sent
call_sent_last me peer call now answers =
    let c = conversation_begun me peer call now in
    sent_last c.sent c answers
