-- Answers behind others: the conversation, the link's history and the log.
use Rattle.std.proofs.Common.{◌≡◌, List, [], ◌∷◌, ◌++◌, refl, sym, ap, ◌∙◌, append_assoc}
use Rattle.std.proofs.lemmas.List.{append-nil}
use Rattle.ads_outside.specs.declared.link_move.LinkMove.TheVariants as move
use Rattle.ads_outside.specs.LinkState.{LinkHistory}
use Rattle.spec_client.specs.CallOver.{conversation_after_all}
use Rattle.spec_client.specs.Conversation.{LinkAnswer, Conversation, Sent, conversation_after}
use Rattle.spec_client.specs.CallLog.{event_of, sent_moves, sent_behind, sent_last, log_behind, log_up_to}
use Rattle.client_loop.specs.Called.{AreAwaited}
use Rattle.client_loop.specs.LinkAfter.{history_after_answer, history_after_answers}

pub over_append : (c : Conversation) (front more : List LinkAnswer)
    → conversation_after_all c (front ++ more) ≡ conversation_after_all (conversation_after_all c front) more
unfolding conversation_after_all
over_append c [] more = refl
over_append c (a ∷ front) more = over_append (conversation_after c a) front more

pub history_append : (h : LinkHistory) (front more : List LinkAnswer)
    → history_after_answers h (front ++ more) ≡ history_after_answers (history_after_answers h front) more
history_append h [] more = refl
history_append h (a ∷ front) more = history_append (history_after_answer h a) front more

pub awaited_append : (c : Conversation) (front more : List LinkAnswer) → AreAwaited c front
    → AreAwaited (conversation_after_all c front) more → AreAwaited c (front ++ more)
unfolding conversation_after_all
awaited_append c [] more first second = second
awaited_append c (a ∷ front) more first second = (first.0, awaited_append (conversation_after c a) front more first.1 second)

-- what is still to be sent stands first
pub log_pending : (pending : List Sent) (c : Conversation) (front : List LinkAnswer) → log_behind pending c front ≡ sent_moves pending ++ log_behind [] c front
unfolding log_behind
log_pending pending c [] = sym (append-nil (sent_moves pending))
log_pending pending c (a ∷ front) = refl

pub log_append : (pending : List Sent) (c : Conversation) (front more : List LinkAnswer)
    → log_behind pending c (front ++ more) ≡ log_behind pending c front ++ log_behind [] (conversation_after_all c front) more
unfolding log_behind conversation_after_all
log_append pending c [] more = log_pending pending c more
log_append pending c (a ∷ front) more =
    ap (λ ms. sent_moves pending ++ move.Came (event_of a) ∷ ms) (log_append (sent_behind c a) (conversation_after c a) front more)
    ∙ sym (append_assoc (sent_moves pending) (move.Came (event_of a) ∷ log_behind (sent_behind c a) (conversation_after c a) front)
    (log_behind [] (conversation_after_all (conversation_after c a) front) more))

pub log_up_to_append : (pending : List Sent) (c : Conversation) (front : List LinkAnswer) (b : LinkAnswer) (more : List LinkAnswer)
    → log_up_to pending c (front ++ b ∷ more) ≡ log_behind pending c front ++ log_up_to [] (conversation_after_all c front) (b ∷ more)
unfolding log_behind log_up_to conversation_after_all
log_up_to_append pending c [] b more = refl
log_up_to_append pending c (a ∷ front) b more =
    ap (λ ms. sent_moves pending ++ move.Came (event_of a) ∷ ms) (log_up_to_append (sent_behind c a) (conversation_after c a) front b more)
    ∙ sym (append_assoc (sent_moves pending) (move.Came (event_of a) ∷ log_behind (sent_behind c a) (conversation_after c a) front)
    (log_up_to [] (conversation_after_all (conversation_after c a) front) (b ∷ more)))

pub last_append : (pending : List Sent) (c : Conversation) (front : List LinkAnswer) (b : LinkAnswer) (more : List LinkAnswer)
    → sent_last pending c (front ++ b ∷ more) ≡ sent_last [] (conversation_after_all c front) (b ∷ more)
unfolding sent_last conversation_after_all
last_append pending c [] b more = refl
last_append pending c (a ∷ front) b more = last_append (sent_behind c a) (conversation_after c a) front b more

-- the log up to the last answer, and what is sent behind that
pub log_in_two : (pending : List Sent) (c : Conversation) (front : List LinkAnswer)
    → log_behind pending c front ≡ log_up_to pending c front ++ sent_moves (sent_last pending c front)
unfolding log_behind log_up_to sent_last
log_in_two pending c [] = refl
log_in_two pending c (a ∷ front) =
    ap (λ ms. sent_moves pending ++ move.Came (event_of a) ∷ ms) (log_in_two (sent_behind c a) (conversation_after c a) front)
    ∙ sym (append_assoc (sent_moves pending) (move.Came (event_of a) ∷ log_up_to (sent_behind c a) (conversation_after c a) front)
    (sent_moves (sent_last (sent_behind c a) (conversation_after c a) front)))
