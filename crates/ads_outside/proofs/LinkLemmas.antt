-- A link in memory: the bytes that were sent are those of its log.
use Rattle.std.proofs.Common.{◌≡◌, ℕ, take, List, [], ◌∷◌, ◌++◌, ap, sym, ◌∙◌, append-nil, refl}
use Rattle.std.proofs.lemmas.Grind.{flat_map-append}
use Rattle.ads_outside.specs.declared.link_move.LinkMove.{LinkMove}
use Rattle.ads_outside.specs.declared.link_move.LinkMove.TheVariants as move
use Rattle.ads_outside.specs.declared.link_event.LinkEvent.{LinkEvent}
use Rattle.ads_outside.specs.declared.link_event.LinkEvent.TheVariants as event
use Rattle.ads_outside.specs.LinkAnswers.{Receives, log_after_recv}
use Rattle.ads_outside.specs.LinkState.{LinkState}
use Rattle.ads_outside.specs.MemLink.{sent_by_move, sent_in, received_as, size_of, bytes_in, Fits, history_after}

pub sent_in-more : (log : List LinkMove) (m : LinkMove) → sent_in (log ++ m ∷ []) ≡ sent_in log ++ sent_by_move m
sent_in-more log m = flat_map-append sent_by_move log (m ∷ []) ∙ ap (λ o. sent_in log ++ o) (append-nil (sent_by_move m))

-- a move that sends nothing
pub still_sent : (sent : List ℕ) (log : List LinkMove) (m : LinkMove) → sent_by_move m ≡ [] → sent ≡ sent_in log → sent ≡ sent_in (log ++ m ∷ [])
still_sent sent log m none e = e ∙ sym (sent_in-more log m ∙ ap (λ o. sent_in log ++ o) none ∙ append-nil (sent_in log))

-- one that sends these bytes
pub more_sent : (sent : List ℕ) (log : List LinkMove) (bytes : List ℕ) → sent ≡ sent_in log → sent ++ bytes ≡ sent_in (log ++ move.Sent bytes ∷ [])
more_sent sent log bytes e = ap (λ s. s ++ bytes) e ∙ sym (sent_in-more log (move.Sent bytes))

-- what comes into a buffer that it fits into is an answer of that
pub receives_coming : (e : LinkEvent) (size : ℕ) (old new : LinkState) → Fits e size
    → new.history ≡ history_after old.history e → Receives (received_as e) size old new
receives_coming (event.Bytes bytes now) size old new fits e = record { some = fits.0; fit = fits.1; history = e }
receives_coming (event.Quiet now) size old new fits e = e
receives_coming (event.Closed now) size old new fits e = e

-- and it is logged with the bytes that the buffer holds
pub logs_coming : (e : LinkEvent) (buf : List ℕ) (log : List LinkMove)
    → take (size_of e) buf ≡ bytes_in e → log ++ move.Came e ∷ [] ≡ log_after_recv (received_as e) buf log
logs_coming (event.Bytes bytes now) buf log e = ap (λ bs. log ++ move.Came (event.Bytes bs now) ∷ []) (sym e)
logs_coming (event.Quiet now) buf log e = refl
logs_coming (event.Closed now) buf log e = refl
