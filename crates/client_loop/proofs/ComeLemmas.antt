-- What came, as the answer of a link that a call hears.
use Rattle.std.proofs.Common.{◌≡◌, ℕ, List, [], take, refl, ap, sym, subst}
use Rattle.std.proofs.lemmas.List.{append-nil}
use Rattle.ads_outside.specs.declared.link_move.LinkMove.{LinkMove}
use Rattle.ads_outside.specs.declared.received.Received.TheVariants as received
use Rattle.ads_outside.specs.LinkAnswers.{BringsBytes, log_after_recv}
use Rattle.ads_outside.specs.LinkState.{LinkState, quiet_came, closed_came}
use Rattle.spec_client.specs.Conversation as conversation
use Rattle.spec_client.specs.Runner.{Runner, runner_after_feed, runner_after_tick}
use Rattle.client_calls.specs.Kept.{RunnerKept}
use Rattle.client_calls.specs.Represents.{StandsFor}
use Rattle.client_loop.specs.declared.answers.Came.TheVariants as came
use Rattle.client_loop.specs.Hearing.{Comes, TakesIn}

abbrev Tells : {O : Type 0} → (O → List LinkMove → Type 0) → (O → List LinkMove → Type 0) → (List LinkMove → List LinkMove) → Type 0
Tells {O} first second behind = (o : O) (log : List LinkMove) → first o log → second o (behind log)

pub comes_bytes : {O : Type 0} (n now size : ℕ) (buf : List ℕ) (first second : O → List LinkMove → Type 0) (old new : LinkState)
    → BringsBytes n now size old new → Tells first second (log_after_recv (received.Bytes n now) buf)
    → Comes (conversation.Bytes (take n buf) now) first second old.history new.history
comes_bytes n now size buf first second old new b told = record { history = b.history; told = told }

fed_nothing : (r : Runner) → runner_after_feed r [] ≡ r
fed_nothing r = ap (λ (bytes : List ℕ). let x : Runner = record r { client = record r.client { received = bytes } } in x) (append-nil r.client.received)

-- nothing was fed
fed : (k : RunnerKept) (r : Runner) → StandsFor k r → StandsFor k (runner_after_feed r [])
fed k r stands = subst (λ x. StandsFor k x) (sym (fed_nothing r)) stands

abbrev Ticked : RunnerKept → RunnerKept → ℕ → Type 0
Ticked k new now = (r : Runner) → StandsFor k r → StandsFor new (runner_after_tick r now)

pub takes_bytes : {O : Type 0} (n now size : ℕ) (buf piece : List ℕ) (k mid new : RunnerKept)
    (first second : O → List LinkMove → Type 0) (old new_link : LinkState)
    → piece ≡ take n buf → BringsBytes n now size old new_link → Tells first second (log_after_recv (received.Bytes n now) buf)
    → Ticked k mid now → ((r : Runner) → StandsFor mid r → StandsFor new (runner_after_feed r piece))
    → TakesIn (came.Bytes now) k new first second old.history new_link.history
takes_bytes n now size buf piece k mid new first second old new_link is b told ticked feeds = record {
  answer = conversation.Bytes (take n buf) now;
  kind_is = (take n buf, refl);
  comes = comes_bytes n now size buf first second old new_link b told;
  stands = λ r s. subst (λ bytes. StandsFor new (runner_after_feed (runner_after_tick r now) bytes)) is (feeds (runner_after_tick r now) (ticked r s));
}

pub takes_quiet : {O : Type 0} (now : ℕ) (k new : RunnerKept) (first second : O → List LinkMove → Type 0) (old new_link : LinkState)
    → new_link.history ≡ quiet_came now old.history → Tells first second (log_after_recv (received.Quiet now) [])
    → Ticked k new now → TakesIn (came.Quiet now) k new first second old.history new_link.history
takes_quiet now k new first second old new_link history told ticked = record {
  answer = conversation.Quiet now;
  kind_is = refl;
  comes = record { history = history; told = told };
  stands = λ r s. fed new (runner_after_tick r now) (ticked r s);
}

pub takes_closed : {O : Type 0} (now : ℕ) (k new : RunnerKept) (first second : O → List LinkMove → Type 0) (old new_link : LinkState)
    → new_link.history ≡ closed_came now old.history → Tells first second (log_after_recv (received.Closed now) [])
    → Ticked k new now → TakesIn (came.Closed now) k new first second old.history new_link.history
takes_closed now k new first second old new_link history told ticked = record {
  answer = conversation.Closed now;
  kind_is = refl;
  comes = record { history = history; told = told };
  stands = λ r s. fed new (runner_after_tick r now) (ticked r s);
}
