-- A call over a link keeps one request at a time.
use Rattle.std.proofs.Common.{◌≡◌, ℕ, zero, suc, List, [], ◌∷◌, refl, sym, ◌∙◌, ap, subst, arith}
use Rattle.std.specs.Prelude.{Option, Some, None}
use Rattle.spec_formats.specs.Header.{AmsAddress}
use Rattle.spec_client.specs.Calls.{Call}
use Rattle.spec_client.specs.Hearing.{next_hearing, hearings_left}
use Rattle.spec_client.specs.Stages.{Output, ToSend, ToPrint, ToKeep, Stage}
use Rattle.spec_client.specs.Runner.{Runner, new_runner, given, runner_after_hearing, is_over, is_not_yet, Turns, all_given, turns_within, turns}
use Rattle.spec_client.specs.Conversation.{LinkAnswer, LoopEnd, Conversation, bytes_of, moment_of, runner_after_answer}
use Rattle.spec_client.specs.Conversation.{with_answer, unless_ended, after_answer_unless, conversation_begun}
use Rattle.spec_client.specs.Conversation.{conversation_after_turns, conversation_going_on, conversation_after}
use Rattle.spec_client.specs.CallOver.{conversation_after_all}
use Rattle.spec_client_laws.specs.Runs.{runner_after_move, OneWaitsOverLinks}
use Rattle.spec_client_laws.specs.Runs as run
use Rattle.spec_client_laws.proofs.HearingCases.{if_both, next_case}
use Rattle.spec_client_laws.proofs.RecordingLemmas.{sends_of, is_listening}
use Rattle.spec_client_laws.proofs.RunLemmas.{Steady, given_good, heard_steady, move_steady, begun_steady}

-- a runner that has given all, at this stage
record Given (stage : Stage) (r : Runner) : Type 0 where
  steady : Steady r
  same_stage : r.stage ≡ stage
  given_all : r.pending ≡ []

given-pending : (now : ℕ) (output : Output) (r : Runner) → (given now output r).runner.pending ≡ r.pending
unfolding given
given-pending now (ToSend request) r = refl
given-pending now (ToPrint text) r = refl
given-pending now (ToKeep row) r = refl

given-same : (now : ℕ) (output : Output) (r : Runner) → (given now output r).runner.stage ≡ r.stage
unfolding given
given-same now (ToSend request) r = refl
given-same now (ToPrint text) r = refl
given-same now (ToKeep row) r = refl

gives_all : (now : ℕ) (outputs : List Output) (r : Runner) → r.pending ≡ outputs → Steady r → Given r.stage (all_given now outputs r).runner
unfolding all_given
gives_all now [] r e s = record { steady = s; same_stage = refl; given_all = e }
gives_all now (output ∷ outputs) r e s =
    let q : Runner = record r { pending = outputs } in
    let t = given now output q in
    let rest = gives_all now outputs t.runner (given-pending now output q) (given_good now output outputs r e s).steady in
    record { steady = rest.steady; same_stage = rest.same_stage ∙ given-same now output q; given_all = rest.given_all }

-- what is heard then
hears_then : (stage : Stage) (r : Runner) → Given stage r → Steady (runner_after_hearing stage (next_hearing r.client))
unfolding runner_after_hearing
hears_then stage r g =
    let l = g.steady.few in
    let none = ap sends_of g.given_all in
    let h = heard_steady stage r.client (next_hearing r.client) (next_case r.client) (omega (arith, l, none))
    (λ q. let z = g.steady.quiet (ap is_listening g.same_stage ∙ q) in omega (arith, z, none)) in
    record { few = h.few; quiet = h.quiet }

turns_steady : (n now : ℕ) (r : Runner) → Steady r → Steady (turns_within n now r).runner
unfolding turns_within
turns_steady zero now r s = (gives_all now r.pending r refl s).steady
turns_steady (suc n) now r s =
    let first = all_given now r.pending r in
    let g = gives_all now r.pending r refl s in
    let x = next_hearing first.runner.client in
    let heard = runner_after_hearing r.stage x in
    let h = hears_then r.stage first.runner g in
    if_both (λ (t : Turns). Steady t.runner) (is_over r.stage) _ _ (λ t. g.steady)
    (λ t. if_both (λ (u : Turns). Steady u.runner) (is_not_yet x.heard) _ _ (λ u. h) (λ u. turns_steady n now heard h))

answer_steady : (r : Runner) (a : LinkAnswer) → Steady r → Steady (runner_after_answer r a)
unfolding runner_after_move
answer_steady r a s =
    let ticked = move_steady r (run.Ticked (moment_of a)) s in
    move_steady (runner_after_move r (run.Ticked (moment_of a))) (run.Fed (bytes_of a)) ticked

ended-same : (c : Conversation) (a : LinkAnswer) (o : Option LoopEnd) → (unless_ended c a o).runner ≡ c.runner
ended-same c a (Some end) = refl
ended-same c a None = refl

going_on : (c : Conversation) (a : LinkAnswer) → Steady c.runner → Steady (conversation_going_on c a).runner
unfolding conversation_going_on conversation_after_turns
going_on c a s =
    let d = with_answer c a in
    let e = conversation_after_turns d (turns (moment_of a) d.runner) in
    subst Steady (sym (ended-same e a e.end)) (turns_steady (hearings_left d.runner.client) (moment_of a) d.runner (answer_steady c.runner a s))

after_steady : (c : Conversation) (a : LinkAnswer) → Steady c.runner → Steady (conversation_after c a).runner
unfolding conversation_after
after_steady c a s = go c.end
  where
    go : (o : Option LoopEnd) → Steady (after_answer_unless o c a).runner
    go (Some end) = s
    go None = going_on c a s

all_after : (answers : List LinkAnswer) (c : Conversation) → Steady c.runner → Steady (conversation_after_all c answers).runner
unfolding conversation_after_all
all_after [] c s = s
all_after (a ∷ as_) c s = all_after as_ (conversation_after c a) (after_steady c a s)

begins : (me peer : AmsAddress) (call : Call) (now : ℕ) → Steady (conversation_begun me peer call now).runner
unfolding conversation_after_turns
begins me peer call now =
    let r = new_runner me peer call in
    turns_steady (hearings_left r.client) now r (begun_steady me peer call)

pub one_waits_over_links : OneWaitsOverLinks
one_waits_over_links me peer call now answers =
    let s = all_after answers (conversation_begun me peer call now) (begins me peer call now) in
    let l = s.few in
    omega (arith, l)
