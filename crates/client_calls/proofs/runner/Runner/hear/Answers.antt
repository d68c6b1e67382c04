use Rattle.std.proofs.Common.{subst}
use Rattle.client_calls.specs.Turns.{Hears}
use Rattle.client_calls.proofs.StandingLemmas.{rests_over}
use Rattle.client_calls.proofs.runner.Runner.hear.Goals as goal

pub returns-in-Some : goal.returns-in-Some
returns-in-Some c =
    let ends = c.in-Some.ensures in
    rests_over c.args.self.now c.take_end.new.self c.in-Some.end c.requires.quiet ends.0 ends.1.0 ends.1.1

pub returns-in_ok-step-in-None : goal.returns-in_ok-step-in-None
returns-in_ok-step-in-None c =
    subst (λ k. Hears k c.hear_more.new.self c.in_ok-step-in-None.step) c.in-None.ensures.0 c.in_ok-step-in-None.ensures
