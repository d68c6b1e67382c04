use Rattle.std.proofs.Common.{subst}
use Rattle.client_replies.specs.Stages.{output_kept}
use Rattle.client_calls.specs.Turns.{GoesOn, Rests}
use Rattle.client_calls.proofs.WayLemmas.{given_steps, rest_steps}
use Rattle.client_calls.proofs.runner.Runner.do_one.Goals as goal

pub returns-in_ok-step-in-Some : goal.returns-in_ok-step-in-Some
returns-in_ok-step-in-Some c =
    given_steps c.args.now c.args.self.now c.take_first.new.self c.give.new.self (output_kept c.in-Some.output) c.in_ok-step-in-Some.step c.in-Some.ensures
    c.in_ok-step-in-Some.ensures.turned c.in_ok-step-in-Some.ensures.gives

pub returns-in-Some-2 : goal.returns-in-Some-2
returns-in-Some-2 c =
    rest_steps c.args.now c.args.self.now c.hear.new.self c.in-Some-2.step
    (subst (λ k. Rests k c.hear.new.self c.in-Some-2.step) c.in-None.ensures.0 (rw c.in-Some-2.is at c.in_ok-step-in-None.ensures))

pub returns-in-None-2 : goal.returns-in-None-2
returns-in-None-2 c = subst (λ k. GoesOn k c.hear.new.self) c.in-None.ensures.0 (rw c.in-None-2.is at c.in_ok-step-in-None.ensures)
