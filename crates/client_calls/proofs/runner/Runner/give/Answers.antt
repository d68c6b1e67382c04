use Rattle.std.proofs.Common.{subst}
use Rattle.client_replies.specs.Stages.{output_kept}
use Rattle.client_calls.specs.Kept.{with_first}
use Rattle.client_calls.specs.Represents.{StandsFor}
use Rattle.client_calls.proofs.StandingLemmas.{printed_turned, kept_turned}
use Rattle.client_calls.proofs.runner.Runner.give.Goals as goal

pub returns-in-ToPrint-clause-turned : goal.returns-in-ToPrint-clause-turned
returns-in-ToPrint-clause-turned c = λ r s.
    printed_turned c.args.now c.args.self.now c.in-ToPrint.text r (subst (λ o. StandsFor (with_first (output_kept o) c.args.self.now) r) c.in-ToPrint.is s)

pub returns-in_ok-step-in-ToSend-clause-turned : goal.returns-in_ok-step-in-ToSend-clause-turned
returns-in_ok-step-in-ToSend-clause-turned c = λ r s.
    c.in_ok-step-in-ToSend.ensures.turned r (subst (λ o. StandsFor (with_first (output_kept o) c.args.self.now) r) c.in-ToSend.is s)

pub returns-in-ToKeep-clause-turned : goal.returns-in-ToKeep-clause-turned
returns-in-ToKeep-clause-turned c = λ r s.
    kept_turned c.args.now c.args.self.now c.in-ToKeep.row r (subst (λ o. StandsFor (with_first (output_kept o) c.args.self.now) r) c.in-ToKeep.is s)
