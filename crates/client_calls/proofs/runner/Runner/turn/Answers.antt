use Rattle.client_calls.proofs.SendingLemmas.{sends_alone}
use Rattle.client_calls.proofs.WayLemmas.{step_told, stands_told, entries_told, keepable_told}
use Rattle.client_calls.proofs.runner.Runner.turn.Goals as goal

pub returns-in-Ok-clause-step : goal.returns-in-Ok-clause-step
returns-in-Ok-clause-step c = step_told c.args.now c.args.self.now c.take_turn.new.self c.in-Ok.step c.in-Ok.ensures.turned

pub returns-in-Ok-clause-stands : goal.returns-in-Ok-clause-stands
returns-in-Ok-clause-stands c = stands_told c.args.now c.args.self.now c.take_turn.new.self c.in-Ok.step c.in-Ok.ensures.turned

pub returns-in-Ok-clause-entries : goal.returns-in-Ok-clause-entries
returns-in-Ok-clause-entries c = entries_told c.args.now c.args.self.now c.take_turn.new.self c.in-Ok.step c.in-Ok.ensures.turned

pub returns-in-Ok-clause-alone : goal.returns-in-Ok-clause-alone
returns-in-Ok-clause-alone c =
    sends_alone c.args.now c.args.self.now c.in-Ok.step (step_told c.args.now c.args.self.now c.take_turn.new.self c.in-Ok.step c.in-Ok.ensures.turned)

pub returns-in-Ok-clause-keepable : goal.returns-in-Ok-clause-keepable
returns-in-Ok-clause-keepable c = keepable_told c.args.now c.args.self.now c.take_turn.new.self c.in-Ok.step c.in-Ok.ensures.turned c.requires
