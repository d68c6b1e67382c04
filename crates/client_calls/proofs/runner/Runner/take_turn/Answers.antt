use Rattle.client_calls.specs.Turns.{Does}
use Rattle.client_calls.proofs.WayLemmas.{way_begins, way_goes_on, way_turned, way_falls, way_left}
use Rattle.client_calls.proofs.runner.Runner.take_turn.Goals as goal

pub hearings-init : goal.hearings-init
hearings-init c = way_begins c.args.now c.args.self.now c.requires

pub hearings-preserved : goal.hearings-preserved
hearings-preserved c = way_goes_on c.args.now c.args.self.now c.hearings.self c.do_one.new.self c.hearings.invariant (rw c.in-None.is at c.in_ok-step.ensures)

pub hearings-smaller : goal.hearings-smaller
hearings-smaller c = (rw c.in-None.is at c.in_ok-step.ensures).fewer

pub returns-in-Some : goal.returns-in-Some
returns-in-Some c =
    let s = rw c.in-Some.is at c.in_ok-step.ensures in
    record {
      turned = way_turned c.args.now c.args.self.now c.hearings.self c.do_one.new.self c.in-Some.step c.hearings.invariant s.turned;
      falls = way_falls c.args.now c.args.self.now c.hearings.self c.do_one.new.self c.in-Some.step c.hearings.invariant s;
      left = way_left c.args.now c.args.self.now c.hearings.self c.do_one.new.self c.in-Some.step c.hearings.invariant s;
    }
