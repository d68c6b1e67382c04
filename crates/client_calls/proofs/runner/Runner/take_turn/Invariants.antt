use Rattle.client_calls.specs.Kept.{hearings_kept}
use Rattle.client_calls.specs.Turns.{OnItsWay}
use Rattle.client_calls.proofs.runner.Runner.take_turn.Given as goal

-- the turn goes on as that of what is kept now
abbrev pub invariant-hearings : goal.invariant-hearings
invariant-hearings l = OnItsWay l.now l.initial.self l.self

-- each thing that is heard leaves fewer to be heard
abbrev pub decreases-hearings : goal.decreases-hearings
decreases-hearings l = hearings_kept l.self.client
