use Rattle.std.proofs.Common.{◌∙◌}
use Rattle.std.proofs.lemmas.List.{append-nil}
use Rattle.spec_machine.specs.Moves.{state_after_move}
use Rattle.ams_relay.proofs.serving.RelayServed.remove.Goals as goal

pub returns-clause-shut : goal.returns-clause-shut
unfolding state_after_move
returns-clause-shut c = λ x s.
    let stands = c.end.ensures.follows x.running.blocked x.running.state (record { holds = s.holds; streams = s.streams }) in
    record { working = c.end.ensures.failed ∙ s.working; holds = stands.holds; streams = stands.streams; notes = append-nil x.notes ∙ s.notes }

pub returns-clause-lost : goal.returns-clause-lost
unfolding state_after_move
returns-clause-lost c = λ x s.
    let stands = c.end.ensures.follows x.running.blocked x.running.state (record { holds = s.holds; streams = s.streams }) in
    record { working = c.end.ensures.failed ∙ s.working; holds = stands.holds; streams = stands.streams; notes = append-nil x.notes ∙ s.notes }
