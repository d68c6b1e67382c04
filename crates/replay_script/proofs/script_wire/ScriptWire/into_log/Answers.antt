-- Once End was answered, no line is left.
use Rattle.std.proofs.Common.{◌≤◌, length, map, subst, arith}
use Rattle.serve_loop.specs.Leads.{events_in}
use Rattle.spec_machine.specs.Peers.{first_peers}
use Rattle.replay_script.specs.Script.{line_meant}
use Rattle.replay_script.specs.Answering.{AnsweredSoFar}
use Rattle.replay_script.specs.ScriptWire.{PlayedScript, IsPlayed}
use Rattle.replay_script.specs.ToldLines.{lines_told}
use Rattle.replay_script.proofs.AnswerLemmas.{played_over}
use Rattle.replay_script.proofs.BeginLemmas.{plays_so_far}
use Rattle.replay_script.proofs.script_wire.ScriptWire.into_log.Goals as goal

pub returns-clause-played : goal.returns-clause-played
returns-clause-played c =
    let P : PlayedScript → Type 0 = λ w. IsPlayed w in
    subst P c.self.view_is (λ over. played_over _ _ _ _ _ _ _ c.self.invariant.plays over)

pub returns-clause-so_far : goal.returns-clause-so_far
returns-clause-so_far c =
    let P : PlayedScript → Type 0 = λ w. AnsweredSoFar first_peers w.lines c.self.inside.log.items in
    rw c.from_vec.ensures (subst P c.self.view_is (plays_so_far _ _ _ _ _ _ _ c.self.invariant.plays))

pub returns-clause-few : goal.returns-clause-few
returns-clause-few c =
    let L : PlayedScript → Type 0 = λ w. events_in c.self.inside.log.items ≤ length w.lines in
    let few : events_in c.self.inside.log.items ≤ length (lines_told (map line_meant c.self.inside.lines.items) c.self.inside.log.items) =
    omega (arith, c.self.invariant.plays.few) in
    rw c.from_vec.ensures (subst L c.self.view_is few)
