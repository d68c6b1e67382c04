-- One more connection whose next offer fails.
use Rattle.std.proofs.Common.{◌≡◌, refl, sym, subst, ◌∙◌}
use Rattle.std.specs.Prelude.{slice_get, Some}
use Rattle.spec_machine.specs.ScriptLine.{FailsNext}
use Rattle.replay_script.specs.ScriptWire.{PlayedScript}
use Rattle.replay_script.proofs.AnswerLemmas.{listed_more, listed_again, settled_more}
use Rattle.replay_script.proofs.ToldLemmas.{from_fail}
use Rattle.replay_script.proofs.script_wire.ScriptWire.fail_next.Goals as goal

pub invariant_of-self : goal.invariant_of-self
invariant_of-self c =
    let P : PlayedScript → Type 0 = λ w. slice_get w.lines w.at ≡ Some (FailsNext c.args.conn) in
    from_fail _ _ _ _ _ _ _ c.self.invariant _ c.args.conn (subst P (sym c.self.view_is) c.requires.line)
    (listed_again c.args.conn c.self.inside.failing (sym c.has.ensures ∙ c.if-has.true)) (λ within. (within, refl))

pub invariant_of-self-2 : goal.invariant_of-self-2
invariant_of-self-2 c =
    let P : PlayedScript → Type 0 = λ w. slice_get w.lines w.at ≡ Some (FailsNext c.args.conn) in
    rw c.in_ok-push.ensures.ok (from_fail _ _ _ _ _ _ _ c.self.invariant _ c.args.conn (subst P (sym c.self.view_is) c.requires.line)
    (listed_more c.args.conn c.self.inside.failing) (settled_more c.args.conn c.self.inside.failing c.self.inside.settled))
