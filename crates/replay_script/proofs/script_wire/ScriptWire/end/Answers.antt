-- No line is left.
use Rattle.std.proofs.Common.{◌≡◌, sym, subst}
use Rattle.std.specs.Prelude.{slice_get, None}
use Rattle.replay_script.specs.ScriptWire.{PlayedScript}
use Rattle.replay_script.proofs.ToldLemmas.{from_end}
use Rattle.replay_script.proofs.script_wire.ScriptWire.end.Goals as goal

pub invariant_of-self : goal.invariant_of-self
invariant_of-self c =
    let P : PlayedScript → Type 0 = λ w. slice_get w.lines w.at ≡ None in
    from_end _ _ _ _ _ _ _ c.self.invariant _ (subst P (sym c.self.view_is) c.requires)
