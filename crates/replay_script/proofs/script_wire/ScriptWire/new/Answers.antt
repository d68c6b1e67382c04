-- The play begins.
use Rattle.std.proofs.Common.{◌≡◌, List, ℕ, [], sym, ap, ◌∙◌, subst, map}
use Rattle.ads_outside.specs.declared.moves.Move.{Move}
use Rattle.spec_machine.specs.ScriptLine.{ScriptLine}
use Rattle.replay_script.specs.Fresh.{OpenNew}
use Rattle.replay_script.specs.Script.{line_meant}
use Rattle.replay_script.specs.ToldLines.{lines_told, PlaysFrom}
use Rattle.replay_script.proofs.ToldLemmas.{told_nothing, from_first, unplayed_is}
use Rattle.replay_script.proofs.script_wire.ScriptWire.new.Goals as goal

pub invariant_of-result : goal.invariant_of-result
invariant_of-result c =
    let lines = map line_meant c.into_vec.result.items in
    let are : lines ≡ c.args.script = ap (map line_meant) c.into_vec.ensures ∙ c.into_lines.ensures in
    let L : List Move → Type 0 = λ log. PlaysFrom lines 0 log c.new.result c.new-2.result 0 0 in
    let F : List ℕ → Type 0 = λ failing. PlaysFrom lines 0 [] c.new.result failing 0 0 in
    let N : List ScriptLine → Type 0 = λ ls. OpenNew [] ls in
    subst L (sym c.new-3.ensures.items) (subst F (sym c.new-2.ensures) (from_first lines c.new.result c.new.ensures (subst N (sym are) c.requires)))

pub returns : goal.returns
returns c =
    let lines = map line_meant c.into_vec.result.items in
    let are : lines ≡ c.args.script = ap (map line_meant) c.into_vec.ensures ∙ c.into_lines.ensures in
    unplayed_is _ _ _ _ (ap (λ log. lines_told lines log) c.new-3.ensures.items ∙ (told_nothing lines ∙ are)) c.new-3.ensures.items c.new-4.ensures
