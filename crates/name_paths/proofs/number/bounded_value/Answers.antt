use Rattle.std.proofs.Common.{◌+◌, min, drop, arith, ap, sym, ◌∙◌}
use Rattle.name_paths.specs.Number.{number_from}
use Rattle.name_paths.specs.declared.number.TheConstants.{TOO_GREAT}
use Rattle.name_paths.proofs.NumberLemmas.{number_from-min, number_from-drop}
use Rattle.name_paths.proofs.number.bounded_value.Goals as goal

pub loop-c-preserved : goal.loop-c-preserved
loop-c-preserved c =
    let text = c.args.text.now in
    let i = c.loop-c.c-index in
    let rest = drop (i + 1) text in
    record {
      bounded = omega arith;
      same = ap (λ n. min (number_from n rest) TOO_GREAT) c.next_value-value.ensures
          ∙ number_from-min _ TOO_GREAT rest
          ∙ ap (λ n. min n TOO_GREAT) (sym (number_from-drop c.loop-c.value text i c.loop-c-test.true))
          ∙ c.loop-c.invariant.same;
    }
