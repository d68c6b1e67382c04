use Rattle.std.proofs.Common.{take, sym, ◌∙◌}
use Rattle.spec_plant.specs.AcceptedTypes.{is_type_name}
use Rattle.spec_rules.specs.Written.{written_name}
use Rattle.spec_rules.specs.TypeRules.{is_right_type_name}
use Rattle.description_table.specs.Views.{type_view}
use Rattle.description_rules.proofs.FirstLemmas.{first_from-start, first_from-right, first_from-wrong}
use Rattle.description_rules.proofs.LowerLemmas.{right-lower, noted-lower}
use Rattle.description_rules.proofs.type_rules.first_wrong_among.Goals as goal

pub loop-i-init : goal.loop-i-init
loop-i-init c = record { first = first_from-start is_right_type_name type_view c.args.types.now; noted = c.requires }

pub returns-then-not-branch : goal.returns-then-not-branch
returns-then-not-branch c =
    let xs = c.args.types.now in
    let i = c.loop-i.i in
    let x = c.index-types-i.result in
    sym (first_from-wrong is_right_type_name type_view xs i x _ c.loop-i-test.true c.index-types-i.is
    (right-lower type_view written_name (is_type_name (written_name (type_view x)))
    (take i xs) x c.loop-i.seen _ _ c.loop-i.invariant.noted c.in_ok-is_right_type_name.ensures ∙ c.if-not-branch.true)
    c.loop-i.invariant.first)

pub loop-i-preserved : goal.loop-i-preserved
loop-i-preserved c =
    let xs = c.args.types.now in
    let i = c.loop-i.i in
    let x = c.index-types-i.result in
    record {
      first = first_from-right is_right_type_name type_view xs i x _ c.loop-i-test.true c.index-types-i.is
          (right-lower type_view written_name (is_type_name (written_name (type_view x)))
          (take i xs) x c.loop-i.seen _ _ c.loop-i.invariant.noted c.in_ok-is_right_type_name.ensures ∙ c.if-not-branch.false)
          c.loop-i.invariant.first;
      noted = noted-lower type_view written_name xs i x c.loop-i.seen _ c.loop-i-test.true c.index-types-i.is
          c.loop-i.invariant.noted (c.in_ok-is_right_type_name.ensures.noted c.if-not-branch.false);
    }
