use Rattle.std.proofs.Common.{◌+◌, map, take, sym, ◌∙◌}
use Rattle.spec_rules.specs.SymbolRules.{is_right_name}
use Rattle.description_table.specs.Views.{symbol_view}
use Rattle.description_rules.specs.NextName.{name_view}
use Rattle.description_rules.proofs.FirstLemmas.{first_from-start, first_from-right, first_from-wrong, take-more}
use Rattle.description_rules.proofs.NameStartLemmas.{noted-none, noted-next, is_right-noted}
use Rattle.description_rules.proofs.symbol_names.first_wrong_name.Goals as goal

pub loop-i-init : goal.loop-i-init
loop-i-init c =
    rw (c.requires.whole, c.requires.starts) (record { first = first_from-start is_right_name symbol_view c.args.symbols.now; noted = noted-none })

pub returns-then-not-branch : goal.returns-then-not-branch
returns-then-not-branch c =
    let xs = c.args.symbols.now in
    let i = c.loop-i.i in
    let x = c.index-symbols-i.result in
    let next = c.in_ok-is_right_name.ensures in
    sym (first_from-wrong is_right_name symbol_view xs i x _ c.loop-i-test.true c.index-symbols-i.is
    (is_right-noted (take i xs) x c.loop-i.whole c.loop-i.starts _ _ _ c.loop-i.invariant.noted next ∙ c.if-not-branch.true)
    c.loop-i.invariant.first)

pub loop-i-preserved : goal.loop-i-preserved
loop-i-preserved c =
    let xs = c.args.symbols.now in
    let i = c.loop-i.i in
    let x = c.index-symbols-i.result in
    let next = c.in_ok-is_right_name.ensures in
    record {
      first = first_from-right is_right_name symbol_view xs i x _ c.loop-i-test.true c.index-symbols-i.is
          (is_right-noted (take i xs) x c.loop-i.whole c.loop-i.starts _ _ _ c.loop-i.invariant.noted next ∙ c.if-not-branch.false)
          c.loop-i.invariant.first;
      noted = noted-next (map name_view (take i xs)) (map name_view (take (i + 1) xs)) c.loop-i.whole
          c.loop-i.starts _ _ (name_view x) _ c.loop-i.invariant.noted next c.if-not-branch.false
          (take-more name_view xs i x c.loop-i-test.true c.index-symbols-i.is);
    }
