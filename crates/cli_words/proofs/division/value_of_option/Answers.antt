use Rattle.std.proofs.Common.{sym, ◌∙◌, arith}
use Rattle.std.proofs.lemmas.List.{drop_all}
use Rattle.cli_words.proofs.OptionLemmas.{value_of-here, value_of-later, value_of-end}
use Rattle.cli_words.proofs.division.value_of_option.Goals as goal

pub returns-then-eq : goal.returns-then-eq
returns-then-eq c =
    let same = sym c.eq.ensures ∙ c.if-eq.true in
    sym (sym c.loop-option.invariant
    ∙ value_of-here c.args.name.now c.args.options.now c.loop-option.option-index c.option-item.result
    (omega arith) c.option-item.is (rw c.as_str.ensures at same))

pub loop-option-preserved : goal.loop-option-preserved
loop-option-preserved c =
    let other = sym c.eq.ensures ∙ c.if-eq.false in
    sym (value_of-later c.args.name.now c.args.options.now c.loop-option.option-index c.option-item.result
    (omega arith) c.option-item.is (rw c.as_str.ensures at other)) ∙ c.loop-option.invariant

pub returns : goal.returns
returns c = sym (sym c.loop-option.invariant
    ∙ value_of-end c.args.name.now c.args.options.now c.loop-option.option-index (drop_all c.loop-option.option-index c.args.options.now (omega arith)))
