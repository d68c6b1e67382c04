use Rattle.std.proofs.Common.{◌≡◌, ◌+◌, drop, true, false, sym, ap, ◌∙◌, arith}
use Rattle.std.proofs.lemmas.List.{drop_all, take_rest}
use Rattle.cli_words.specs.declared.division.OptionWord.{OptionWord}
use Rattle.cli_words.specs.Forms.{may_stand, options_of}
use Rattle.cli_words.proofs.OptionLemmas.{are_among-off, are_among-more, are_among-end}
use Rattle.cli_words.proofs.read.are_among.Goals as goal

pub returns-then-not-may_stand : goal.returns-then-not-may_stand
returns-then-not-may_stand c =
    let option = c.index-options-at.result in
    let name_is : c.as_str.result.now ≡ option.name = c.as_str.ensures ∙ ap (λ (o : OptionWord). o.name) (sym c.index-options-at.is) in
    let off : may_stand (options_of c.args.form) option.name (drop (c.loop-at.at + 1) c.args.options.now) ≡ false =
    sym (rw (take_rest, name_is) at c.if-not-may_stand.ensures) in
    sym (sym c.loop-at.invariant ∙ are_among-off (options_of c.args.form) c.args.options.now c.loop-at.at option (omega arith) c.index-options-at.is off)

pub loop-at-preserved : goal.loop-at-preserved
loop-at-preserved c =
    let option = c.index-options-at.result in
    let name_is : c.as_str.result.now ≡ option.name = c.as_str.ensures ∙ ap (λ (o : OptionWord). o.name) (sym c.index-options-at.is) in
    let stands : may_stand (options_of c.args.form) option.name (drop (c.loop-at.at + 1) c.args.options.now) ≡ true =
    sym (rw (take_rest, name_is) at c.if-not-may_stand.ensures) in
    sym (are_among-more (options_of c.args.form) c.args.options.now c.loop-at.at option (omega arith) c.index-options-at.is stands) ∙ c.loop-at.invariant

pub returns : goal.returns
returns c = sym (sym c.loop-at.invariant
    ∙ are_among-end (options_of c.args.form) (drop c.loop-at.at c.args.options.now) (drop_all c.loop-at.at c.args.options.now (omega arith)))
