use Rattle.std.proofs.Common.{ap, ◌∙◌, sym, get_or}
use Rattle.std.proofs.lemmas.List.{get_or_default}
use Rattle.description_rules.specs.NameStarts.{share_none}
use Rattle.description_rules.proofs.StartTurns.{starts_from-none, share_from-new, share_from-old, share_from-end}
use Rattle.description_rules.proofs.symbol_names.starts_with_none.Goals as goal

pub loop-i-init : goal.loop-i-init
loop-i-init c = ap (share_none c.args.texts.now) (starts_from-none c.args.text.now)

pub returns-then-not-is_new_start : goal.returns-then-not-is_new_start
returns-then-not-is_new_start c =
    let text = c.args.text.now in
    let i = c.loop-i.i in
    let x = get_or text i 0 in
    sym (share_from-old c.args.texts.now text i x _ c.loop-i-test.true (get_or_default text i 0 x c.loop-i-test.true)
    (sym c.is_new_start.ensures ∙ c.if-not-is_new_start.true) c.loop-i.invariant)

pub loop-i-preserved : goal.loop-i-preserved
loop-i-preserved c =
    let text = c.args.text.now in
    let i = c.loop-i.i in
    let x = get_or text i 0 in
    share_from-new c.args.texts.now text i x _ c.loop-i-test.true (get_or_default text i 0 x c.loop-i-test.true)
    (sym c.is_new_start.ensures ∙ c.if-not-is_new_start.false) c.loop-i.invariant

pub returns : goal.returns
returns c = c.is_new.ensures ∙ sym (share_from-end c.args.texts.now c.args.text.now c.loop-i.i _ c.loop-i-test.false c.loop-i.invariant)
