use Rattle.std.proofs.Common.{length, get_or, sym, ◌∙◌, arith}
use Rattle.std.proofs.lemmas.Bool.{eqb-true, eqb-false, eq-eqb, ne_eqb}
use Rattle.std.proofs.lemmas.List.{take_rest}
use Rattle.session.proofs.MeaningLemmas.{stop_none, stop_other, stop_first}
use Rattle.session.proofs.meaning.behind_stop.Goals as goal

pub returns-then-is_empty : goal.returns-then-is_empty
returns-then-is_empty c = stop_none c.args.name.now (eqb-true (length c.args.name.now) 0 (sym c.is_empty.ensures ∙ c.if-is_empty.true))

pub returns-then-name-ne46 : goal.returns-then-name-ne46
returns-then-name-ne46 c =
    let some = eqb-false (length c.args.name.now) 0 (sym c.is_empty.ensures ∙ c.if-is_empty.false) in
    stop_other c.args.name.now (omega (arith, some)) (ne_eqb (get_or c.args.name.now 0 0) 46 c.if-name-ne46.true)

pub returns : goal.returns
returns c =
    let some = eqb-false (length c.args.name.now) 0 (sym c.is_empty.ensures ∙ c.if-is_empty.false) in
    rw take_rest (stop_first c.args.name.now (omega (arith, some)) (eq-eqb (get_or c.args.name.now 0 0) 46 c.if-name-ne46.false))
