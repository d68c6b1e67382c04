use Rattle.std.proofs.Common.{◌-◌, length, sym, ◌∙◌, arith}
use Rattle.std.proofs.lemmas.Bool.{eqb-true, eqb-false}
use Rattle.port_device.proofs.NameLemmas.{no_name, no_nul, nul_dropped}
use Rattle.port_device.proofs.naming.without_nul.Goals as goal

pub returns-then-is_empty : goal.returns-then-is_empty
returns-then-is_empty c = sym (no_name c.args.name.now (eqb-true (length c.args.name.now) 0 (sym c.is_empty.ensures ∙ c.if-is_empty.true)))

pub returns-then-name-last-ne0 : goal.returns-then-name-last-ne0
returns-then-name-last-ne0 c =
    let some = eqb-false (length c.args.name.now) 0 (sym c.is_empty.ensures ∙ c.if-is_empty.false) in
    sym (no_nul c.args.name.now (length c.args.name.now - 1) (omega (arith, some)) c.if-name-last-ne0.true)

pub returns : goal.returns
returns c =
    let some = eqb-false (length c.args.name.now) 0 (sym c.is_empty.ensures ∙ c.if-is_empty.false) in
    sym (nul_dropped c.args.name.now (length c.args.name.now - 1) (omega (arith, some)) c.if-name-last-ne0.false)
