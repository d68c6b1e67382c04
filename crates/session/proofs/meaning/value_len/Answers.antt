use Rattle.std.proofs.Common.{sym, ◌∙◌}
use Rattle.session.proofs.MeaningLemmas.{value-other, value-found, value-unfound}
use Rattle.session.proofs.meaning.value_len.Goals as goal

pub returns-then-not-is_value_by_name : goal.returns-then-not-is_value_by_name
returns-then-not-is_value_by_name c = λ a kept asks.
    value-other a.asker.port c.args.group c.args.len c.args.name.now (sym c.is_value_by_name.ensures ∙ c.if-not-is_value_by_name.true)

pub returns-in-Ok : goal.returns-in-Ok
returns-in-Ok c = λ a kept asks.
    c.min.ensures
    ∙ value-found a.world a.asker.port c.args.group c.args.len c.args.name.now c.in-Ok.place
    (sym c.is_value_by_name.ensures ∙ c.if-not-is_value_by_name.false) (c.in-Ok.ensures.found a.world a.asker.port asks.held)

pub returns-in-Err : goal.returns-in-Err
returns-in-Err c = λ a kept asks.
    value-unfound a.world a.asker.port c.args.group c.args.len c.args.name.now c.in-Err._code
    (sym c.is_value_by_name.ensures ∙ c.if-not-is_value_by_name.false) (c.in-Err.ensures.found a.world a.asker.port asks.held)
