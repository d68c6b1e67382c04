use Rattle.std.proofs.Common.{sym, ◌∙◌}
use Rattle.std.specs.Prelude.{Ok, Err}
use Rattle.session.proofs.ValueLemmas.{looked-by}
use Rattle.session.proofs.MeaningLemmas.{len-other, len-held, len-unheld}
use Rattle.session.proofs.meaning.held_len.Goals as goal

pub returns-then-not-is_value_by_handle : goal.returns-then-not-is_value_by_handle
returns-then-not-is_value_by_handle c = λ a port is asks.
    let x = c.args.asked.now in
    len-other a.client a.asker.port x.group x.offset x.len (sym c.is_value_by_handle.ensures ∙ c.if-not-is_value_by_handle.true)

pub returns-in-Ok : goal.returns-in-Ok
returns-in-Ok c = λ a port is asks.
    let x = c.args.asked.now in
    c.min.ensures
    ∙ len-held a x.group x.offset x.len c.in-Ok.place (sym c.is_value_by_handle.ensures ∙ c.if-not-is_value_by_handle.false)
    (looked-by a port c.args.handles.now c.args.ams_port x.offset (Ok c.in-Ok.place) asks is c.in-Ok.ensures.looks)

pub returns-in-Err : goal.returns-in-Err
returns-in-Err c = λ a port is asks.
    let x = c.args.asked.now in
    len-unheld a x.group x.offset x.len c.in-Err._code (sym c.is_value_by_handle.ensures ∙ c.if-not-is_value_by_handle.false)
    (looked-by a port c.args.handles.now c.args.ams_port x.offset (Err c.in-Err._code) asks is c.in-Err.ensures.looks)
