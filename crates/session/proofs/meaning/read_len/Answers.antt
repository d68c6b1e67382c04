use Rattle.std.proofs.Common.{sym, ◌∙◌}
use Rattle.session.proofs.MeaningLemmas.{read-strict, read-wide}
use Rattle.session.proofs.meaning.read_len.Goals as goal

pub returns-then-not-is_wide : goal.returns-then-not-is_wide
returns-then-not-is_wide c = λ a asks.
    read-strict a c.args.port.now c.args.handles.now c.args.asked.now.group c.args.asked.now.offset c.args.asked.now.len asks
    (sym c.is_wide.ensures ∙ c.if-not-is_wide.true)

pub returns : goal.returns
returns c = λ a asks.
    read-wide a c.args.port.now c.args.handles.now c.args.asked.now.group c.args.asked.now.offset c.args.asked.now.len c.held_len.result asks
    (sym c.is_wide.ensures ∙ c.if-not-is_wide.false) (c.held_len.ensures a c.args.port.now c.number.ensures asks)
