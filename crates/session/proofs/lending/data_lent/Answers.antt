use Rattle.std.proofs.Common.{◌∙◌}
use Rattle.session.proofs.LendLemmas.{lent-read, lent-len}
use Rattle.session.proofs.lending.data_lent.Goals as goal

pub returns-in-Ok-Bytes-clause-gives : goal.returns-in-Ok-Bytes-clause-gives
returns-in-Ok-Bytes-clause-gives c = λ a kept asks.
    let x = c.in-Ok-Bytes in
    lent-read a c.args.port.now kept c.args.group c.args.offset c.args.len _ x.field-0 x.area x.«at» x.len c.lent.result.now asks
    c.if-group-ne-PROCESS_BYTES.false c.sizes.ensures x.field-0-is x.ensures.rule c.lent.ensures.bytes

pub returns-in-Ok-Bytes-clause-len : goal.returns-in-Ok-Bytes-clause-len
returns-in-Ok-Bytes-clause-len c =
    let x = c.in-Ok-Bytes in
    c.lent.ensures.len ∙ lent-len c.args.offset c.args.len _ x.field-0 x.area x.«at» x.len x.field-0-is x.ensures.rule
