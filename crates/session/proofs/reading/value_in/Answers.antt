use Rattle.std.proofs.Common.{◌+◌, ◌≤◌, arith}
use Rattle.session.proofs.DataLemmas.{place-fits, value-answered}
use Rattle.session.proofs.reading.value_in.Goals as goal

pub lent-requires : goal.lent-requires
lent-requires c =
    let within = place-fits c.args.port.now c.args.handles.now c.number.result c.args.asked.now.offset c.in-Ok.place c.requires.some c.number.ensures
    c.in-Ok.ensures.looks in
    let few = c.if-asked-place.false in
    omega (arith, within, few)

pub returns : goal.returns
returns c = λ a asks.
    let x = c.args.asked.now in
    value-answered a c.args.port.now c.args.handles.now c.number.result x.group x.offset x.len c.in-Ok.place c.lent.result.now asks c.number.ensures
    c.requires.group c.in-Ok.ensures.looks c.if-asked-place.false c.lent.ensures.bytes
