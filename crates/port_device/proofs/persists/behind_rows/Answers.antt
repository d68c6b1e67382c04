use Rattle.port_device.specs.PersistentRows.{row_entries}
use Rattle.port_device.proofs.BehindLemmas.{left-none, left-some, left-end}
use Rattle.port_device.proofs.persists.behind_rows.Goals as goal

pub loop-row-preserved : goal.loop-row-preserved
loop-row-preserved c = left-some (row_entries c.args.port.now) c.args.rows.now c.loop-row.row-index c.row-item.result c.loop-row.rest.now
    c.in-Ok-Some.left.now c.args.bytes.now c.loop-row-test.true c.row-item.is c.loop-row.invariant (rw c.in-Ok-Some.field-0-is at c.in-Ok-Some.ensures)

pub returns-in-Ok-None : goal.returns-in-Ok-None
returns-in-Ok-None c = left-none (row_entries c.args.port.now) c.args.rows.now c.loop-row.row-index c.row-item.result c.loop-row.rest.now
    c.args.bytes.now c.loop-row-test.true c.row-item.is c.loop-row.invariant (rw c.in-Ok-None.field-0-is at c.in-Ok-None.ensures)

pub returns : goal.returns
returns c = left-end (row_entries c.args.port.now) c.args.rows.now c.loop-row.row-index c.loop-row.rest.now c.args.bytes.now c.loop-row-test.false
    c.loop-row.invariant
