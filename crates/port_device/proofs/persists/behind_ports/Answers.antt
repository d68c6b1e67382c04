use Rattle.port_device.specs.PersistentRows.{port_entries}
use Rattle.port_device.proofs.BehindLemmas.{left-none, left-some, left-end}
use Rattle.port_device.proofs.persists.behind_ports.Goals as goal

pub loop-port-preserved : goal.loop-port-preserved
loop-port-preserved c = left-some port_entries c.args.ports.now c.loop-port.port-index c.port-item.result c.loop-port.rest.now
    c.in-Ok-Some.left.now c.args.bytes.now c.loop-port-test.true c.port-item.is c.loop-port.invariant (rw c.in-Ok-Some.field-0-is at c.in-Ok-Some.ensures)

pub returns-in-Ok-None : goal.returns-in-Ok-None
returns-in-Ok-None c = left-none port_entries c.args.ports.now c.loop-port.port-index c.port-item.result c.loop-port.rest.now
    c.args.bytes.now c.loop-port-test.true c.port-item.is c.loop-port.invariant (rw c.in-Ok-None.field-0-is at c.in-Ok-None.ensures)

pub returns : goal.returns
returns c = left-end port_entries c.args.ports.now c.loop-port.port-index c.loop-port.rest.now c.args.bytes.now c.loop-port-test.false
    c.loop-port.invariant
