use Rattle.port_device.specs.PersistentRows.{ports_entries}
use Rattle.port_device.proofs.PersistentLemmas.{body-text}
use Rattle.port_device.proofs.persistent.append_body.Goals as goal

pub returns-clause-ok : goal.returns-clause-ok
returns-clause-ok c = body-text c.append_ports.result (ports_entries c.args.ports.now) c.count_all.result c.args.out.now c.put32.new.out c.append_ports.new.out
    c.count_all.ensures.count c.in_ok-put32.ensures.ok c.append_ports.ensures.ok
