use Rattle.std.specs.Prelude.{length}
use Rattle.std.specs.Int.{w16, to_le_bytes}
use Rattle.spec_formats.proofs.Appends.{three_parts}
use Rattle.port_device.proofs.persistent.put_head.Goals as goal

pub returns-clause-ok : goal.returns-clause-ok
returns-clause-ok c = three_parts c.args.out.now (to_le_bytes w16 c.args.ams_port) (to_le_bytes w16 (length c.args.name.now)) c.args.name.now
    c.put16.new.out c.put16-2.new.out c.put.new.self c.in_ok-put16.ensures.ok c.in_ok-put16-2.ensures.ok c.in_ok-put.ensures.ok
