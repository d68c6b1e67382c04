use Rattle.std.specs.Prelude.{◌++◌, length}
use Rattle.std.specs.Int.{w32, w64, to_le_bytes}
use Rattle.spec_formats.proofs.Appends.{two_parts, three_parts}
use Rattle.port_device.proofs.persistent.put_value.Goals as goal

pub returns-clause-ok : goal.returns-clause-ok
returns-clause-ok c =
    let form_size = to_le_bytes w64 (length c.args.form.now) in
    let size = to_le_bytes w32 (length c.args.bytes.now) in
    two_parts c.args.out.now (form_size ++ c.args.form.now ++ size) c.args.bytes.now c.put32.new.out c.put-2.new.self
    (three_parts c.args.out.now form_size c.args.form.now size c.put64.new.out c.put.new.self c.put32.new.out
    c.in_ok-put64.ensures.ok c.in_ok-put.ensures.ok c.in_ok-put32.ensures.ok) c.in_ok-put-2.ensures.ok
