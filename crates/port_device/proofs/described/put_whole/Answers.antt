use Rattle.std.proofs.Common.{◌≤◌, refl, sym, arith}
use Rattle.spec_formats.specs.SymbolEntry.{entry_bytes, entry_len}
use Rattle.symbol_info.specs.Entry.{entry_meant}
use Rattle.port_device.proofs.UploadLengths.{length-entry_bytes}
use Rattle.port_device.proofs.UploadReads.{fixed_given}
use Rattle.port_device.proofs.described.put_whole.Goals as goal

pub returns-clause-answer : goal.returns-clause-answer
returns-clause-answer c = λ w.
    let e = entry_meant c.args.entry.now in
    let few : entry_len e ≤ c.args.len = omega (arith, c.if-size-len.false) in
    fixed_given w c.args.len (entry_len e) (entry_bytes e) (entry_bytes e) c.args.out.now c.put_entry.new.out (sym (length-entry_bytes e)) few refl
    c.in_ok-put_entry.ensures.ok
