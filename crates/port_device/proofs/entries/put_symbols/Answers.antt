use Rattle.type_layout.specs.NamedTypes.{types_of}
use Rattle.port_device.specs.Manners.{manner_of}
use Rattle.port_device.specs.Rows.{rows_bytes}
use Rattle.port_device.specs.Uploads.{symbols_upload}
use Rattle.port_device.proofs.EntryRows.{entry_rows, rows_are_upload, put_as}
use Rattle.port_device.proofs.entries.put_symbols.Goals as goal

pub append_rows-put-requires-clause-rows : goal.append_rows-put-requires-clause-rows
append_rows-put-requires-clause-rows c =
    let types = types_of c.args.types.now in
    entry_rows types c.args.table.now c.symbols.result.now c.symbols.ensures.rows c.requires.table c.requires.texts
    (c.symbols.ensures.sized types c.requires.table)

pub returns-clause-ok : goal.returns-clause-ok
returns-clause-ok c =
    let types = types_of c.args.types.now in
    let x = manner_of c.args.manner in
    put_as c.cut_back.result c.append_rows-put.result c.args.out.now c.append_rows-put.new.out c.cut_back.new.self
    (rows_bytes x types c.symbols.result.now) (symbols_upload x types c.args.table.now) c.cut_back.ensures.answer
    (rows_are_upload x types c.args.table.now c.symbols.result.now c.symbols.ensures.rows) c.append_rows-put.ensures.ok c.cut_back.ensures.ok
