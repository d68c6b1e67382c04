use Rattle.std.proofs.Common.{ap}
use Rattle.spec_plant.specs.Entries.{upload_size}
use Rattle.symbol_table.specs.Rows.{declared_by_rows}
use Rattle.type_layout.specs.NamedTypes.{types_of}
use Rattle.port_device.specs.Uploads.{described}
use Rattle.port_device.proofs.UploadLengths.{counted_as, rows_described}
use Rattle.port_device.proofs.counting.symbols_size.Goals as goal

pub rows_size-requires-clause-sized : goal.rows_size-requires-clause-sized
rows_size-requires-clause-sized c = c.symbols.ensures.sized (types_of c.args.types.now) c.requires.table

pub returns : goal.returns
returns c =
    let types = types_of c.args.types.now in
    let rows = c.symbols.result.now in
    counted_as c.rows_size.result (upload_size types (declared_by_rows rows)) (upload_size types (described c.args.table.now))
    (ap (upload_size types) (rows_described rows c.args.table.now c.symbols.ensures.rows)) c.rows_size.ensures
