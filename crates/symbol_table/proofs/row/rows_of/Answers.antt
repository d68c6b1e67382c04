-- Each symbol's type is accepted.
use Rattle.spec_plant.proofs.TypeLemmas.{list_all-get}
use Rattle.type_layout.proofs.Places.{read_at}
use Rattle.type_layout.specs.NamedTypes.{types_of}
use Rattle.type_layout.specs.Descriptions.{symbol_of, symbols_of}
use Rattle.symbol_table.specs.Tables.{is_typed}
use Rattle.symbol_table.proofs.row.rows_of.Goals as goal

pub row_of-requires-clause-typed : goal.row_of-requires-clause-typed
row_of-requires-clause-typed c =
    let symbols = c.args.symbols.now in
    list_all-get (is_typed (types_of c.args.types.now)) (symbols_of symbols) c.loop-symbol.symbol-index (symbol_of c.symbol-item.result) c.requires.each
    (read_at symbol_of symbols c.loop-symbol.symbol-index c.symbol-item.result c.loop-symbol-test.true c.symbol-item.is)
