-- The symbols of the table are those of the port.
use Rattle.std.proofs.Common.{◌≡◌, List, map, ◌∙◌, ap, subst}
use Rattle.type_layout.specs.Descriptions.{area_of}
use Rattle.symbol_table.specs.Ranges.{AreInRange}
use Rattle.symbol_table.specs.Rows.{symbols_of_rows}
use Rattle.symbol_table.specs.Tables.{TableSymbol, SymbolTable, table_symbol}
use Rattle.symbol_table.proofs.PlantRanges.{stand_in}
use Rattle.symbol_table.proofs.table.Table.symbols_in.Goals as goal

pub returns-clause-plant : goal.returns-clause-plant
returns-clause-plant c = λ types port is_of.
    let P : List TableSymbol → Type 0 = λ all. AreInRange all (area_of c.args.area) c.args.«at» c.args.len c.numbers_in.result.now in
    let same : symbols_of_rows c.as_slice.result.now ≡ map (table_symbol types) port.symbols
    = ap symbols_of_rows c.as_slice.ensures.value ∙ ap (λ (t : SymbolTable). t.symbols) (c.self.view_is ∙ is_of.same) in
    stand_in types port.symbols (area_of c.args.area) c.args.«at» c.args.len c.numbers_in.result.now (subst P same c.numbers_in.ensures)
