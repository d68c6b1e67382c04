-- The index of names.
use Rattle.std.proofs.Common.{◌∙◌, ap, map}
use Rattle.name_index.proofs.CallerLemmas.{first_called-map}
use Rattle.symbol_table.specs.Names.{name_of_symbol}
use Rattle.symbol_table.specs.Rows.{symbols_of_rows}
use Rattle.symbol_table.specs.Tables.{SymbolTable, number_called}
use Rattle.symbol_table.proofs.table.Table.named.Goals as goal

pub returns : goal.returns
returns c =
    let symbols = symbols_of_rows c.self.inside.rows.items in
    c.find.ensures (map name_of_symbol symbols) c.self.invariant.names_are ∙ first_called-map name_of_symbol symbols c.args.name.now
    ∙ ap (λ (t : SymbolTable). number_called c.args.name.now t.symbols) c.self.view_is
