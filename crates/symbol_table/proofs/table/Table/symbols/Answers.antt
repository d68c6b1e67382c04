-- The rows are those of the port's symbols.
use Rattle.std.proofs.Common.{◌≡◌, ◌∙◌, ap}
use Rattle.symbol_table.specs.Rows.{symbols_of_rows}
use Rattle.symbol_table.specs.Tables.{SymbolTable}
use Rattle.symbol_table.proofs.DeclaredRows.{rows_declared, rows_sized}
use Rattle.symbol_table.proofs.table.Table.symbols.Goals as goal

pub returns-clause-declared : goal.returns-clause-declared
returns-clause-declared c = λ types port is_of.
    rows_declared types port c.args.self.now c.as_slice.result.now
    (ap symbols_of_rows c.as_slice.ensures.value ∙ ap (λ (t : SymbolTable). t.symbols) c.self.view_is) is_of

pub returns-clause-sized : goal.returns-clause-sized
returns-clause-sized c = λ types with_.
    rows_sized types c.args.self.now c.as_slice.result.now
    (ap symbols_of_rows c.as_slice.ensures.value ∙ ap (λ (t : SymbolTable). t.symbols) c.self.view_is) with_
