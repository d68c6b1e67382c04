-- The rows of a table are the symbols of its port.
use Rattle.std.proofs.Common.{◌≡◌, ℕ, List, [], ◌∷◌, map, length, get_or, refl, sym, ◌∙◌, ap}
use Rattle.std.specs.Prelude.{Some, slice_get, option_map}
use Rattle.std.specs.List.{All}
use Rattle.std.proofs.lemmas.Option.{slice_get-get_or, slice_get-map}
use Rattle.spec_plant.specs.Listed.{NamedType}
use Rattle.spec_plant.specs.Description.{Symbol, Port}
use Rattle.symbol_table.specs.Tables.{TableSymbol, SymbolTable, table_symbol, declared, IsTableOf, IsTableWith}
use Rattle.symbol_table.specs.Rows.{symbol_of_row, symbols_of_rows, declared_by_rows, IsSizedRow}
use Rattle.symbol_table.specs.declared.row.SymbolRow.{SymbolRow}
use Rattle.symbol_table.proofs.PlacedSymbols.{sound_symbol}

declared-table : (types : List NamedType) (symbols : List Symbol) → map declared (map (table_symbol types) symbols) ≡ symbols
declared-table types [] = refl
declared-table types (s ∷ symbols) = ap (λ rest. s ∷ rest) (declared-table types symbols)

declared-rows : (rows : List SymbolRow) → declared_by_rows rows ≡ map declared (symbols_of_rows rows)
declared-rows [] = refl
declared-rows (r ∷ rows) = ap (λ rest. declared (symbol_of_row r) ∷ rest) (declared-rows rows)

pub rows_declared : (types : List NamedType) (port : Port) (table : SymbolTable) (rows : List SymbolRow)
    → symbols_of_rows rows ≡ table.symbols → IsTableOf types port table → declared_by_rows rows ≡ port.symbols
rows_declared types port table rows same is_of =
    declared-rows rows ∙ ap (map declared) (same ∙ ap (λ (t : SymbolTable). t.symbols) is_of.same) ∙ declared-table types port.symbols

pub rows_sized : (types : List NamedType) (table : SymbolTable) (rows : List SymbolRow)
    → symbols_of_rows rows ≡ table.symbols → IsTableWith types table → All (IsSizedRow types) rows
rows_sized types table rows same with_ k d below =
    let row = get_or rows k d in
    let there : slice_get table.symbols k ≡ Some (symbol_of_row row)
    = ap (λ (ss : List TableSymbol). slice_get ss k) (sym same) ∙ slice_get-map symbol_of_row rows k
    ∙ ap (option_map symbol_of_row) (slice_get-get_or rows k d below) in
    let sound = sound_symbol types table k (symbol_of_row row) with_ there in
    record { sized = sound.sized; size = sound.size_is }
