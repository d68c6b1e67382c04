-- A row that is read by its index in the order of places.
use Rattle.std.proofs.Common.{◌≡◌, ℕ, ◌<◌, List, length, get_or, sym, ◌∙◌, ap, arith}
use Rattle.std.specs.Prelude.{Some, slice_get}
use Rattle.std.specs.List.{All}
use Rattle.std.proofs.lemmas.List.{length-map}
use Rattle.std.proofs.lemmas.Option.{slice_get-get_or}
use Rattle.type_layout.proofs.Places.{read_at}
use Rattle.symbol_table.specs.Tables.{TableSymbol, SymbolTable}
use Rattle.symbol_table.specs.declared.row.SymbolRow.{SymbolRow}
use Rattle.symbol_table.specs.Rows.{symbol_of_row, symbols_of_rows}

-- the number at an index, and the symbol with this number
pub record StandsAt (rows : List SymbolRow) (numbers : List ℕ) (i number : ℕ) (row : SymbolRow) : Type 0 where
  pub listed : slice_get numbers i ≡ Some number
  pub there : slice_get (symbols_of_rows rows) number ≡ Some (symbol_of_row row)

pub stands_at : (rows : List SymbolRow) (numbers : List ℕ) (i : ℕ) (row : SymbolRow)
    → All (λ n. n < length (symbols_of_rows rows)) numbers → i < length numbers → row ≡ get_or rows (get_or numbers i 0) row
    → StandsAt rows numbers i (get_or numbers i 0) row
stands_at rows numbers i row each below read =
    let within : get_or numbers i 0 < length rows = rw length-map at (each i 0 below) in
    record {
      listed = slice_get-get_or numbers i 0 below;
      there = read_at symbol_of_row rows (get_or numbers i 0) row within read;
    }

-- a row that is read by its number, in the table whose rows they are
pub row_there : (table : SymbolTable) (rows : List SymbolRow) (number : ℕ) (row : SymbolRow)
    → symbols_of_rows rows ≡ table.symbols → number < length table.symbols
    → row ≡ get_or rows number row → slice_get table.symbols number ≡ Some (symbol_of_row row)
row_there table rows number row same below read =
    let count : length table.symbols ≡ length rows = ap (λ (ss : List TableSymbol). length ss) (sym same) ∙ length-map rows symbol_of_row in
    let within : number < length rows = omega (arith, count, below) in
    ap (λ (ss : List TableSymbol). slice_get ss number) (sym same) ∙ read_at symbol_of_row rows number row within read
