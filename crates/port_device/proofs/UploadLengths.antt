-- How many bytes an entry has, and which symbols the rows of a table are.
use Rattle.std.proofs.Common.{◌≡◌, ℕ, List, [], ◌∷◌, map, length, refl, ◌∙◌, ap, arith}
use Rattle.spec_plant.specs.Listed.{NamedType}
use Rattle.spec_plant.specs.Description.{Symbol}
use Rattle.spec_formats.specs.SymbolEntry.{SymbolEntry, entry_len, entry_bytes}
use Rattle.spec_formats.proofs.EntryLemmas.{length-entry_fields}
use Rattle.std.specs.Prelude.{Result, Ok, Err, IfOk}
use Rattle.ads_base.specs.declared.no_memory.NoMemory.{NoMemory}
use Rattle.spec_plant.specs.Description.{Port}
use Rattle.symbol_table.specs.Tables.{SymbolTable, table_symbol, table_of, declared}
use Rattle.symbol_table.specs.Rows.{symbol_of_row, symbols_of_rows, declared_by_rows}
use Rattle.symbol_table.specs.declared.row.SymbolRow.{SymbolRow}
use Rattle.port_device.specs.Uploads.{described}

pub length-entry_bytes : (e : SymbolEntry) → length (entry_bytes e) ≡ entry_len e
length-entry_bytes e = let fields = length-entry_fields e in omega (arith, fields)

-- the rows of a table

declared-rows : (rows : List SymbolRow) → declared_by_rows rows ≡ map declared (symbols_of_rows rows)
declared-rows [] = refl
declared-rows (r ∷ rows) = ap (λ rest. declared (symbol_of_row r) ∷ rest) (declared-rows rows)

pub rows_described : (rows : List SymbolRow) (table : SymbolTable) → symbols_of_rows rows ≡ table.symbols → declared_by_rows rows ≡ described table
rows_described rows table same = declared-rows rows ∙ ap (map declared) same

declared-table : (types : List NamedType) (symbols : List Symbol) → map declared (map (table_symbol types) symbols) ≡ symbols
declared-table types [] = refl
declared-table types (s ∷ symbols) = ap (λ rest. s ∷ rest) (declared-table types symbols)

-- the symbols of the port whose table it is
pub described_symbols : (types : List NamedType) (port : Port) (table : SymbolTable) → table ≡ table_of types port → described table ≡ port.symbols
described_symbols types port table same =
    ap (λ (t : SymbolTable). map declared t.symbols) same ∙ declared-table types port.symbols

-- a count that is passed on
pub counted_as : (r : Result ℕ NoMemory) (m n : ℕ) → m ≡ n → IfOk r (λ size. size ≡ m) → IfOk r (λ size. size ≡ n)
counted_as (Ok size) m n e h = h ∙ e
counted_as (Err no_memory) m n e h = h
