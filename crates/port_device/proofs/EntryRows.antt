-- The rows of a table, and their entries one after another.
use Rattle.std.proofs.Common.{◌≡◌, ℕ, ◌≤◌, List, [], ◌∷◌, ◌++◌, length, get_or, map, true, refl, sym, ◌∙◌, ap, subst}
use Rattle.std.specs.Prelude.{Some, nat_le, ◌+◌, ◌&&◌, slice_get, option_map, Result, Ok, Err, OnOk}
use Rattle.std.specs.List.{All, list_all}
use Rattle.std.proofs.lemmas.Bool.{and_parts, leb-true}
use Rattle.std.proofs.lemmas.Option.{slice_get-get_or, slice_get-map}
use Rattle.ads_base.specs.declared.no_memory.NoMemory.{NoMemory}
use Rattle.spec_plant.specs.Listed.{NamedType}
use Rattle.spec_plant.specs.Description.{Symbol, size_in}
use Rattle.spec_plant.specs.World.{plant_symbol}
use Rattle.spec_plant.specs.AcceptedTypes.{is_shape, is_small_shape, LIMIT}
use Rattle.spec_plant.specs.Accepted.{size_of_symbol}
use Rattle.spec_plant.proofs.TypeLemmas.{list_all-get}
use Rattle.spec_formats.specs.SymbolEntry.{upload_bytes}
use Rattle.spec_machine.specs.Manner.{Manner}
use Rattle.spec_machine.specs.Entries.{entry_of_symbol}
use Rattle.type_upload.proofs.TextLengths.{text-short}
use Rattle.symbol_table.specs.Tables.{TableSymbol, SymbolTable, declared, is_placed, is_typed, IsTableWith}
use Rattle.symbol_table.specs.Rows.{symbol_of_row, symbols_of_rows, IsSizedRow}
use Rattle.symbol_table.specs.declared.row.SymbolRow.{SymbolRow}
use Rattle.port_device.specs.Rows.{row_bytes, rows_bytes, IsEntryRow}
use Rattle.port_device.specs.Uploads.{symbols_upload, has_short_texts}
use Rattle.port_device.proofs.UploadLengths.{described_symbols}

-- the type of a symbol of the table is an accepted one
pub shape_accepted : (types : List NamedType) (table : SymbolTable) (k : ℕ) (s : TableSymbol) → IsTableWith types table → slice_get table.symbols k ≡ Some s
    → is_shape types s.shape ≡ true
shape_accepted types table k s with_ there =
    let port = with_.port in
    let same = described_symbols types port table with_.is_of.same in
    let at_ : slice_get port.symbols k ≡ Some (declared s)
    = ap (λ (ss : List Symbol). slice_get ss k) (sym same) ∙ slice_get-map declared table.symbols k ∙ ap (option_map declared) there in
    let placed = list_all-get (is_placed types port.sizes) port.symbols k (declared s) with_.is_of.placed.each at_ in
    let typed = and_parts (is_typed types (declared s)) (nat_le (s.offset + size_of_symbol types (declared s)) (size_in port.sizes s.area)) placed in
    let small = and_parts (is_shape types s.shape && is_small_shape s.shape) (nat_le (size_of_symbol types (declared s)) LIMIT) typed.0 in
    (and_parts (is_shape types s.shape) (is_small_shape s.shape) small.0).0

pub short_texts_at : (table : SymbolTable) (k : ℕ) (s : TableSymbol) → list_all has_short_texts table.symbols ≡ true → slice_get table.symbols k ≡ Some s
    → (length s.name ≤ 255) × (length s.comment ≤ 255)
short_texts_at table k s texts there =
    let short = and_parts (nat_le (length s.name) 255) (nat_le (length s.comment) 255) (list_all-get has_short_texts table.symbols k s texts there) in
    (leb-true (length s.name) 255 short.0, leb-true (length s.comment) 255 short.1)

-- each row is one whose entry can be written
pub entry_rows : (types : List NamedType) (table : SymbolTable) (rows : List SymbolRow) → symbols_of_rows rows ≡ table.symbols → IsTableWith types table
    → list_all has_short_texts table.symbols ≡ true → All (IsSizedRow types) rows → All (IsEntryRow types) rows
entry_rows types table rows same with_ texts sized k d below =
    let row = get_or rows k d in
    let there : slice_get table.symbols k ≡ Some (symbol_of_row row)
    = ap (λ (ss : List TableSymbol). slice_get ss k) (sym same) ∙ slice_get-map symbol_of_row rows k
    ∙ ap (option_map symbol_of_row) (slice_get-get_or rows k d below) in
    let short = short_texts_at table k (symbol_of_row row) texts there in
    let own = sized k d below in
    record {
      sized = own;
      short_name = short.0;
      short_type = text-short types types (symbol_of_row row).shape with_.is_of.placed.types
          (shape_accepted types table k (symbol_of_row row) with_ there) own.sized.named;
      short_comment = short.1;
    }

rows-entries : (x : Manner) (types : List NamedType) (rows : List SymbolRow)
    → rows_bytes x types rows ≡ upload_bytes (map (entry_of_symbol x) (map (plant_symbol types) (map declared (symbols_of_rows rows))))
rows-entries x types [] = refl
rows-entries x types (r ∷ rows) = ap (λ bs. row_bytes x types r ++ bs) (rows-entries x types rows)

-- the entries of all rows are the upload
pub rows_are_upload : (x : Manner) (types : List NamedType) (table : SymbolTable) (rows : List SymbolRow) → symbols_of_rows rows ≡ table.symbols
    → rows_bytes x types rows ≡ symbols_upload x types table
rows_are_upload x types table rows same =
    rows-entries x types rows ∙ ap (λ (ss : List TableSymbol). upload_bytes (map (entry_of_symbol x) (map (plant_symbol types) (map declared ss)))) same

-- what is appended, by another name, and kept where memory sufficed
pub put_as : (r put : Result (Unit {0}) NoMemory) (old mid new xs ys : List ℕ) → r ≡ put → xs ≡ ys
    → OnOk put (mid ≡ old ++ xs) → OnOk put (new ≡ mid) → OnOk r (new ≡ old ++ ys)
put_as r (Ok done) old mid new xs ys is e appended kept =
    let P : Result (Unit {0}) NoMemory → Type 0 = λ x. OnOk x (new ≡ old ++ ys) in
    subst P (sym is) (kept ∙ appended ∙ ap (λ bs. old ++ bs) e)
put_as r (Err no_memory) old mid new xs ys is e appended kept =
    let P : Result (Unit {0}) NoMemory → Type 0 = λ x. OnOk x (new ≡ old ++ ys) in
    subst P (sym is) tt
