-- Rows of tables, what their symbols begin with after a reload, and that this makes the reloaded image.
use Rattle.std.proofs.Common.{◌≡◌, ◌≢◌, ℕ, ◌+◌, ◌≤◌, List, [], ◌∷◌, map, length, drop, get_or, true, false}
use Rattle.std.proofs.Common.{refl, sym, ◌∙◌, ap, subst, inl, inr, arith, length-drop}
use Rattle.std.specs.Prelude.{Bool, Some, None, slice_get, option_map, find, if◌then◌else◌, ◌&&◌, nat_le, nat_lt}
use Rattle.std.specs.List.{All, position, position_or_len}
use Rattle.std.proofs.lemmas.Bool.{cases_Bool, and_parts, ltb-false}
use Rattle.std.proofs.lemmas.List.Quantifiers.{position-Some}
use Rattle.std.proofs.lemmas.List.{length-take-le, length-map}
use Rattle.std.proofs.lemmas.List.Folds.{find_at}
use Rattle.std.proofs.lemmas.Option.{slice_get-map, slice_get-get_or, slice_get_past, slice_get_within, get_or_from_slice_get}
use Rattle.spec_plant.specs.Listed.{NamedType}
use Rattle.spec_plant.specs.Description.{Area, Sizes, Symbol, Port, size_in}
use Rattle.spec_plant.specs.Trees.{tree_of}
use Rattle.spec_plant.specs.Sizes.{type_size}
use Rattle.spec_plant.specs.AcceptedTypes.{LIMIT, is_shape, is_small_shape}
use Rattle.spec_plant.specs.Accepted.{size_of_symbol, image_size}
use Rattle.spec_plant.proofs.SameSizes.{same_type-size}
use Rattle.spec_plant.proofs.TypeLemmas.{list_all-get}
use Rattle.spec_machine.specs.PortBytes.{start_in, image_bytes}
use Rattle.spec_machine.proofs.ImageLemmas.{area_within}
use Rattle.symbol_table.specs.Tables.{TableSymbol, SymbolTable, table_symbol, is_typed, is_placed, IsPlaced, IsTableWith, is_called, number_called}
use Rattle.symbol_table.specs.Rows.{symbol_of_row, symbols_of_rows}
use Rattle.symbol_table.specs.declared.row.SymbolRow.{SymbolRow}
use Rattle.symbol_table.proofs.PlacesInOrder.{mapped_at}
use Rattle.symbol_table.proofs.PlacedSymbols.{sound_symbol}
use Rattle.port_device.specs.PortMemory.{PortMemory}
use Rattle.port_device.specs.Reloaded.{symbol_called, are_of_one_type, present_bytes, bytes_behind, reloaded_bytes, reloaded_row, IsTypedRow, IsPlacedRow}
use Rattle.port_device.specs.ReloadedPorts.{BeginsWhole}
use Rattle.port_device.specs.PlacedBytes.{placed_symbol}

-- symbols of a table

-- a symbol of a type of the list, with its size
pub record IsTypedSymbol (types : List NamedType) (s : TableSymbol) : Type 0 where
  pub shape : is_shape types s.shape ≡ true
  pub size : s.size ≡ type_size (tree_of types s.shape)

typed_of : (types : List NamedType) (port : Port) (n : ℕ) (s : TableSymbol) → IsPlaced types port → slice_get (map (table_symbol types) port.symbols) n ≡ Some s
    → IsTypedSymbol types s
typed_of types port n s placed e =
    let found = mapped_at (table_symbol types) port.symbols n s e in
    let x : Symbol = found.0 in
    let is_it = list_all-get (is_placed types port.sizes) port.symbols n x placed.each found.1 in
    let typed = (and_parts (is_typed types x) (nat_le (x.offset + size_of_symbol types x) (size_in port.sizes x.area)) is_it).0 in
    let small = (and_parts (is_shape types x.shape && is_small_shape x.shape) (nat_le (size_of_symbol types x) LIMIT) typed).0 in
    subst (IsTypedSymbol types) found.2 (record { shape = (and_parts (is_shape types x.shape) (is_small_shape x.shape) small).0; size = refl })

pub typed_symbol : (types : List NamedType) (table : SymbolTable) (n : ℕ) (s : TableSymbol) → IsTableWith types table → slice_get table.symbols n ≡ Some s
    → IsTypedSymbol types s
typed_symbol types table n s with_ e =
    typed_of types with_.port n s with_.is_of.placed (ap (λ (t : SymbolTable). slice_get t.symbols n) (sym with_.is_of.same) ∙ e)

-- the row at a place is the symbol there
pub row-symbol : (rows : List SymbolRow) (symbols : List TableSymbol) (n : ℕ) (r : SymbolRow) → symbols_of_rows rows ≡ symbols → slice_get rows n ≡ Some r
    → slice_get symbols n ≡ Some (symbol_of_row r)
row-symbol rows symbols n r same e =
    ap (λ (ss : List TableSymbol). slice_get ss n) (sym same) ∙ slice_get-map symbol_of_row rows n ∙ ap (option_map symbol_of_row) e

pub typed_row : (types : List NamedType) (table : SymbolTable) (rows : List SymbolRow) (n : ℕ) (r : SymbolRow) → IsTableWith types table
    → symbols_of_rows rows ≡ table.symbols → slice_get rows n ≡ Some r → IsTypedRow types r
typed_row types table rows n r with_ same e =
    let typed = typed_symbol types table n (symbol_of_row r) with_ (row-symbol rows table.symbols n r same e) in
    record { shape = typed.shape; size = typed.size }

pub typed_rows : (types : List NamedType) (table : SymbolTable) (rows : List SymbolRow) → IsTableWith types table → symbols_of_rows rows ≡ table.symbols
    → All (IsTypedRow types) rows
typed_rows types table rows with_ same k d below = typed_row types table rows k _ with_ same (slice_get-get_or rows k d below)

-- a row lies in its area
pub row_within : (types : List NamedType) (table : SymbolTable) (rows : List SymbolRow) (n : ℕ) (r : SymbolRow) → IsTableWith types table
    → symbols_of_rows rows ≡ table.symbols → slice_get rows n ≡ Some r → (symbol_of_row r).offset + r.len ≤ size_in table.sizes (symbol_of_row r).area
row_within types table rows n r with_ same e = (sound_symbol types table n (symbol_of_row r) with_ (row-symbol rows table.symbols n r same e)).within

-- as many bytes of an area as were asked for
pub length-image_bytes : (sizes : Sizes) (image : List ℕ) (area : Area) (offset len : ℕ) → length image ≡ image_size sizes → offset + len ≤ size_in sizes area
    → length (image_bytes sizes image area offset len) ≡ len
length-image_bytes sizes image area offset len long within =
    let whole = area_within sizes area in
    let rest = length-drop (start_in sizes area + offset) image in
    length-take-le len (drop (start_in sizes area + offset) image) (omega (arith, rest, whole, long, within))

-- the symbol with a name, by its number

pub found-number : {X : Type 0} (test : X → Bool) (xs : List X) (n : ℕ) → position test xs ≡ Some n → find test xs ≡ slice_get xs n
found-number {X} test xs n e =
    elim (cases_Bool (nat_lt (position_or_len test xs) (length xs))) [
      | inl t ↦ let f : Some (position_or_len test xs) ≡ Some n = rw t at e in
          let same : position_or_len test xs ≡ n = cc in find_at test xs ∙ ap (slice_get xs) same
      | inr t ↦ let f : None ≡ Some n = rw t at e in cc
    ]

pub found-no_number : {X : Type 0} (test : X → Bool) (xs : List X) → position test xs ≡ None → find test xs ≡ None
found-no_number {X} test xs e =
    elim (cases_Bool (nat_lt (position_or_len test xs) (length xs))) [
      | inl t ↦ let f : Some (position_or_len test xs) ≡ None = rw t at e in cc
      | inr t ↦ find_at test xs ∙ slice_get_past xs (position_or_len test xs) (ltb-false (position_or_len test xs) (length xs) t)
    ]

pub called-number : (name : List ℕ) (symbols : List TableSymbol) (n : ℕ)
    → number_called name symbols ≡ Some n → symbol_called name symbols ≡ slice_get symbols n
called-number name symbols n e = found-number (is_called name) symbols n e

pub called-none : (name : List ℕ) (symbols : List TableSymbol) → number_called name symbols ≡ None → symbol_called name symbols ≡ None
called-none name symbols e = found-no_number (is_called name) symbols e

-- the row that was read by the number of a name
pub row_called : (rows : List SymbolRow) (symbols : List TableSymbol) (name : List ℕ) (n : ℕ) (r : SymbolRow) → symbols_of_rows rows ≡ symbols
    → number_called name symbols ≡ Some n → r ≡ get_or rows n r → slice_get rows n ≡ Some r
row_called rows symbols name n r same e is =
    let d : TableSymbol = symbol_of_row r in
    let below = (position-Some (is_called name) symbols n d e).0 in
    let many : length rows ≡ length symbols = sym (length-map rows symbol_of_row) ∙ ap length same in
    slice_get-get_or rows n r (omega (arith, below, many)) ∙ ap (λ x. Some x) (sym is)

-- what a symbol begins with, told by the row of its name
pub reloaded-none : (types : List NamedType) (m : PortMemory) (t : TableSymbol)
    → symbol_called t.name m.table.symbols ≡ None → reloaded_bytes types m t ≡ t.initial
reloaded-none types m t e = ap (bytes_behind types m t) e

pub reloaded-some : (types : List NamedType) (m : PortMemory) (s t : TableSymbol) (same : Bool) → symbol_called t.name m.table.symbols ≡ Some s
    → are_of_one_type m.types types s t ≡ same → reloaded_bytes types m t ≡ (if same then present_bytes m s else t.initial)
reloaded-some types m s t same e f = ap (bytes_behind types m t) e ∙ ap (λ b. if b then present_bytes m s else t.initial) f

-- symbols of two sizes have two types
pub one_type-size : (before types : List NamedType) (r s : SymbolRow) → IsTypedRow before r → IsTypedRow types s
    → are_of_one_type before types (symbol_of_row r) (symbol_of_row s) ≡ true → r.len ≡ s.len
one_type-size before types r s a b e =
    a.size ∙ same_type-size (tree_of before (symbol_of_row r).shape) (tree_of types (symbol_of_row s).shape) e ∙ sym b.size

pub two_sizes : (before types : List NamedType) (r s : SymbolRow) → IsTypedRow before r → IsTypedRow types s → r.len ≢ s.len
    → are_of_one_type before types (symbol_of_row r) (symbol_of_row s) ≡ false
two_sizes before types r s a b e =
    elim (cases_Bool (are_of_one_type before types (symbol_of_row r) (symbol_of_row s))) [
      | inr f ↦ f
      | inl t ↦ absurd (e (one_type-size before types r s a b t))
    ]

-- rows that begin with as many bytes as they have lie in their areas
pub placed_rows : (types : List NamedType) (table : SymbolTable) (rows : List SymbolRow) → IsTableWith types table → All BeginsWhole table.symbols
    → symbols_of_rows rows ≡ table.symbols → All (IsPlacedRow table.sizes) rows
placed_rows types table rows with_ whole same k d below =
    let r = get_or rows k d in
    let there = slice_get-get_or rows k d below in
    let symbol = row-symbol rows table.symbols k r same there in
    let begins = whole k (symbol_of_row r) (slice_get_within table.symbols k (symbol_of_row r) symbol) in
    record {
      initial = subst BeginsWhole (get_or_from_slice_get table.symbols k (symbol_of_row r) (symbol_of_row r) symbol) begins;
      within = row_within types table rows k r with_ same there;
    }

-- what is put of rows is put of their symbols
pub reloaded-rows : (types : List NamedType) (was : PortMemory) (rows : List SymbolRow)
    → map (reloaded_row types was) rows ≡ map (placed_symbol (reloaded_bytes types was)) (symbols_of_rows rows)
reloaded-rows types was [] = refl
reloaded-rows types was (r ∷ rows) = ap (λ bs. reloaded_row types was r ∷ bs) (reloaded-rows types was rows)
