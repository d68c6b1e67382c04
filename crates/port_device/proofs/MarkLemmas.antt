-- Where no mark of the image is set, everybody may write.
use Rattle.std.proofs.Common.{◌≡◌, ℕ, ◌+◌, ◌/◌, ◌<◌, ◌≤◌, List, [], ◌∷◌, ◌++◌, map, length, get_or, true, false, refl, sym, ◌∙◌, ap, subst, arith}
use Rattle.std.specs.Prelude.{Bool, ◌||◌, ◌&&◌, ◌==◌, not, nat_lt, Some, All, slice_get, option_map, bytes_eq}
use Rattle.std.specs.List.{list_any}
use Rattle.std.proofs.lemmas.Bool.{false≢true, lt-ltb}
use Rattle.std.proofs.lemmas.List.{length-map}
use Rattle.std.proofs.lemmas.Option.{slice_get-map, slice_get-get_or}
use Rattle.ads_base.specs.declared.net_id.NetId.{NetId}
use Rattle.spec_plant.specs.Listed.{NamedType}
use Rattle.spec_plant.specs.Description.{Area, Sizes, Symbol}
use Rattle.spec_plant.specs.World.{PlantPort, PlantSymbol, plant_symbol}
use Rattle.spec_plant.specs.Covering.{covers}
use Rattle.spec_plant.specs.Sound.{Each}
use Rattle.spec_plant.proofs.CoveringLemmas.{stands_at}
use Rattle.spec_plant.proofs.SoundLemmas.{each-get}
use Rattle.spec_machine.specs.PortBytes.{start_in}
use Rattle.spec_machine.specs.World.{World}
use Rattle.spec_machine.specs.Writes.{is_writable_symbol}
use Rattle.spec_machine.specs.WritableBytes.{MayWriteSymbolsAt}
use Rattle.symbol_table.specs.Rows.{symbol_of_row, symbols_of_rows}
use Rattle.symbol_table.specs.Tables.{TableSymbol, SymbolTable, table_symbol, IsTableWith}
use Rattle.symbol_table.specs.declared.row.SymbolRow.{SymbolRow}
use Rattle.symbol_table.proofs.PlacesInOrder.{mapped_at}
use Rattle.port_device.specs.Holds.{HoldsPort}
use Rattle.port_device.specs.Marks.{is_guarded, is_guarded_row, is_marked, AreMarks, IsMarked, IsWithinRow, KeepsMarks}
use Rattle.port_device.specs.PortMemory.{PortMemory}
use Rattle.port_device.proofs.ReloadLemmas.{row_within}

-- one symbol more behind all others
pub marks-more : (sizes : Sizes) (old new : List Bool) (ss : List TableSymbol) (s : TableSymbol) → KeepsMarks old new → Each (IsMarked sizes old) ss
    → IsMarked sizes new s → Each (IsMarked sizes new) (ss ++ s ∷ [])
marks-more sizes old new [] s kept each marked = (marked, tt)
marks-more sizes old new (t ∷ ss) s kept each marked =
    ((λ g i from upto. kept ((start_in sizes t.area + i) / 64) (each.0 g i from upto)), marks-more sizes old new ss s kept (each.1) marked)

-- a row is guarded as its symbol is
pub row_guarded : (row : SymbolRow) → is_guarded (symbol_of_row row) ≡ is_guarded_row row
row_guarded row = ap (λ n. row.read_only || nat_lt 0 n) (length-map row.writers (λ (n : NetId). n.bytes))

-- the rows of a table lie in their areas
pub rows_within : (types : List NamedType) (table : SymbolTable) (rows : List SymbolRow) → IsTableWith types table → symbols_of_rows rows ≡ table.symbols
    → All (IsWithinRow table.sizes) rows
rows_within types table rows with_ same k d below = row_within types table rows k (get_or rows k d) with_ same (slice_get-get_or rows k d below)

-- a symbol that is neither read-only nor has writers is written by everybody
open_to_all : (net : List ℕ) (read_only : Bool) (writers : List (List ℕ)) → ((read_only || nat_lt 0 (length writers)) ≡ true → ⊥)
    → (not read_only && ((length writers == 0) || list_any (bytes_eq net) writers)) ≡ true
open_to_all net true writers never = absurd (never refl)
open_to_all net false [] never = refl
open_to_all net false (w ∷ ws) never = absurd (never (lt-ltb 0 (length (w ∷ ws)) (omega arith)))

-- where a byte has no mark, the symbol that stands there may be written
symbol_open : (net : List ℕ) (types : List NamedType) (d : Symbol) (sizes : Sizes) (marks : List Bool) (area : Area) (i : ℕ)
    → IsMarked sizes marks (table_symbol types d) → is_marked marks (start_in sizes area + i) ≡ false → covers area i (plant_symbol types d) ≡ true
    → is_writable_symbol net (Some (plant_symbol types d)) ≡ true
symbol_open net types d sizes marks area i marked clear covered =
    let stands = stands_at (plant_symbol types d) area i covered in
    let unmarked : is_marked marks (start_in sizes d.area + i) ≡ false = ap (λ a. is_marked marks (start_in sizes a + i)) stands.same_area ∙ clear in
    open_to_all net d.read_only d.writers (λ g. false≢true (sym unmarked ∙ marked g i stands.begins stands.ends))

-- where no byte of a range has a mark, each symbol that stands there may be written
pub clear_may : (net : List ℕ) (w : World) (p : PlantPort) (m : PortMemory) (area : Area) (at_ len : ℕ) (marks : List Bool) → HoldsPort w p m
    → AreMarks m.table.sizes marks m.table.symbols
    → ((i : ℕ) → start_in m.table.sizes area + at_ ≤ i → i < start_in m.table.sizes area + at_ + len → is_marked marks i ≡ false)
    → MayWriteSymbolsAt net p area at_ len
clear_may net w p m area at_ len marks h are clear = λ n s i there from upto covered.
    let here : slice_get (map (plant_symbol m.types) h.port.symbols) n ≡ Some s = ap (λ (q : PlantPort). slice_get q.symbols n) (sym h.plant) ∙ there in
    let found = mapped_at (plant_symbol m.types) h.port.symbols n s here in
    let own : slice_get m.table.symbols n ≡ Some (table_symbol m.types found.0)
    = ap (λ (x : SymbolTable). slice_get x.symbols n) h.table.same
    ∙ (slice_get-map (table_symbol m.types) h.port.symbols n ∙ ap (option_map (table_symbol m.types)) found.1) in
    let marked = each-get (IsMarked m.table.sizes marks) m.table.symbols n (table_symbol m.types found.0) are.each own in
    let no_mark = clear (start_in m.table.sizes area + i) (omega (arith, from)) (omega (arith, upto)) in
    let P : PlantSymbol → Type 0 = λ x. covers area i x ≡ true → is_writable_symbol net (Some x) ≡ true in
    let open_ : P s = subst P found.2 (symbol_open net m.types found.0 m.table.sizes marks area i marked no_mark) in
    open_ covered
