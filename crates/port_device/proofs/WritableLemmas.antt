-- Who may write the symbols of a port, by the rows of its table.
use Rattle.std.proofs.Common.{◌≡◌, ℕ, ◌<◌, List, [], ◌∷◌, map, length, get_or, true, refl, sym, ◌∙◌, ap, subst}
use Rattle.std.specs.Prelude.{◌||◌, ◌&&◌, ◌==◌, not, Some, slice_get, option_map, bytes_eq, ◌↔◌}
use Rattle.std.specs.List.{list_all, list_any}
use Rattle.std.specs.Option.{option_map_or}
use Rattle.std.proofs.lemmas.List.{length-map}
use Rattle.std.proofs.lemmas.List.Elements.{All-contains}
use Rattle.std.proofs.lemmas.List.Sums.{AllPass-from_list_all, list_all-from_AllPass}
use Rattle.std.proofs.lemmas.Option.{slice_get-map, slice_get_read}
use Rattle.ads_base.specs.declared.net_id.NetId.{NetId}
use Rattle.type_layout.specs.Descriptions.{nets_of}
use Rattle.spec_plant.specs.Listed.{NamedType}
use Rattle.spec_plant.specs.Description.{Area, Symbol}
use Rattle.spec_plant.specs.World.{PlantPort, plant_symbol}
use Rattle.spec_machine.specs.World.{World}
use Rattle.spec_machine.specs.Writes.{is_writable_symbol}
use Rattle.spec_machine.specs.WritableBytes.{MayWriteSymbolsAt}
use Rattle.symbol_table.specs.Ranges.{StandsIn, AllStandIn}
use Rattle.symbol_table.specs.Tables.{TableSymbol, SymbolTable, table_symbol}
use Rattle.symbol_table.specs.Rows.{symbol_of_row, symbols_of_rows}
use Rattle.symbol_table.specs.declared.row.SymbolRow.{SymbolRow}
use Rattle.symbol_table.proofs.PlacesInOrder.{mapped_at}
use Rattle.port_device.specs.PortMemory.{PortMemory}
use Rattle.port_device.specs.Holds.{HoldsPort}
use Rattle.port_device.specs.Changed.{is_writable_row, is_writable_number}

any_of_nets : (net : List ℕ) (writers : List NetId) → list_any (λ (writer : NetId). bytes_eq net writer.bytes) writers
    ≡ list_any (bytes_eq net) (nets_of writers)
any_of_nets net [] = refl
any_of_nets net (w ∷ ws) = ap (λ b. bytes_eq net w.bytes || b) (any_of_nets net ws)

pub row_writable : (net : List ℕ) (row : SymbolRow)
    → (not row.read_only && ((length row.writers == 0) || list_any (λ (writer : NetId). bytes_eq net writer.bytes) row.writers))
    ≡ is_writable_row net (symbol_of_row row)
row_writable net row =
    ap (λ b. not row.read_only && ((length row.writers == 0) || b)) (any_of_nets net row.writers)
    ∙ sym (ap (λ n. not row.read_only && ((n == 0) || list_any (bytes_eq net) (nets_of row.writers))) (length-map row.writers (λ (n : NetId). n.bytes)))

-- the test of a number is that of its row
pub number_writable : (net : List ℕ) (rows : List SymbolRow) (n : ℕ) (row : SymbolRow) → n < length rows → row ≡ get_or rows n row
    → is_writable_number net (symbols_of_rows rows) n ≡ is_writable_row net (symbol_of_row row)
number_writable net rows n row h e =
    ap (λ o. option_map_or (is_writable_row net) o true) (slice_get-map symbol_of_row rows n
    ∙ ap (option_map symbol_of_row) (slice_get_read rows (length rows) n row refl h e))

-- the test of a number is that of the plant's symbol
number_may : (net : List ℕ) (types : List NamedType) (symbols : List Symbol) (n : ℕ) (s : Symbol) → slice_get symbols n ≡ Some s
    → is_writable_number net (map (table_symbol types) symbols) n ≡ is_writable_symbol net (Some (plant_symbol types s))
number_may net types symbols n s e =
    ap (λ o. option_map_or (is_writable_row net) o true) (slice_get-map (table_symbol types) symbols n ∙ ap (option_map (table_symbol types)) e)

-- all of a range may be written exactly where each symbol that stands there may
all_may : (net : List ℕ) (types : List NamedType) (symbols : List Symbol) (p : PlantPort) (area : Area) (at_ len : ℕ) (numbers : List ℕ)
    → p.symbols ≡ map (plant_symbol types) symbols → AllStandIn (map (plant_symbol types) symbols) area at_ len numbers
    → (list_all (is_writable_number net (map (table_symbol types) symbols)) numbers ≡ true) ↔ MayWriteSymbolsAt net p area at_ len
all_may net types symbols p area at_ len numbers same are = (
  λ t n s i there from upto covered.
      let here : slice_get (map (plant_symbol types) symbols) n ≡ Some s = ap (λ ss. slice_get ss n) (sym same) ∙ there in
      let found = mapped_at (plant_symbol types) symbols n s here in
      let passes = AllPass-from_list_all (is_writable_number net (map (table_symbol types) symbols)) numbers t in
      let test : is_writable_number net (map (table_symbol types) symbols) n ≡ true
      = All-contains (λ k. is_writable_number net (map (table_symbol types) symbols) k ≡ true) numbers n passes (are.whole i n s from upto here covered) in
      ap (λ x. is_writable_symbol net (Some x)) (sym found.2) ∙ sym (number_may net types symbols n found.0 found.1) ∙ test,
  λ may. list_all-from_AllPass (is_writable_number net (map (table_symbol types) symbols)) numbers (λ k d below.
      let n = get_or numbers k d in
      let stands : StandsIn (map (plant_symbol types) symbols) area at_ len n = are.each k d below in
      let found = mapped_at (plant_symbol types) symbols n stands.owner stands.there in
      let there : slice_get p.symbols n ≡ Some stands.owner = ap (λ ss. slice_get ss n) same ∙ stands.there in
      number_may net types symbols n found.0 found.1 ∙ ap (λ x. is_writable_symbol net (Some x)) found.2
      ∙ may n stands.owner stands.byte there stands.from stands.upto stands.covered),
)

pub may_all : (net : List ℕ) (w : World) (p : PlantPort) (m : PortMemory) (area : Area) (at_ len : ℕ) (numbers : List ℕ) → (h : HoldsPort w p m)
    → AllStandIn (map (plant_symbol m.types) h.port.symbols) area at_ len numbers
    → (list_all (is_writable_number net m.table.symbols) numbers ≡ true) ↔ MayWriteSymbolsAt net p area at_ len
may_all net w p m area at_ len numbers h are =
    let P : List TableSymbol → Type 0 = λ ss. (list_all (is_writable_number net ss) numbers ≡ true) ↔ MayWriteSymbolsAt net p area at_ len in
    subst P (sym (ap (λ (t : SymbolTable). t.symbols) h.table.same))
    (all_may net m.types h.port.symbols p area at_ len numbers (ap (λ (q : PlantPort). q.symbols) h.plant) are)
