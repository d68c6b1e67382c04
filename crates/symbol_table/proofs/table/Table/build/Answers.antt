-- Each part is built of the same rows, which are the port's symbols.
use Rattle.std.proofs.Common.{◌≡◌, List, map, ◌∙◌, ap, subst}
use Rattle.std.specs.List.{list_all}
use Rattle.type_layout.specs.NamedTypes.{types_of}
use Rattle.type_layout.specs.Descriptions.{symbols_of, sizes_of}
use Rattle.symbol_table.specs.Tables.{TableSymbol, table_symbol}
use Rattle.symbol_table.specs.Rows.{symbols_of_rows}
use Rattle.symbol_table.specs.PlaceOrders.{has_bytes, is_within}
use Rattle.symbol_table.specs.Names.{AreNamesOf}
use Rattle.symbol_table.specs.NamesInOrder.{AreKeysOf}
use Rattle.symbol_table.specs.PlaceOrders.{IsPlaceOrder}
use Rattle.symbol_table.proofs.PlacedSymbols.{typed_placed, bytes_placed, within_placed, apart_placed}
use Rattle.symbol_table.proofs.table.Table.build.Goals as goal

pub rows_of-requires-clause-each : goal.rows_of-requires-clause-each
rows_of-requires-clause-each c =
    rw c.as_slice.ensures (typed_placed (types_of c.args.types.now) (sizes_of c.args.port.now.sizes) (symbols_of c.args.port.now.symbols) c.requires.each)

pub place_order-requires-clause-bytes : goal.place_order-requires-clause-bytes
place_order-requires-clause-bytes c =
    let types = types_of c.args.types.now in
    let symbols = symbols_of c.args.port.now.symbols in
    let typed = typed_placed types (sizes_of c.args.port.now.sizes) symbols c.requires.each in
    rw (c.as_slice-4.ensures.value, c.in_ok-rows.ensures, c.as_slice.ensures) (bytes_placed types symbols c.requires.types typed)

pub place_order-requires-clause-apart : goal.place_order-requires-clause-apart
place_order-requires-clause-apart c =
    rw (c.as_slice-4.ensures.value, c.in_ok-rows.ensures, c.as_slice.ensures)
    (apart_placed (types_of c.args.types.now) (symbols_of c.args.port.now.symbols) c.requires.apart)

pub invariant_of-result : goal.invariant_of-result
invariant_of-result c =
    let types = types_of c.args.types.now in
    let sizes = sizes_of c.args.port.now.sizes in
    let symbols = symbols_of c.args.port.now.symbols in
    let typed = typed_placed types sizes symbols c.requires.each in
    let rows = symbols_of_rows c.in_ok-rows.rows.items in
    let is_table : rows ≡ map (table_symbol types) symbols = c.in_ok-rows.ensures ∙ ap (λ s. map (table_symbol types) (symbols_of s)) c.as_slice.ensures in
    let N : List TableSymbol → Type 0 = λ all. AreNamesOf all c.in_ok-names.names in
    let K : List TableSymbol → Type 0 = λ all. AreKeysOf all c.in_ok-by_name.by_name in
    let O : List TableSymbol → Type 0 = λ all. IsPlaceOrder all c.in_ok-by_place.by_place.items in
    record {
      names_are = subst N (ap symbols_of_rows c.as_slice-2.ensures.value) c.in_ok-names.ensures;
      keys_are = subst K (ap symbols_of_rows c.as_slice-3.ensures.value) c.in_ok-by_name.ensures;
      order = subst O (ap symbols_of_rows c.as_slice-4.ensures.value) c.in_ok-by_place.ensures;
      bytes = ap (list_all has_bytes) is_table ∙ bytes_placed types symbols c.requires.types typed;
      within = ap (list_all (is_within sizes)) is_table ∙ within_placed types sizes symbols c.requires.each;
    }
