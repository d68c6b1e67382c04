-- One more name, of one more row.
use Rattle.std.proofs.Common.{◌≡◌, ◌+◌, [], ◌∷◌, ◌++◌, map, take, length, sym, ◌∙◌, ap, subst, arith}
use Rattle.std.specs.Prelude.{List, ℕ}
use Rattle.std.proofs.lemmas.List.{map_more, map-append, length-map, length-take-le}
use Rattle.name_index.specs.Numbered.{AreNumbered}
use Rattle.symbol_table.specs.Names.{name_of_symbol}
use Rattle.symbol_table.specs.Rows.{symbol_of_row, symbols_of_rows}
use Rattle.symbol_table.proofs.names.names_of.Goals as goal

pub loop-row-preserved : goal.loop-row-preserved
loop-row-preserved c =
    let rows = c.args.rows.now in
    let i = c.loop-row.row-index in
    let row = c.row-item.result in
    let below = c.loop-row-test.true in
    let symbols = symbols_of_rows (take i rows) in
    let more : symbols_of_rows (take (i + 1) rows) ≡ symbols ++ symbol_of_row row ∷ []
    = map_more symbol_of_row rows i row below ∙ ap (λ r. symbols ++ symbol_of_row r ∷ []) (sym c.row-item.is) in
    let names : map name_of_symbol (symbols_of_rows (take (i + 1) rows)) ≡ map name_of_symbol symbols ++ c.as_slice.result.now ∷ []
    = ap (map name_of_symbol) more ∙ map-append name_of_symbol symbols (symbol_of_row row ∷ [])
    ∙ ap (λ name. map name_of_symbol symbols ++ name ∷ []) (sym c.as_slice.ensures) in
    let P : List (List ℕ) → Type 0 = λ all. AreNumbered all c.add.new.self in
    subst P (sym names) (c.in_ok-add.ensures.ok (map name_of_symbol symbols) c.loop-row.invariant)

pub add-requires : goal.add-requires
add-requires c =
    let rows = c.args.rows.now in
    let i = c.loop-row.row-index in
    let below = c.loop-row-test.true in
    let few = c.requires in
    let symbols = symbols_of_rows (take i rows) in
    let counted = c.loop-row.invariant.counted in
    omega (arith, below, few, counted, length-map symbols name_of_symbol, length-map (take i rows) symbol_of_row, length-take-le i rows)
