-- One more place, of one more row.
use Rattle.std.proofs.Common.{◌≡◌, ◌+◌, [], ◌∷◌, ◌++◌, take, length, refl, sym, ◌∙◌, ap, arith}
use Rattle.std.proofs.lemmas.List.{map_more, length-map, length-take-le}
use Rattle.symbol_table.specs.Rows.{symbol_of_row, symbols_of_rows}
use Rattle.symbol_table.specs.PlaceKeys.{places_from, place_key}
use Rattle.symbol_table.proofs.PlacesInOrder.{places_from-push}
use Rattle.symbol_table.proofs.by_place.places_of.Goals as goal

pub loop-number-preserved : goal.loop-number-preserved
loop-number-preserved c =
    let rows = c.args.rows.now in
    let i = c.loop-number.number in
    let row = c.index-rows-number.result in
    let below = c.loop-number-test.true in
    let symbols = symbols_of_rows (take i rows) in
    let last : 0 + length symbols ≡ i = omega (arith, below, length-map (take i rows) symbol_of_row, length-take-le i rows) in
    let key : (c.number_of_area.result, row.«at», i) ≡ place_key (symbol_of_row row) (0 + length symbols) = rw (c.number_of_area.ensures, last) refl in
    let more : symbols_of_rows (take (i + 1) rows) ≡ symbols ++ symbol_of_row row ∷ []
    = map_more symbol_of_row rows i row below ∙ ap (λ r. symbols ++ symbol_of_row r ∷ []) (sym c.index-rows-number.is) in
    c.in_ok-push.ensures.items
    ∙ ap (λ places. places ++ (c.number_of_area.result, row.«at», i) ∷ []) c.loop-number.invariant
    ∙ ap (λ k. places_from 0 symbols ++ k ∷ []) key
    ∙ sym (places_from-push 0 symbols (symbol_of_row row)) ∙ ap (places_from 0) (sym more)
