-- One more entry, of one more row.
use Rattle.std.proofs.Common.{◌≡◌, ◌+◌, [], ◌∷◌, ◌++◌, map, take, length, refl, sym, ◌∙◌, ap, arith}
use Rattle.std.proofs.lemmas.List.{map_more, map_push, length-map, length-take-le}
use Rattle.name_paths.specs.Name.{lower_identifiers}
use Rattle.symbol_table.specs.Rows.{symbol_of_row, symbols_of_rows}
use Rattle.symbol_table.specs.NameKeys.{key_of, identifiers_in}
use Rattle.symbol_table.specs.NamesInOrder.{keys_from, name_key}
use Rattle.symbol_table.proofs.SortedNames.{keys_from-push}
use Rattle.symbol_table.proofs.name_order.entries_of.Goals as goal

pub loop-number-preserved : goal.loop-number-preserved
loop-number-preserved c =
    let rows = c.args.rows.now in
    let i = c.loop-number.number in
    let row = c.index-rows-number.result in
    let below = c.loop-number-test.true in
    let symbols = symbols_of_rows (take i rows) in
    let last : 0 + length symbols ≡ i = omega (arith, below, length-map (take i rows) symbol_of_row, length-take-le i rows) in
    let name : identifiers_in c.in_ok-identifiers.identifiers.items ≡ lower_identifiers row.name
    = c.in_ok-identifiers.ensures ∙ ap lower_identifiers c.as_slice.ensures in
    let key : key_of (c.in_ok-identifiers.identifiers, i) ≡ name_key row.name (0 + length symbols) = rw (name, last) refl in
    let more : symbols_of_rows (take (i + 1) rows) ≡ symbols ++ symbol_of_row row ∷ []
    = map_more symbol_of_row rows i row below ∙ ap (λ r. symbols ++ symbol_of_row r ∷ []) (sym c.index-rows-number.is) in
    ap (map key_of) c.in_ok-push.ensures.items ∙ map_push key_of c.loop-number.entries.items (c.in_ok-identifiers.identifiers, i)
    ∙ ap (λ keys. keys ++ key_of (c.in_ok-identifiers.identifiers, i) ∷ []) c.loop-number.invariant
    ∙ ap (λ k. keys_from 0 symbols ++ k ∷ []) key
    ∙ sym (keys_from-push 0 symbols (symbol_of_row row)) ∙ ap (keys_from 0) (sym more)
