-- Sorted places, whose numbers are in order.
use Rattle.std.proofs.Common.{◌≡◌, ℕ, List, subst, ◌∙◌, ap}
use Rattle.std.specs.List.Sorted.{IsPermutation}
use Rattle.symbol_table.specs.Rows.{symbols_of_rows}
use Rattle.symbol_table.specs.PlaceKeys.{numbers_of}
use Rattle.symbol_table.proofs.PlacesInOrder.{in_place_order}
use Rattle.symbol_table.proofs.by_place.place_order.Goals as goal

pub returns : goal.returns
returns c =
    let P : List (ℕ × ℕ × ℕ) → Type 0 = λ places. IsPermutation places c.sort_unstable.new.self.items in
    let order = in_place_order (symbols_of_rows c.args.rows.now) c.sort_unstable.new.self.items c.requires.bytes c.requires.apart
    (subst P c.in_ok-places.ensures c.sort_unstable.ensures.permutation) c.sort_unstable.ensures.sorted in
    let numbers : c.in_ok-numbers.numbers.items ≡ numbers_of c.sort_unstable.new.self.items =
    c.in_ok-numbers.ensures ∙ ap numbers_of c.as_slice.ensures.value in
    rw numbers order
