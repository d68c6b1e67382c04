-- Symbols whose bytes are taken.
use Rattle.std.proofs.Common.{◌≡◌, ℕ, ◌+◌, ◌*◌, ◌^◌, ◌≤◌, ◌<◌, Bool, true, false, not, ◌&&◌, ◌||◌, ◌==◌}
use Rattle.std.proofs.Common.{nat_le, List, [], ◌∷◌, ◌++◌, map, refl, ap, sym, ◌∙◌, arith, ⊎_elim}
use Rattle.std.proofs.Math.Bool.{and-true}
use Rattle.std.specs.List.{list_all}
use Rattle.std.proofs.lemmas.Bool.{and_parts, cases_lt, cases_order, le-leb, lt-leb, eq-eqb, ne_eqb}
use Rattle.std.proofs.lemmas.List.Folds.{list_all-append}
use Rattle.spec_plant.specs.Listed.{NamedType}
use Rattle.spec_plant.specs.Description.{Sizes}
use Rattle.spec_plant.specs.World.{area_number}
use Rattle.description_table.specs.Views.{symbol_view}
use Rattle.description_table.specs.declared.written.WrittenSymbol.{WrittenSymbol}
use Rattle.description_rules.specs.Placed.{SymbolPlace, place_of, are_apart_places, is_right_behind}
use Rattle.description_rules.specs.Taken.{AreInOrder, are_apart_ranges}
use Rattle.description_rules.specs.TakenPlaces.{range_of, symbol_place, StandFor, TakesPlace}
use Rattle.description_rules.specs.declared.taken.ByteRange.{ByteRange}

-- one test of numbers beside another that tells the same
same_le : (a b c d : ℕ) → (a ≤ b → c ≤ d) → (b < a → d < c) → nat_le a b ≡ nat_le c d
same_le a b c d within beyond =
    ⊎_elim (λ k. lt-leb a b k ∙ sym (lt-leb c d (beyond k))) (λ k. le-leb a b k ∙ sym (le-leb c d (within k))) (cases_lt b a)

either : (a b : Bool) → b ≡ true → (a || b) ≡ true
either true b e = refl
either false b e = e

module _ (m n o s p t : ℕ) (one : o + s < 2 ^ 64) (two : p + t < 2 ^ 64) where
  abbrev ranges : Bool
  ranges = nat_le (m * 2 ^ 64 + o + s) (n * 2 ^ 64 + p) || nat_le (n * 2 ^ 64 + p + t) (m * 2 ^ 64 + o)

  in_one_area : m ≡ n → ranges ≡ (not (m == n) || nat_le (o + s) p || nat_le (p + t) o)
  in_one_area e =
      rw (
        eq-eqb m n e,
        same_le (m * 2 ^ 64 + o + s) (n * 2 ^ 64 + p) (o + s) p (λ k. omega arith) (λ k. omega arith),
        same_le (n * 2 ^ 64 + p + t) (m * 2 ^ 64 + o) (p + t) o (λ k. omega arith) (λ k. omega arith),
      ) refl

  in_two_areas : (m ≡ n → ⊥) → ranges ≡ true → ranges ≡ (not (m == n) || nat_le (o + s) p || nat_le (p + t) o)
  in_two_areas other e = rw (ne_eqb m n other) e

  apart_numbers : ranges ≡ (not (m == n) || nat_le (o + s) p || nat_le (p + t) o)
  apart_numbers =
      ⊎_elim (λ e. in_one_area e)
      (λ k. ⊎_elim (λ less. in_two_areas (λ e. omega arith) (rw (le-leb (m * 2 ^ 64 + o + s) (n * 2 ^ 64 + p) (omega arith)) refl))
      (λ more. in_two_areas (λ e. omega arith) (either (nat_le (m * 2 ^ 64 + o + s) (n * 2 ^ 64 + p)) (nat_le (n * 2 ^ 64 + p + t) (m * 2 ^ 64 + o))
      (le-leb (n * 2 ^ 64 + p + t) (m * 2 ^ 64 + o) (omega arith)))) k) (cases_order m n)

apart-ranges : (s t : SymbolPlace) → s.offset + s.size < 2 ^ 64 → t.offset + t.size < 2 ^ 64 → are_apart_ranges (range_of s) (range_of t) ≡ are_apart_places s t
apart-ranges s t one two = apart_numbers (area_number s.area) (area_number t.area) s.offset s.size t.offset t.size one two

pub stand-none : StandFor [] []
stand-none = record {
  order = record { wide = λ k d within. absurd (omega arith); apart = λ i j d less within. absurd (omega arith) };
  same = λ s small. refl;
}

-- one more symbol's bytes are taken
pub stand-more : (places : List SymbolPlace) (q : SymbolPlace) (old new : List ByteRange) → StandFor places old → q.offset + q.size < 2 ^ 64
    → AreInOrder new → ((p : ByteRange → Bool) → list_all p new ≡ (list_all p old && p (range_of q))) → StandFor (places ++ q ∷ []) new
stand-more places q old new stand within order taken = record {
  order = order;
  same = λ s small.
      let behind = λ (e : SymbolPlace). are_apart_places e s in
      taken (λ r. are_apart_ranges r (range_of s)) ∙ ap (λ b. b && are_apart_ranges (range_of q) (range_of s)) (stand.same s small)
      ∙ ap (λ b. list_all behind places && b) (apart-ranges q s within small)
      ∙ ap (λ b. list_all behind places && b) (sym (and-true (behind q))) ∙ sym (list_all-append behind places (q ∷ []));
}

and_same : (b x y : Bool) → (b ≡ true → x ≡ y) → (b && x) ≡ (b && y)
and_same true x y h = h refl
and_same false x y h = refl

-- the ranges tell whether a symbol is right behind those before
pub right-behind : (places : List SymbolPlace) (place : SymbolPlace) (taken : List ByteRange) (right : Bool) → StandFor places taken
    → (place.right ≡ true → place.offset + place.size < 2 ^ 64) → right ≡ (place.right && list_all (λ r. are_apart_ranges r (range_of place)) taken)
    → is_right_behind places place ≡ right
right-behind places place taken right stand within answer =
    sym (answer ∙ and_same place.right (list_all (λ r. are_apart_ranges r (range_of place)) taken) (list_all (λ e. are_apart_places e place) places)
    (λ e. stand.same place (within e)))

-- the same, where the code has the place of a symbol
pub right-behind-view : (places : List SymbolPlace) (place s : SymbolPlace) (taken : List ByteRange) (right : Bool) → place ≡ s → StandFor places taken
    → (place.right ≡ true → place.offset + place.size < 2 ^ 64) → right ≡ (place.right && list_all (λ r. are_apart_ranges r (range_of place)) taken)
    → is_right_behind places s ≡ right
right-behind-view places place s taken right e stand within answer =
    ap (is_right_behind places) (sym e) ∙ right-behind places place taken right stand within answer

pub stand-view : (places more_places : List SymbolPlace) (place s : SymbolPlace) (old new : List ByteRange) (right : Bool) → place ≡ s → StandFor places old
    → (place.right ≡ true → place.offset + place.size < 2 ^ 64) → TakesPlace place old new right
    → right ≡ true → more_places ≡ places ++ s ∷ [] → StandFor more_places new
stand-view places more_places place s old new right e stand within takes is more =
    let placed : place.right ≡ true = (and_parts place.right (list_all (λ r. are_apart_ranges r (range_of place)) old) (sym takes.answer ∙ is)).0 in
    let longer : places ++ place ∷ [] ≡ more_places = ap (λ t. places ++ t ∷ []) e ∙ sym more in
    rw longer at (stand-more places place old new stand (within placed) (takes.order is) (takes.taken is))

pub symbol_places-written : (types : List NamedType) (sizes : Sizes) (xs : List WrittenSymbol)
    → map (symbol_place types sizes) xs ≡ map (place_of types sizes) (map symbol_view xs)
symbol_places-written types sizes [] = refl
symbol_places-written types sizes (x ∷ xs) = ap (λ places. symbol_place types sizes x ∷ places) (symbol_places-written types sizes xs)
