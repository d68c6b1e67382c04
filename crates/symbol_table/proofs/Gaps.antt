-- Gaps between symbols.
use Rattle.std.proofs.Common.{◌≡◌, ℕ, ◌+◌, ◌-◌, ◌<◌, ◌≤◌, true, false, List, [], ◌∷◌, length, get_or, refl, sym, ◌∙◌, ap, arith, inl, inr}
use Rattle.std.specs.Prelude.{Some, slice_get, nat_lt, nat_le, ◌&&◌, ◌||◌, not, ◌==◌}
use Rattle.std.specs.List.{list_all}
use Rattle.std.specs.Option.{option_map_or}
use Rattle.std.proofs.lemmas.Bool.{cases_Bool, and_parts, ltb-true, leb-true, lt-ltb, le-leb}
use Rattle.std.proofs.lemmas.Bool.Decides.{nat_tests}
use Rattle.std.proofs.lemmas.List.Folds.{list_any_none}
use Rattle.std.proofs.lemmas.Map.Keys.{any_passes_from_place}
use Rattle.std.proofs.lemmas.Option.{slice_get-get_or}
use Rattle.spec_plant.specs.Description.{Area, Sizes, size_in}
use Rattle.spec_plant.specs.World.{area_number, is_same_area}
use Rattle.spec_plant.proofs.TypeLemmas.{list_all-get}
use Rattle.symbol_table.specs.Tables.{TableSymbol}
use Rattle.symbol_table.specs.PlaceOrders.{has_bytes, is_within}
use Rattle.symbol_table.specs.Tiles.{covers, is_covered, IsGap}
use Rattle.symbol_table.specs.Tiling.{ends_by, EndsLast, BeginsFirst, StartsGap, EndsGap}
use Rattle.symbol_table.proofs.PlaceSearch.{same_area}

end_within-numbers : (x z e n : ℕ) → (not (x == z) || nat_le e n) ≡ true → (x == z) ≡ true → e ≤ n
end_within-numbers x z e n within same = grind (arith, nat_tests)

pub end_within : (area : Area) (size : ℕ) (s : TableSymbol) → ends_by area size s ≡ true → is_same_area s.area area ≡ true → s.offset + s.size ≤ size
end_within area size s within same = end_within-numbers (area_number s.area) (area_number area) (s.offset + s.size) size within same

-- a byte of a symbol
covers-is : (area : Area) (k : ℕ) (s : TableSymbol) → is_same_area s.area area ≡ true → s.offset ≤ k → k < s.offset + s.size → covers area k s ≡ true
covers-is area k s same begins ends =
    let from = le-leb s.offset k begins in
    let upto = lt-ltb k (s.offset + s.size) ends in
    rw (same, from, upto) refl

-- what covers a byte
pub record Covers (area : Area) (k : ℕ) (s : TableSymbol) : Type 0 where
  pub same : is_same_area s.area area ≡ true
  pub begins : s.offset ≤ k
  pub ends : k < s.offset + s.size

covers-means : (area : Area) (k : ℕ) (s : TableSymbol) → covers area k s ≡ true → Covers area k s
covers-means area k s h =
    let parts = and_parts (is_same_area s.area area && nat_le s.offset k) (nat_lt k (s.offset + s.size)) h in
    let begins = and_parts (is_same_area s.area area) (nat_le s.offset k) parts.0 in
    record { same = begins.0; begins = leb-true s.offset k begins.1; ends = ltb-true k (s.offset + s.size) parts.1 }

covered : (symbols : List TableSymbol) (area : Area) (k n : ℕ) (s : TableSymbol) → slice_get symbols n ≡ Some s
    → is_same_area s.area area ≡ true → s.offset ≤ k → k < s.offset + s.size → is_covered symbols area k ≡ true
covered symbols area k n s e same begins ends = any_passes_from_place (covers area k) symbols n s e (covers-is area k s same begins ends)

pub covers_last : (symbols : List TableSymbol) (area : Area) (at : ℕ) (found : ℕ × ℕ) → EndsLast symbols area at found
    → at < found.1 → option_map_or (covers area at) (slice_get symbols found.0) false ≡ true
covers_last symbols area at found last below =
    let end = last.end in
    rw last.there (covers-is area at last.owner last.area_is last.begins (omega (arith, below, end)))

pub starts_last : (symbols : List TableSymbol) (area : Area) (at : ℕ) (found : ℕ × ℕ)
    → list_all has_bytes symbols ≡ true → EndsLast symbols area at found → found.1 ≤ at → StartsGap symbols area at found.1
starts_last symbols area at found bytes last most =
    let end = last.end in
    let some = ltb-true 0 last.owner.size (list_all-get has_bytes symbols found.0 last.owner bytes last.there) in
    record {
      begins = most;
      free = last.last;
      before = λ above. covered symbols area (found.1 - 1) found.0 last.owner last.there last.area_is (omega (arith, end, some)) (omega (arith, end, some));
    }

pub ends_first : (symbols : List TableSymbol) (area : Area) (at size start : ℕ) → list_all has_bytes symbols ≡ true
    → list_all (ends_by area size) symbols ≡ true → BeginsFirst symbols area at start → EndsGap symbols area at size start
ends_first symbols area at size start bytes within first =
    let begins = first.begins in
    let some = ltb-true 0 first.owner.size (list_all-get has_bytes symbols first.number first.owner bytes first.there) in
    let inside = end_within area size first.owner (list_all-get (ends_by area size) symbols first.number first.owner within first.there) first.area_is in
    record {
      ends = first.behind;
      within = omega (arith, begins, inside);
      free = first.first;
      behind = λ below. covered symbols area start first.number first.owner first.there first.area_is (omega (arith, begins)) (omega (arith, begins, some));
    }

pub is_gap : (symbols : List TableSymbol) (area : Area) (size at first end : ℕ) → StartsGap symbols area at first
    → EndsGap symbols area at size end → IsGap symbols area size at first (end - first)
is_gap symbols area size at first end starts ends =
    let begins = starts.begins in
    let over = ends.ends in
    let whole : first + (end - first) ≡ end = omega (arith, begins, over) in
    record {
      begins = begins;
      ends = rw whole over;
      within = rw whole ends.within;
      free = λ k from upto. free k from (rw whole at upto);
      before = starts.before;
      behind = rw whole ends.behind;
    }
  where
    not_covered : (k : ℕ) → first ≤ k → k < end → (n : ℕ) (d : TableSymbol) → n < length symbols → covers area k (get_or symbols n d) ≡ false
    not_covered k from upto n d below =
        let s = get_or symbols n d in
        let e = slice_get-get_or symbols n d below in
        elim (cases_Bool (covers area k s)) [
          | inl yes_it ↦
              let c = covers-means area k s yes_it in
              let c_begins = c.begins in
              let c_ends = c.ends in
              elim (cases_Bool (nat_le s.offset at)) [
                | inl le ↦
                    let ended = starts.free n s e c.same (leb-true s.offset at le) in
                    absurd (omega (arith, ended, from, c_ends))
                | inr more ↦
                    let behind : at < s.offset = grind (arith, nat_tests) in
                    let later = ends.free n s e c.same behind in
                    absurd (omega (arith, later, upto, c_begins))
              ]
          | inr no_it ↦ no_it
        ]

    free : (k : ℕ) → first ≤ k → k < end → is_covered symbols area k ≡ false
    free k from upto = list_any_none (covers area k) symbols (not_covered k from upto)

-- in its area, so by the area's size
pub all_end_by : (symbols : List TableSymbol) (sizes : Sizes) (area : Area)
    → list_all (is_within sizes) symbols ≡ true → list_all (ends_by area (size_in sizes area)) symbols ≡ true
all_end_by [] sizes area h = refl
all_end_by (s ∷ symbols) sizes area h =
    let parts = and_parts (is_within sizes s) (list_all (is_within sizes) symbols) h in
    let rest = all_end_by symbols sizes area parts.1 in
    let head : ends_by area (size_in sizes area) s ≡ true = elim (cases_Bool (is_same_area s.area area)) [
      | inl same ↦
          let is_it = same_area s.area area same in
          let within : nat_le (s.offset + s.size) (size_in sizes area) ≡ true = ap (λ a. nat_le (s.offset + s.size) (size_in sizes a)) (sym is_it) ∙ parts.0 in
          rw (same, within) refl
      | inr other ↦ rw other refl
    ] in
    rw (head, rest) refl
