-- The symbols that end by a byte, and those that have bytes of a range.
use Rattle.std.proofs.Common.{◌≡◌, ℕ, ◌+◌, ◌-◌, ◌<◌, ◌≤◌, true, false, List, [], length, get_or, take, drop, refl, sym, ◌∙◌, ap, arith, inl, inr, length-drop}
use Rattle.std.specs.Prelude.{Some, slice_get, nat_lt, nat_le, ◌&&◌, ◌||◌, ◌==◌}
use Rattle.std.specs.List.{list_all, All, Contains}
use Rattle.std.proofs.lemmas.Bool.{cases_Bool, ltb-true, ltb-false, leb-true, leb-false}
use Rattle.std.proofs.lemmas.Bool.Decides.{nat_tests}
use Rattle.std.proofs.lemmas.List.{get_or-take, get_or-drop, length-take-le}
use Rattle.std.proofs.lemmas.Option.{slice_get_within, slice_get-get_or, get_or_from_slice_get, slice_get_cases}
use Rattle.spec_plant.specs.Description.{Area}
use Rattle.spec_plant.specs.World.{area_number, is_same_area}
use Rattle.spec_plant.proofs.TypeLemmas.{list_all-get}
use Rattle.symbol_table.specs.Tables.{TableSymbol}
use Rattle.symbol_table.specs.PlaceOrders.{has_bytes, IsPlaceOrder, RiseByPlace}
use Rattle.symbol_table.specs.Tiles.{covers}
use Rattle.symbol_table.specs.Ranges.{HasByteIn, AreInRange}
use Rattle.symbol_table.specs.Tiling.{begins_by, has_ended, EachBefore, EachBehind, HasBegun, HasEnded}
use Rattle.symbol_table.proofs.PlaceSearch.{one_symbol}

-- numbers of areas, and bytes in them: a symbol of n bytes at a in the area x, and the byte k of the area z

not_ended-numbers : (x z a n k : ℕ) → (nat_lt x z || ((x == z) && nat_le a k)) ≡ false → (nat_lt x z || ((x == z) && nat_le (a + n) k)) ≡ false
not_ended-numbers x z a n k later = grind (arith, nat_tests)

ended_before-numbers : (x y z a n b k : ℕ) → (nat_lt x y || ((x == y) && nat_le (a + n) b)) ≡ true
    → (nat_lt y z || ((y == z) && nat_le b k)) ≡ true → (nat_lt x z || ((x == z) && nat_le (a + n) k)) ≡ true
ended_before-numbers x y z a n b k before begins = grind (arith, nat_tests)

covers-ended-numbers : (x z a n k : ℕ) → ((x == z) && nat_le a k && nat_lt k (a + n)) ≡ true → (nat_lt x z || ((x == z) && nat_le (a + n) k)) ≡ false
covers-ended-numbers x z a n k covered = grind (arith, nat_tests)

begun-ended-numbers : (x z a n k : ℕ) → ((x == z) && nat_le a k && nat_lt k (a + n)) ≡ false
    → (nat_lt x z || ((x == z) && nat_le a k)) ≡ true → (nat_lt x z || ((x == z) && nat_le (a + n) k)) ≡ true
begun-ended-numbers x z a n k free begins = grind (arith, nat_tests)

-- and the byte l, which is not before k

ended-begun-numbers : (x z a n k l : ℕ) → k ≤ l → (nat_lt x z || ((x == z) && nat_le (a + n) k)) ≡ true → (nat_lt x z || ((x == z) && nat_le a l)) ≡ false → ⊥
ended-begun-numbers x z a n k l order ended later = grind (arith, nat_tests)

record Between (x z a n k l : ℕ) : Type 0 where
  pub same : (x == z) ≡ true
  pub begins : a ≤ l
  pub ends : k < a + n

between-numbers : (x z a n k l : ℕ) → (nat_lt x z || ((x == z) && nat_le a l)) ≡ true
    → (nat_lt x z || ((x == z) && nat_le (a + n) k)) ≡ false → Between x z a n k l
between-numbers x z a n k l begins not_ended = record { same = grind (arith, nat_tests); begins = grind (arith, nat_tests); ends = grind (arith, nat_tests) }

covers-begun-numbers : (x z a n k l : ℕ) → k ≤ l → ((x == z) && nat_le a k && nat_lt k (a + n)) ≡ true → (nat_lt x z || ((x == z) && nat_le a l)) ≡ false → ⊥
covers-begun-numbers x z a n k l order covered later = grind (arith, nat_tests)

ended-covers-numbers : (x z a n k l : ℕ) → k ≤ l → (nat_lt x z || ((x == z) && nat_le (a + n) k)) ≡ true
    → ((x == z) && nat_le a l && nat_lt l (a + n)) ≡ true → ⊥
ended-covers-numbers x z a n k l order ended covered = grind (arith, nat_tests)

at-covers-numbers : (x z a n k : ℕ) → (x == z) ≡ true → a ≤ k → k < a + n → ((x == z) && nat_le a k && nat_lt k (a + n)) ≡ true
at-covers-numbers x z a n k same begins ends = grind (arith, nat_tests)

module _ (symbols : List TableSymbol) (numbers : List ℕ) (area : Area) (at : ℕ)
    (order : IsPlaceOrder symbols numbers) (begun : ℕ) (has : HasBegun symbols numbers area at begun) where
  behind_begun : EachBehind symbols numbers begun (λ s. has_ended area at s ≡ false)
  behind_begun i m s least gm sm = not_ended-numbers (area_number s.area) (area_number area) s.offset s.size at (has.behind i m s least gm sm)

  before_last : (m : ℕ) (t : TableSymbol) → 0 < begun → slice_get numbers (begun - 1) ≡ Some m
      → slice_get symbols m ≡ Some t → EachBefore symbols numbers (begun - 1) (λ s. has_ended area at s ≡ true)
  before_last m t some gm tm i n s below gn sn =
      ended_before-numbers (area_number s.area) (area_number t.area) (area_number area) s.offset s.size t.offset at
      (order.rising i (begun - 1) n m s t below gn gm sn tm) (has.before (begun - 1) m t (omega (arith, some)) gm tm)

  pub ended_none : begun ≡ 0 → HasEnded symbols numbers area at 0
  ended_none none = record {
    within = omega arith;
    before = λ i m s below gm sm. absurd (omega (arith, below));
    behind = λ i m s least gm sm. behind_begun i m s (omega (arith, none)) gm sm;
  }

  -- the last symbol that begins by the byte covers it
  pub ended_but_last : (m : ℕ) (t : TableSymbol) → 0 < begun → slice_get numbers (begun - 1) ≡ Some m
      → slice_get symbols m ≡ Some t → covers area at t ≡ true → HasEnded symbols numbers area at (begun - 1)
  ended_but_last m t some gm tm covered = record {
    within = (let w = has.within in omega (arith, w));
    before = before_last m t some gm tm;
    behind = all;
  }
    where
      all : EachBehind symbols numbers (begun - 1) (λ s. has_ended area at s ≡ false)
      all i n s least gn sn =
          elim (cases_Bool (nat_lt (begun - 1) i)) [
            | inl more ↦ let less = ltb-true (begun - 1) i more in behind_begun i n s (omega (arith, less)) gn sn
            | inr most ↦
                let upto = ltb-false (begun - 1) i most in
                let same : i ≡ begun - 1 = omega (arith, least, upto) in
                let is_it = one_symbol symbols numbers i (begun - 1) n m s t same gn gm sn tm in
                ap (has_ended area at) is_it ∙ covers-ended-numbers (area_number t.area) (area_number area) t.offset t.size at covered
          ]

  -- it ends by the byte
  pub ended_all : (m : ℕ) (t : TableSymbol) → 0 < begun → slice_get numbers (begun - 1) ≡ Some m
      → slice_get symbols m ≡ Some t → covers area at t ≡ false → HasEnded symbols numbers area at begun
  ended_all m t some gm tm free = record { within = has.within; before = all; behind = behind_begun }
    where
      all : EachBefore symbols numbers begun (λ s. has_ended area at s ≡ true)
      all i n s below gn sn =
          elim (cases_Bool (nat_lt i (begun - 1))) [
            | inl less ↦ before_last m t some gm tm i n s (ltb-true i (begun - 1) less) gn sn
            | inr most ↦
                let least = ltb-false i (begun - 1) most in
                let same : i ≡ begun - 1 = omega (arith, least, below, some) in
                let is_it = one_symbol symbols numbers i (begun - 1) n m s t same gn gm sn tm in
                let begins = has.before (begun - 1) m t (omega (arith, some)) gm tm in
                ap (has_ended area at) is_it ∙ begun-ended-numbers (area_number t.area) (area_number area) t.offset t.size at free begins
          ]

-- a number of the order stands for a symbol
symbol_at : (symbols : List TableSymbol) (n : ℕ) → n < length symbols → (s : TableSymbol) × (slice_get symbols n ≡ Some s)
symbol_at symbols n below = elim ((slice_get_cases symbols n).1) [
  | inl found ↦ (found.0, found.2)
  | inr past ↦ let most = past.0 in absurd (omega (arith, most, below))
]

-- no byte, no symbol
pub none_in_range : (symbols : List TableSymbol) (area : Area) (at : ℕ) → AreInRange symbols area at 0 []
none_in_range symbols area at = record {
  each = λ k d below. absurd (omega (arith, below));
  whole = λ byte n s from upto sn covered. absurd (omega (arith, from, upto));
  rising = λ i j m n s t less gm gn sm tn. absurd cc;
}

-- a part of a list by its places
part_at : (numbers : List ℕ) (first until i n : ℕ) → first ≤ until → until ≤ length numbers → slice_get (take (until - first) (drop first numbers)) i ≡ Some n
    → (first + i < until) × (slice_get numbers (first + i) ≡ Some n)
part_at numbers first until i n ordered within e =
    let rest = drop first numbers in
    let count : length (take (until - first) rest) ≡ until - first = length-take-le (until - first) rest (simp length-drop (omega (arith, within))) in
    let below = slice_get_within (take (until - first) rest) i n e in
    let short : i < until - first = omega (arith, below, count) in
    let inside : first + i < until = omega (arith, short) in
    let read : get_or numbers (first + i) n ≡ n =
    sym (get_or-drop first numbers i n) ∙ sym (get_or-take (until - first) rest i n short) ∙ get_or_from_slice_get (take (until - first) rest) i n n e in
    (inside, slice_get-get_or numbers (first + i) n (omega (arith, inside, within)) ∙ ap Some read)

part_has : (numbers : List ℕ) (first until j n : ℕ) → first ≤ j → j < until → until ≤ length numbers
    → get_or numbers j n ≡ n → Contains (take (until - first) (drop first numbers)) n
part_has numbers first until j n from upto within read =
    let rest = drop first numbers in
    let count : length (take (until - first) rest) ≡ until - first = length-take-le (until - first) rest (simp length-drop (omega (arith, within))) in
    let short : j - first < until - first = omega (arith, from, upto) in
    let place : first + (j - first) ≡ j = omega (arith, from) in (
      j - first,
      omega (arith, short, count),
      get_or-take (until - first) rest (j - first) n short
          ∙ get_or-drop first numbers (j - first) n ∙ ap (λ k. get_or numbers k n) place ∙ read,
    )

module _ (symbols : List TableSymbol) (numbers : List ℕ) (area : Area) (at len : ℕ)
    (order : IsPlaceOrder symbols numbers) (bytes : list_all has_bytes symbols ≡ true) (some : 0 < len) (first until : ℕ)
    (ended : HasEnded symbols numbers area at first) (begun : HasBegun symbols numbers area (at + (len - 1)) until) where
  pub range_ordered : first ≤ until
  range_ordered =
      elim (cases_Bool (nat_lt until first)) [
        | inl more ↦
            let less = ltb-true until first more in
            let inside = ended.within in
            let below : until < length numbers = omega (arith, less, inside) in
            let number = slice_get-get_or numbers until 0 below in
            let s = symbol_at symbols (get_or numbers until 0) (order.each until 0 below) in
            absurd (ended-begun-numbers (area_number (s.0).area) (area_number area) (s.0).offset (s.0).size at (at + (len - 1)) (omega arith)
            (ended.before until (get_or numbers until 0) s.0 less number s.1) (begun.behind until (get_or numbers until 0) s.0 (omega arith) number s.1))
        | inr le ↦ ltb-false until first le
      ]

  has_byte : (n : ℕ) (s : TableSymbol) → slice_get symbols n ≡ Some s
      → begins_by area (at + (len - 1)) s ≡ true → has_ended area at s ≡ false → HasByteIn symbols area at len n
  has_byte n s sn begins not_ended =
      let between = between-numbers (area_number s.area) (area_number area) s.offset s.size at (at + (len - 1)) begins not_ended in
      let begins_ = between.begins in
      let ends = between.ends in
      let any = ltb-true 0 s.size (list_all-get has_bytes symbols n s bytes sn) in
      elim (cases_Bool (nat_le s.offset at)) [
        | inl le ↦ record {
          owner = s;
          there = sn;
          byte = at;
          from = omega arith;
          upto = omega (arith, some);
          covered = at-covers-numbers (area_number s.area) (area_number area) s.offset s.size at between.same (leb-true s.offset at le) ends;
        }
        | inr more ↦
            let behind : at < s.offset = grind (arith, nat_tests) in
            record {
              owner = s;
              there = sn;
              byte = s.offset;
              from = omega (arith, behind);
              upto = omega (arith, begins_, some);
              covered = at-covers-numbers (area_number s.area) (area_number area) s.offset s.size s.offset between.same (omega arith) (omega (arith, any));
            }
      ]

  each_in_range : All (HasByteIn symbols area at len) (take (until - first) (drop first numbers))
  each_in_range k d below =
      let part = take (until - first) (drop first numbers) in
      let here = part_at numbers first until k (get_or part k d) range_ordered begun.within (slice_get-get_or part k d below) in
      let inside = here.0 in
      let limit = begun.within in
      let within : first + k < length numbers = omega (arith, inside, limit) in
      let listed : get_or numbers (first + k) 0 ≡ get_or part k d = get_or_from_slice_get numbers (first + k) (get_or part k d) 0 here.1 in
      let number : get_or part k d < length symbols = rw listed at (order.each (first + k) 0 within) in
      let s = symbol_at symbols (get_or part k d) number in
      has_byte (get_or part k d) s.0 s.1 (begun.before (first + k) (get_or part k d) s.0 inside here.1 s.1)
      (ended.behind (first + k) (get_or part k d) s.0 (omega arith) here.1 s.1)

  whole_in_range : (byte n : ℕ) (s : TableSymbol) → at ≤ byte → byte < at + len → slice_get symbols n ≡ Some s
      → covers area byte s ≡ true → Contains (take (until - first) (drop first numbers)) n
  whole_in_range byte n s from upto sn covered =
      let there = order.whole n (slice_get_within symbols n s sn) in
      let j = there.0 in
      let listed : slice_get numbers j ≡ Some n = slice_get-get_or numbers j n there.1 ∙ ap Some there.2 in
      part_has numbers first until j n (is_behind j listed) (is_before j listed) begun.within there.2
    where
      is_before : (j : ℕ) → slice_get numbers j ≡ Some n → j < until
      is_before j listed =
          elim (cases_Bool (nat_lt j until)) [
            | inl less ↦ ltb-true j until less
            | inr most ↦ absurd (covers-begun-numbers (area_number s.area) (area_number area) s.offset s.size byte
                (at + (len - 1)) (omega (arith, upto)) covered (begun.behind j n s (ltb-false j until most) listed sn))
          ]

      is_behind : (j : ℕ) → slice_get numbers j ≡ Some n → first ≤ j
      is_behind j listed =
          elim (cases_Bool (nat_lt j first)) [
            | inl less ↦ absurd (ended-covers-numbers (area_number s.area) (area_number area) s.offset
                s.size at byte from (ended.before j n s (ltb-true j first less) listed sn) covered)
            | inr most ↦ ltb-false j first most
          ]

  pub in_range : AreInRange symbols area at len (take (until - first) (drop first numbers))
  in_range = record {
    each = each_in_range;
    whole = whole_in_range;
    rising = λ i j m n s t less gm gn sm tn.
        order.rising (first + i) (first + j) m n s t (omega (arith, less)) ((part_at numbers first until i m range_ordered begun.within gm).1)
        ((part_at numbers first until j n range_ordered begun.within gn).1) sm tn;
  }
