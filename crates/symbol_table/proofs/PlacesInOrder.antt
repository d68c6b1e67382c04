-- Places of symbols, and what sorting them gives.
use Rattle.std.proofs.Common.{◌≡◌, ℕ, zero, suc, ◌+◌, ◌<◌, ◌≤◌, true, false, List, [], ◌∷◌, ◌++◌, map, length}
use Rattle.std.proofs.Common.{get_or, refl, sym, ◌∙◌, ap, subst, arith, inl, inr, eqb}
use Rattle.std.specs.Prelude.{Bool, Some, slice_get, nat_lt, nat_le, ◌&&◌, ◌||◌, not, ◌⊎◌, ◌==◌}
use Rattle.std.specs.declared.cmp.Ordering.{Ordering}
use Rattle.std.specs.declared.cmp.Ordering.TheVariants.{Less, Equal, Greater}
use Rattle.std.specs.Ordering.{ordering_then, nat_cmp, is_lt, MatchOrdering}
use Rattle.std.specs.Cmp.{IsTotalOrder}
use Rattle.std.specs.List.{All, Contains, list_all, range_with_len, IsDistinct}
use Rattle.std.specs.List.Sorted.{IsSortedBy, IsPermutation}
use Rattle.std.proofs.lemmas.Cmp.{nat_cmp_total, on_total, then_total, ranked, nat_eq_equiv}
use Rattle.std.proofs.lemmas.Bool.{cases_Bool, and_parts, ltb-true}
use Rattle.std.proofs.lemmas.Bool.Decides.{nat_tests}
use Rattle.std.proofs.lemmas.List.FromFn.{length-range_with_len, get_or-range_with_len}
use Rattle.std.proofs.lemmas.Map.Keys.{IsDistinct-IsPermutation, IsDistinct-from_apart, apart_from_distinct}
use Rattle.std.proofs.lemmas.List.MinMax.{ranks_by}
use Rattle.std.proofs.lemmas.List.Elements.{All-nil, All-cons}
use Rattle.std.proofs.lemmas.List.Sorted.{sorted_far, length_permutation, All-permutation, Contains-permutation, IsPermutation-map}
use Rattle.std.proofs.lemmas.Option.{slice_get_within, get_or_from_slice_get}
use Rattle.spec_plant.specs.World.{area_number}
use Rattle.spec_plant.specs.AcceptedTypes.{all_pairs}
use Rattle.spec_plant.proofs.TypeLemmas.{list_all-get}
use Rattle.symbol_table.specs.Tables.{TableSymbol}
use Rattle.symbol_table.specs.PlaceOrders.{has_bytes, lie_apart, lies_before, IsPlaceOrder}
use Rattle.symbol_table.specs.PlaceKeys.{place_key, places_from, numbers_of}

-- places of symbols

pub places_from-push : (n : ℕ) (symbols : List TableSymbol) (s : TableSymbol)
    → places_from n (symbols ++ s ∷ []) ≡ places_from n symbols ++ place_key s (n + length symbols) ∷ []
places_from-push n [] s = let e : n + 0 ≡ n = omega arith in rw e refl
places_from-push n (t ∷ symbols) s =
    let e : n + 1 + length symbols ≡ n + length (t ∷ symbols) = omega arith in
    ap (λ places. place_key t n ∷ places) (places_from-push (n + 1) symbols s ∙ ap (λ m. places_from (n + 1) symbols ++ place_key s m ∷ []) e)

numbers-places_from : (n : ℕ) (symbols : List TableSymbol) → numbers_of (places_from n symbols) ≡ range_with_len n (length symbols)
numbers-places_from n [] = refl
numbers-places_from n (s ∷ symbols) = ap (λ numbers. n ∷ numbers) (numbers-places_from (n + 1) symbols)

-- the place of one of these symbols
pub record IsPlaceAmong (symbols : List TableSymbol) (place : ℕ × ℕ × ℕ) : Type 0 where
  pub owner : TableSymbol
  pub there : slice_get symbols place.2 ≡ Some owner
  pub area : place.0 ≡ area_number owner.area
  pub offset : place.1 ≡ owner.offset

each_from : (n : ℕ) (symbols rest : List TableSymbol)
    → ((i : ℕ) (s : TableSymbol) → slice_get rest i ≡ Some s → slice_get symbols (n + i) ≡ Some s) → All (IsPlaceAmong symbols) (places_from n rest)
each_from n symbols [] h = All-nil (IsPlaceAmong symbols)
each_from n symbols (s ∷ rest) h =
    let e : n + 0 ≡ n = omega arith in
    let first : slice_get symbols n ≡ Some s = rw e at (h zero s refl) in
    All-cons (IsPlaceAmong symbols) (place_key s n) (places_from (n + 1) rest)
    (record { owner = s; there = first; area = refl; offset = refl }) (each_from (n + 1) symbols rest (λ i t g. shift i t g))
  where
    shift : (i : ℕ) (t : TableSymbol) → slice_get rest i ≡ Some t → slice_get symbols (n + 1 + i) ≡ Some t
    shift i t g =
        let e : n + suc i ≡ n + 1 + i = omega arith in
        rw e at (h (suc i) t g)

each_is : (symbols : List TableSymbol) → All (IsPlaceAmong symbols) (places_from 0 symbols)
each_is symbols = each_from 0 symbols symbols (λ i s g. let e : 0 + i ≡ i = omega arith in rw e g)

-- sorting

abbrev pub place_cmp : ℕ × ℕ × ℕ → ℕ × ℕ × ℕ → Ordering
place_cmp p q = ordering_then (ordering_then (nat_cmp p.0 q.0) (nat_cmp p.1 q.1)) (nat_cmp p.2 q.2)

place_cmp_total : IsTotalOrder place_cmp
place_cmp_total =
    then_total (then_total (on_total (λ (p : ℕ × ℕ × ℕ). p.0) nat_cmp_total) (on_total (λ (p : ℕ × ℕ × ℕ). p.1) nat_cmp_total))
    (on_total (λ (p : ℕ × ℕ × ℕ). p.2) nat_cmp_total)

-- a place that does not stand before another stands in a later area, or in the same one and not before it
not_less_parts : (a b c d : ℕ) (o q r : Ordering) → MatchOrdering o (a < b) (a ≡ b) (b < a)
    → MatchOrdering q (c < d) (c ≡ d) (d < c) → is_lt (ordering_then (ordering_then o q) r) ≡ false
    → (b < a) ⊎ ((b ≡ a) × (d ≤ c))
not_less_parts a b c d Less q r h k e = cc
not_less_parts a b c d Equal Less r h k e = cc
not_less_parts a b c d Equal Equal r h k e = inr (sym h, omega (arith, k))
not_less_parts a b c d Equal Greater r h k e = inr (sym h, omega (arith, k))
not_less_parts a b c d Greater q r h k e = inl h

not_less : (p q : ℕ × ℕ × ℕ) → is_lt (place_cmp q p) ≡ false → (p.0 < q.0) ⊎ ((p.0 ≡ q.0) × (p.1 ≤ q.1))
not_less p q h =
    not_less_parts q.0 p.0 q.1 p.1 (nat_cmp q.0 p.0) (nat_cmp q.1 p.1) (nat_cmp q.2 p.2)
    (ranked q.0 p.0 (nat_cmp q.0 p.0) refl) (ranked q.1 p.1 (nat_cmp q.1 p.1) refl) h

-- a symbol of n bytes at a in the area x, and one of m bytes at b in the area y, where the first does not begin later
before_numbers : (x y a n b m : ℕ) → (x < y) ⊎ ((x ≡ y) × (a ≤ b)) → nat_lt 0 m ≡ true → (not (x == y) || nat_le (a + n) b || nat_le (b + m) a) ≡ true
    → (nat_lt x y || ((x == y) && nat_le (a + n) b)) ≡ true
before_numbers x y a n b m order bytes apart = grind (arith, nat_tests)

apart_numbers : (x y a n b m : ℕ) → (not (x == y) || nat_le (a + n) b || nat_le (b + m) a) ≡ true
    → (not (y == x) || nat_le (b + m) a || nat_le (a + n) b) ≡ true
apart_numbers x y a n b m apart = grind (arith, nat_tests)

-- what holds of any two, the earlier first
pub pair_at : {X : Type 0} (test : X → X → Bool) (xs : List X) (i j : ℕ) (x y : X)
    → all_pairs test xs ≡ true → i < j → slice_get xs i ≡ Some x → slice_get xs j ≡ Some y → test x y ≡ true
pair_at test [] i j x y h less e f = cc
pair_at test (z ∷ zs) i zero x y h less e f = absurd (omega (arith, less))
pair_at {X} test (z ∷ zs) zero (suc j) x y h less e f =
    let parts = and_parts (list_all (test z) zs) (all_pairs test zs) h in
    let is_it : z ≡ x = cc in
    let Q : X → Type 0 = λ w. test w y ≡ true in
    subst Q is_it (list_all-get (test z) zs j y parts.0 f)
pair_at test (z ∷ zs) (suc i) (suc j) x y h less e f =
    pair_at test zs i j x y ((and_parts (list_all (test z) zs) (all_pairs test zs) h).1) (omega (arith, less)) e f

-- an element of a mapped list
pub mapped_at : {X Y : Type 0} (f : X → Y) (xs : List X) (i : ℕ) (y : Y) → slice_get (map f xs) i ≡ Some y → (x : X) × (slice_get xs i ≡ Some x) × (f x ≡ y)
mapped_at f [] i y e = cc
mapped_at f (x ∷ xs) zero y e = (x, refl, cc)
mapped_at f (x ∷ xs) (suc i) y e = mapped_at f xs i y e

-- the place at an index
place_at : (symbols : List TableSymbol) (places : List (ℕ × ℕ × ℕ)) (i : ℕ) (p : ℕ × ℕ × ℕ)
    → All (IsPlaceAmong symbols) places → slice_get places i ≡ Some p → IsPlaceAmong symbols p
place_at symbols places i p each e = subst (IsPlaceAmong symbols) (get_or_from_slice_get places i p p e) (each i p (slice_get_within places i p e))

owner_is : (symbols : List TableSymbol) (p : ℕ × ℕ × ℕ) (m : ℕ) (s : TableSymbol) (among : IsPlaceAmong symbols p)
    → p.2 ≡ m → slice_get symbols m ≡ Some s → (p.0 ≡ area_number s.area) × (p.1 ≡ s.offset)
owner_is symbols p m s among number e =
    let there : slice_get symbols m ≡ Some among.owner = ap (slice_get symbols) (sym number) ∙ among.there in
    let same : among.owner ≡ s = cc in
    (among.area ∙ ap (λ (t : TableSymbol). area_number t.area) same, among.offset ∙ ap (λ (t : TableSymbol). t.offset) same)

module _ (symbols : List TableSymbol) (places : List (ℕ × ℕ × ℕ)) (bytes : list_all has_bytes symbols ≡ true)
    (apart : all_pairs lie_apart symbols ≡ true) (moved : IsPermutation (places_from 0 symbols) places)
    (sorted : IsSortedBy (λ p q. is_lt (place_cmp p q)) places) where
  numbers_moved : IsPermutation (range_with_len 0 (length symbols)) (numbers_of places)
  numbers_moved =
      let P : List ℕ → Type 0 = λ numbers. IsPermutation numbers (numbers_of places) in
      subst P (numbers-places_from 0 symbols) (IsPermutation-map (λ (p : ℕ × ℕ × ℕ). p.2) (places_from 0 symbols) places moved)

  distinct : IsDistinct eqb (numbers_of places)
  distinct = IsDistinct-IsPermutation eqb nat_eq_equiv.symm (range_with_len 0 (length symbols))
      (numbers_of places) numbers_moved (IsDistinct-from_apart eqb (range_with_len 0 (length symbols)) differ)
    where
      differ : (i j d : ℕ) → i < j → j < length (range_with_len 0 (length symbols))
          → eqb (get_or (range_with_len 0 (length symbols)) i d) (get_or (range_with_len 0 (length symbols)) j d) ≡ false
      differ i j d less below =
          let within : j < length symbols = rw length-range_with_len at below in
          let at_i = get_or-range_with_len 0 (length symbols) i d (omega (arith, less, within)) in
          let at_j = get_or-range_with_len 0 (length symbols) j d within in
          rw (at_i, at_j) (grind (arith, nat_tests))

  -- two symbols at different numbers share no byte
  apart_at : (m n : ℕ) (s t : TableSymbol) → eqb m n ≡ false → slice_get symbols m ≡ Some s → slice_get symbols n ≡ Some t → lie_apart s t ≡ true
  apart_at m n s t other e f =
      elim (cases_Bool (nat_lt m n)) [
        | inl less ↦ pair_at lie_apart symbols m n s t apart (ltb-true m n less) e f
        | inr not_less_ ↦
            let more : n < m = grind (arith, nat_tests) in
            apart_numbers (area_number t.area) (area_number s.area) t.offset t.size s.offset s.size (pair_at lie_apart symbols n m t s apart more f e)
      ]

  in_order : (i j m n : ℕ) (s t : TableSymbol) → i < j → slice_get (numbers_of places) i ≡ Some m → slice_get (numbers_of places) j ≡ Some n
      → slice_get symbols m ≡ Some s → slice_get symbols n ≡ Some t → lies_before s t ≡ true
  in_order i j m n s t less gm gn sm tn =
      let p = mapped_at (λ (x : ℕ × ℕ × ℕ). x.2) places i m gm in
      let q = mapped_at (λ (x : ℕ × ℕ × ℕ). x.2) places j n gn in
      let below = slice_get_within places j q.0 q.1 in
      let each = All-permutation (IsPlaceAmong symbols) (places_from 0 symbols) places moved (each_is symbols) in
      let one = owner_is symbols p.0 m s (place_at symbols places i p.0 each p.1) p.2 sm in
      let other = owner_is symbols q.0 n t (place_at symbols places j q.0 each q.1) q.2 tn in
      let far = sorted_far (λ x y. is_lt (place_cmp x y)) (ranks_by place_cmp_total (λ (x : ℕ × ℕ × ℕ). x)) places sorted i j p.0 (omega (arith, less)) below in
      let far_is : is_lt (place_cmp q.0 p.0) ≡ false = rw (get_or_from_slice_get places j q.0 p.0 q.1, get_or_from_slice_get places i p.0 p.0 p.1) at far in
      let order : (area_number s.area < area_number t.area) ⊎ ((area_number s.area ≡ area_number t.area) × (s.offset ≤ t.offset))
      = rw (one.0, one.1, other.0, other.1) at (not_less p.0 q.0 far_is) in
      let differ : eqb m n ≡ false
      = rw (get_or_from_slice_get (numbers_of places) i m 0 gm, get_or_from_slice_get (numbers_of places) j n 0 gn) at
      (apart_from_distinct eqb (numbers_of places) i j 0 distinct less (slice_get_within (numbers_of places) j n gn)) in
      before_numbers (area_number s.area) (area_number t.area) s.offset s.size t.offset t.size order
      (list_all-get has_bytes symbols n t bytes tn) (apart_at m n s t differ sm tn)

  pub in_place_order : IsPlaceOrder symbols (numbers_of places)
  in_place_order = record {
    count = length_permutation (range_with_len 0 (length symbols)) (numbers_of places) numbers_moved ∙ length-range_with_len 0 (length symbols);
    each = All-permutation (λ n. n < length symbols) (range_with_len 0 (length symbols)) (numbers_of places) numbers_moved all_below;
    whole = λ n below. Contains-permutation (range_with_len 0 (length symbols)) (numbers_of places) n numbers_moved (there n below);
    rising = in_order;
  }
    where
      all_below : All (λ n. n < length symbols) (range_with_len 0 (length symbols))
      all_below k d below =
          let within : k < length symbols = rw length-range_with_len at below in
          let at_k = get_or-range_with_len 0 (length symbols) k d within in
          omega (arith, within, at_k)

      there : (n : ℕ) → n < length symbols → Contains (range_with_len 0 (length symbols)) n
      there n below =
          let at_n = get_or-range_with_len 0 (length symbols) n n below in
          let zero_more : 0 + n ≡ n = omega arith in
          (n, rw length-range_with_len below, at_n ∙ zero_more)
