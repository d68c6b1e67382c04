-- A type that is read from a text is one that a description may have.
use Rattle.std.proofs.Common.{◌≡◌, ℕ, zero, suc, ◌+◌, ◌≤◌, Bool, true, false, List, [], ◌∷◌, length, map, take, drop, refl, ap, subst, arith, inl, inr}
use Rattle.std.specs.Prelude.{Option, Some, None, option_map, option_and_then, ◌&&◌, ◌==◌, nat_le, nat_lt, ℤ}
use Rattle.std.specs.Prelude.{pos, int_le, neg_ℤ, nat_abs, bytes_eq, codes, ◌+ℤ◌, ◌-ℤ◌, ◌≤ℤ◌}
use Rattle.std.specs.List.{list_all, slice_split, before_first}
use Rattle.std.proofs.lemmas.Bool.{cases_Bool, and_parts, lt-ltb, leb-true}
use Rattle.std.proofs.lemmas.Int.{ints}
use Rattle.name_paths.specs.Number.{number_of, unsigned_of, negated_of, number_of_digits, is_decimal}
use Rattle.name_paths.specs.Name.{is_full_stop}
use Rattle.name_paths.specs.Path.{is_comma}
use Rattle.spec_plant.specs.TypeTexts.{Ends, ends_in_order, ends_of, high_text_of, all_ends_of, dimensions_of}
use Rattle.spec_plant.specs.AcceptedTypes.{is_index, is_bound}
use Rattle.spec_plant.specs.Shapes.{bound_between}

-- two tests that pass
pub both_true : (a b : Bool) → a ≡ true → b ≡ true → (a && b) ≡ true
both_true true true p q = refl
both_true true false p q = q
both_true false b p q = p

unsigned_of-index : (text : List ℕ) (z : ℤ) → unsigned_of text ≡ Some z → is_index z ≡ true
unsigned_of-index text z h =
    elim (cases_Bool (is_decimal text && nat_lt (number_of_digits text) 2147483648)) [
      | inl t ↦
          let f : Some (pos (number_of_digits text)) ≡ Some z = rw t at h in
          let same : pos (number_of_digits text) ≡ z = cc in
          let small = (and_parts (is_decimal text) (nat_lt (number_of_digits text) 2147483648) t).1 in
          let P : ℤ → Type 0 = λ y. is_index y ≡ true in
          subst P same small
      | inr t ↦ let f = rw t at h in cc
    ]

negated-index : (n : ℕ) → n ≤ 2147483648 → is_index (neg_ℤ (pos n)) ≡ true
negated-index zero h = refl
negated-index (suc n) h = lt-ltb n 2147483648 (omega (arith, h))

negated_of-index : (text : List ℕ) (z : ℤ) → negated_of text ≡ Some z → is_index z ≡ true
negated_of-index text z h =
    elim (cases_Bool (is_decimal text && (nat_lt 0 (number_of_digits text) && nat_le (number_of_digits text) 2147483648))) [
      | inl t ↦
          let f : Some (neg_ℤ (pos (number_of_digits text))) ≡ Some z = rw t at h in
          let same : neg_ℤ (pos (number_of_digits text)) ≡ z = cc in
          let inner = (and_parts (is_decimal text) (nat_lt 0 (number_of_digits text) && nat_le (number_of_digits text) 2147483648) t).1 in
          let small = leb-true (number_of_digits text) 2147483648
          ((and_parts (nat_lt 0 (number_of_digits text)) (nat_le (number_of_digits text) 2147483648) inner).1) in
          let P : ℤ → Type 0 = λ y. is_index y ≡ true in
          subst P same (negated-index (number_of_digits text) small)
      | inr t ↦ let f = rw t at h in cc
    ]

pub number_of-index : (text : List ℕ) (z : ℤ) → number_of text ≡ Some z → is_index z ≡ true
number_of-index [] z h = cc
number_of-index (c ∷ cs) z h =
    elim (cases_Bool (c == 45)) [
      | inl t ↦ negated_of-index cs z (rw t at h)
      | inr t ↦ unsigned_of-index (c ∷ cs) z (rw t at h)
    ]

-- bounds in range and in order
abbrev pub good_ends : Ends → Bool
good_ends e = (is_index e.low && is_index e.high) && int_le e.low e.high

high_text_of-index : (text : List ℕ) (z : ℤ) → high_text_of text ≡ Some z → is_index z ≡ true
high_text_of-index text z h =
    elim (cases_Bool (bytes_eq (take 2 text) (codes ".."))) [
      | inl t ↦ number_of-index (drop 2 text) z (rw t at h)
      | inr t ↦ let f = rw t at h in cc
    ]

ends_in_order-good : (low high : ℤ) (e : Ends) → is_index low ≡ true → is_index high ≡ true → ends_in_order low high ≡ Some e → good_ends e ≡ true
ends_in_order-good low high e a b h =
    elim (cases_Bool (int_le low high)) [
      | inl t ↦
          let f : Some (record { low = low; high = high }) ≡ Some e = rw t at h in
          let same : record { low = low; high = high } ≡ e = cc in
          let P : Ends → Type 0 = λ x. good_ends x ≡ true in
          subst P same (both_true (is_index low && is_index high) (int_le low high) (both_true (is_index low) (is_index high) a b) t)
      | inr t ↦ let f = rw t at h in cc
    ]

pub ends_of-good : (text : List ℕ) (e : Ends) → ends_of text ≡ Some e → good_ends e ≡ true
ends_of-good text e h = lows (number_of front) refl h
  where
    front : List ℕ
    front = before_first is_full_stop text

    rest : List ℕ
    rest = drop (length front) text

    highs : (low : ℤ) (o : Option ℤ) → is_index low ≡ true → high_text_of rest ≡ o → option_and_then (ends_in_order low) o ≡ Some e → good_ends e ≡ true
    highs low None a q f = cc
    highs low (Some high) a q f = ends_in_order-good low high e a (high_text_of-index rest high q) f

    lows : (o : Option ℤ) → number_of front ≡ o
        → option_and_then (λ low. option_and_then (ends_in_order low) (high_text_of rest)) o ≡ Some e → good_ends e ≡ true
    lows None q f = cc
    lows (Some low) q f = highs low (high_text_of rest) (number_of-index front low q) refl f

-- all dimensions are good, and there are as many as texts
record AreGoodEnds (n : ℕ) (es : List Ends) : Type 0 where
  each : list_all good_ends es ≡ true
  count : length es ≡ n

all_ends_of-good : (texts : List (List ℕ)) (es : List Ends) → all_ends_of texts ≡ Some es → AreGoodEnds (length texts) es
all_ends_of-good [] es h =
    let same : [] ≡ es = cc in
    let P : List Ends → Type 0 = λ x. AreGoodEnds 0 x in
    subst P same (record { each = refl; count = refl })
all_ends_of-good (text ∷ texts) es h = heads (ends_of text) refl h (λ ds q. all_ends_of-good texts ds q)
  where
    Rest : Type 0
    Rest = (ds : List Ends) → all_ends_of texts ≡ Some ds → AreGoodEnds (length texts) ds

    tails : (d : Ends) (o : Option (List Ends)) → good_ends d ≡ true → all_ends_of texts ≡ o
        → option_map (λ ds. d ∷ ds) o ≡ Some es → Rest → AreGoodEnds (suc (length texts)) es
    tails d None a q f rest = cc
    tails d (Some ds) a q f rest =
        let r = rest ds q in
        let same : (d ∷ ds) ≡ es = cc in
        let P : List Ends → Type 0 = λ x. AreGoodEnds (suc (length texts)) x in
        subst P same (record { each = both_true (good_ends d) (list_all good_ends ds) a r.each; count = ap suc r.count })

    heads : (o : Option Ends) → ends_of text ≡ o → option_and_then (λ d. option_map (λ ds. d ∷ ds) (all_ends_of texts)) o ≡ Some es
        → Rest → AreGoodEnds (suc (length texts)) es
    heads None q f rest = cc
    heads (Some d) q f rest = tails d (all_ends_of texts) (ends_of-good text d q) refl f rest

-- at most three good dimensions
pub record AreDimensions (es : List Ends) : Type 0 where
  pub each : list_all good_ends es ≡ true
  pub few : nat_le (length es) 3 ≡ true

pub dimensions_of-good : (text : List ℕ) (es : List Ends) → dimensions_of text ≡ Some es → AreDimensions es
dimensions_of-good text es h =
    elim (cases_Bool (nat_le (length (slice_split is_comma text)) 3)) [
      | inl t ↦
          let good = all_ends_of-good (slice_split is_comma text) es (rw t at h) in
          record { each = good.each; few = rw good.count t }
      | inr t ↦ let f = rw t at h in cc
    ]

-- the bound between two indexes has them as its least and its greatest
between : (low high : ℤ) → low ≤ℤ high → (low +ℤ pos (nat_abs (high -ℤ low) + 1)) -ℤ pos 1 ≡ high
between low high h = grind (arith, ints)

order_of : (x y : ℤ) → int_le x y ≡ true → x ≤ℤ y
order_of x y h = grind (arith, ints)

bound_between-good : (e : Ends) → good_ends e ≡ true → is_bound (bound_between e) ≡ true
bound_between-good e h =
    let outer = and_parts (is_index e.low && is_index e.high) (int_le e.low e.high) h in
    let inner = and_parts (is_index e.low) (is_index e.high) (outer.0) in
    let high = between e.low e.high (order_of e.low e.high (outer.1)) in
    let some = lt-ltb 0 (nat_abs (e.high -ℤ e.low) + 1) (omega arith) in
    rw (some, inner.0, high, inner.1) refl

pub bounds_between-good : (es : List Ends) → list_all good_ends es ≡ true → list_all is_bound (map bound_between es) ≡ true
bounds_between-good [] h = refl
bounds_between-good (e ∷ es) h =
    let parts = and_parts (good_ends e) (list_all good_ends es) h in
    both_true (is_bound (bound_between e)) (list_all is_bound (map bound_between es)) (bound_between-good e (parts.0)) (bounds_between-good es (parts.1))
