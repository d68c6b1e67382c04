-- A canonical text is read back as the type that it was written for.
use Rattle.std.proofs.Common.{◌≡◌, ℕ, zero, suc, Bool, true, false, List, [], ◌∷◌, ◌++◌, length, map, take}
use Rattle.std.proofs.Common.{drop, refl, ◌∙◌, ap, arith, append_assoc, append-nil, inl, inr}
use Rattle.std.specs.Prelude.{Some, ◌==◌, not, nat_le, ℤ, pos, int_le, ◌+ℤ◌, ◌-ℤ◌, ◌≤ℤ◌, nat_lt}
use Rattle.std.specs.List.{list_all, before_first, position_or_len, slice_split, onto_first}
use Rattle.std.specs.Char.{is_ascii_digit}
use Rattle.std.proofs.lemmas.Int.{ints}
use Rattle.std.specs.Fmt.{signed_decimal}
use Rattle.std.proofs.lemmas.Bool.{cases_Bool, eqb-true, and_parts}
use Rattle.std.proofs.lemmas.List.Folds.{list_all-append}
use Rattle.name_paths.specs.Name.{is_full_stop}
use Rattle.name_paths.specs.Path.{is_comma}
use Rattle.spec_plant.specs.Listed.{Bound}
use Rattle.spec_plant.specs.Spelling.{bound_text, high_of, joined_by_comma}
use Rattle.spec_plant.specs.TypeTexts.{is_closing, ends_of, all_ends_of, dimensions_of}
use Rattle.spec_plant.specs.AcceptedTypes.{is_index, is_bound, are_bounds}
use Rattle.spec_plant.specs.WrittenTypes.{ends_of_bound}
use Rattle.spec_plant.proofs.NumberTexts.{IsStop, signed_decimal-free, number_of-signed_decimal}

-- a text up to a stop that it has not
abbrev pub free_of : (ℕ → Bool) → List ℕ → Bool
free_of p xs = list_all (λ c. not (p c)) xs

not-true : (b : Bool) → not b ≡ true → b ≡ false
not-true true e = cc
not-true false e = refl

position-stop : (p : ℕ → Bool) (xs ys : List ℕ) (s : ℕ) → free_of p xs ≡ true → p s ≡ true → position_or_len p (xs ++ s ∷ ys) ≡ length xs
position-stop p [] ys s free stop = rw stop refl
position-stop p (x ∷ xs) ys s free stop =
    let parts = and_parts (not (p x)) (free_of p xs) free in
    let passes = not-true (p x) (parts.0) in
    let rest = position-stop p xs ys s (parts.1) stop in
    rw (passes, rest) (omega arith)

pub take-front : (xs ys : List ℕ) → take (length xs) (xs ++ ys) ≡ xs
take-front [] ys = refl
take-front (x ∷ xs) ys = ap (λ rest. x ∷ rest) (take-front xs ys)

pub drop-front : (xs ys : List ℕ) → drop (length xs) (xs ++ ys) ≡ ys
drop-front [] ys = refl
drop-front (x ∷ xs) ys = drop-front xs ys

pub before-stop : (p : ℕ → Bool) (xs ys : List ℕ) (s : ℕ) → free_of p xs ≡ true → p s ≡ true → before_first p (xs ++ s ∷ ys) ≡ xs
before-stop p xs ys s free stop = rw (position-stop p xs ys s free stop) (take-front xs (s ∷ ys))

split-stop : (p : ℕ → Bool) (xs ys : List ℕ) (s : ℕ) → free_of p xs ≡ true → p s ≡ true → slice_split p (xs ++ s ∷ ys) ≡ xs ∷ slice_split p ys
split-stop p [] ys s free stop = rw stop refl
split-stop p (x ∷ xs) ys s free stop =
    let parts = and_parts (not (p x)) (free_of p xs) free in
    let passes = not-true (p x) (parts.0) in
    rw passes (ap (onto_first x) (split-stop p xs ys s (parts.1) stop))

split-free : (p : ℕ → Bool) (xs : List ℕ) → free_of p xs ≡ true → slice_split p xs ≡ xs ∷ []
split-free p [] free = refl
split-free p (x ∷ xs) free =
    let parts = and_parts (not (p x)) (free_of p xs) free in
    let passes = not-true (p x) (parts.0) in
    rw passes (ap (onto_first x) (split-free p xs (parts.1)))

digit_is_not : (s : ℕ) → is_ascii_digit s ≡ false → (c : ℕ) → is_ascii_digit c ≡ true → not (c == s) ≡ true
digit_is_not s none c digit =
    elim (cases_Bool (c == s)) [
      | inl t ↦
          let same : is_ascii_digit c ≡ is_ascii_digit s = ap is_ascii_digit (eqb-true c s t) in
          cc
      | inr t ↦ rw t refl
    ]

full_stop : IsStop is_full_stop
full_stop = record { digit = digit_is_not 46 refl; minus = refl }

comma : IsStop is_comma
comma = record { digit = digit_is_not 44 refl; minus = refl }

closing : IsStop is_closing
closing = record { digit = digit_is_not 93 refl; minus = refl }

-- the greatest index is not below the least one
low_le_high : (low : ℤ) (n : ℕ) → low ≤ℤ ((low +ℤ pos (suc n)) -ℤ pos 1)
low_le_high low n = omega (arith, ints)

int_le-yes : (x y : ℤ) → x ≤ℤ y → int_le x y ≡ true
int_le-yes x y h = grind (arith, ints)

in_order : (b : Bound) → nat_lt 0 b.count ≡ true → int_le b.low (high_of b) ≡ true
in_order b some = go b.count some
  where
    go : (n : ℕ) → nat_lt 0 n ≡ true → int_le b.low ((b.low +ℤ pos n) -ℤ pos 1) ≡ true
    go zero e = cc
    go (suc n) e = int_le-yes b.low ((b.low +ℤ pos (suc n)) -ℤ pos 1) (low_le_high b.low n)

-- what a bound writes, with its two full stops
bound_text-parts : (b : Bound) → bound_text b ≡ signed_decimal b.low ++ 46 ∷ (46 ∷ signed_decimal (high_of b))
bound_text-parts b = append_assoc (signed_decimal b.low) (46 ∷ 46 ∷ []) (signed_decimal (high_of b))

-- the parts of an accepted bound
record IsGoodBound (b : Bound) : Type 0 where
  some : nat_lt 0 b.count ≡ true
  low : is_index b.low ≡ true
  high : is_index (high_of b) ≡ true

good_bound : (b : Bound) → is_bound b ≡ true → IsGoodBound b
good_bound b h =
    let outer = and_parts _ _ h in
    let inner = and_parts _ _ (outer.0) in
    record { some = inner.0; low = inner.1; high = outer.1 }

ends_of-bound_text : (b : Bound) → is_bound b ≡ true → ends_of (bound_text b) ≡ Some (ends_of_bound b)
ends_of-bound_text b h =
    let good = good_bound b h in
    let low = signed_decimal b.low in
    let rest = 46 ∷ signed_decimal (high_of b) in
    let parts = bound_text-parts b in
    let free = signed_decimal-free is_full_stop full_stop b.low good.low in
    let before = before-stop is_full_stop low rest 46 free refl in
    let behind = drop-front low (46 ∷ rest) in
    let low_is = number_of-signed_decimal b.low good.low in
    let high_is = number_of-signed_decimal (high_of b) good.high in
    let order = in_order b good.some in
    rw (parts, before, behind, low_is, high_is, order) refl

-- a bound has no comma and no closing bracket
bound_text-free : (p : ℕ → Bool) → IsStop p → not (p 46) ≡ true → (b : Bound) → is_bound b ≡ true → free_of p (bound_text b) ≡ true
bound_text-free p s dot b h =
    let good = good_bound b h in
    let low = signed_decimal-free p s b.low good.low in
    let high = signed_decimal-free p s (high_of b) good.high in
    let split = list_all-append (λ c. not (p c)) (signed_decimal b.low) (46 ∷ (46 ∷ signed_decimal (high_of b))) in
    rw (bound_text-parts b, split, low, dot, high) refl

-- bounds joined by commas
split_bounds : (b : Bound) (bs : List Bound) → list_all is_bound (b ∷ bs) ≡ true
    → slice_split is_comma (joined_by_comma (map bound_text (b ∷ bs))) ≡ map bound_text (b ∷ bs)
split_bounds b [] h =
    let good = (and_parts (is_bound b) true h).0 in
    rw append-nil (split-free is_comma (bound_text b) (bound_text-free is_comma comma refl b good))
split_bounds b (c ∷ cs) h =
    let parts = and_parts (is_bound b) (list_all is_bound (c ∷ cs)) h in
    let free = bound_text-free is_comma comma refl b (parts.0) in
    let rest = split_bounds c cs (parts.1) in
    split-stop is_comma (bound_text b) (joined_by_comma (map bound_text (c ∷ cs))) 44 free refl ∙ ap (λ texts. bound_text b ∷ texts) rest

all_ends_of-bounds : (bs : List Bound) → list_all is_bound bs ≡ true → all_ends_of (map bound_text bs) ≡ Some (map ends_of_bound bs)
all_ends_of-bounds [] h = refl
all_ends_of-bounds (b ∷ bs) h =
    let parts = and_parts (is_bound b) (list_all is_bound bs) h in
    rw (ends_of-bound_text b (parts.0), all_ends_of-bounds bs (parts.1)) refl

pub joined-free : (b : Bound) (bs : List Bound) → list_all is_bound (b ∷ bs) ≡ true → free_of is_closing (joined_by_comma (map bound_text (b ∷ bs))) ≡ true
joined-free b [] h =
    let good = (and_parts (is_bound b) true h).0 in
    rw append-nil (bound_text-free is_closing closing refl b good)
joined-free b (c ∷ cs) h =
    let parts = and_parts (is_bound b) (list_all is_bound (c ∷ cs)) h in
    let split = list_all-append (λ x. not (is_closing x)) (bound_text b) (44 ∷ joined_by_comma (map bound_text (c ∷ cs))) in
    rw (split, bound_text-free is_closing closing refl b (parts.0), joined-free c cs (parts.1)) refl

length-map-bounds : (bs : List Bound) → length (map bound_text bs) ≡ length bs
length-map-bounds [] = refl
length-map-bounds (b ∷ bs) = ap suc (length-map-bounds bs)

-- the dimensions of an array are read back
pub dimensions_of-bounds : (bs : List Bound) → are_bounds bs ≡ true → dimensions_of (joined_by_comma (map bound_text bs)) ≡ Some (map ends_of_bound bs)
dimensions_of-bounds [] h = cc
dimensions_of-bounds (b ∷ bs) h =
    let outer = and_parts _ _ h in
    let inner = and_parts _ _ (outer.0) in
    let few : nat_le (length (map bound_text (b ∷ bs))) 3 ≡ true = rw length-map-bounds (inner.1) in
    let split = split_bounds b bs (outer.1) in
    rw (split, few) (all_ends_of-bounds (b ∷ bs) (outer.1))
