-- Keys of symbols, and what sorting them gives.
use Rattle.std.proofs.Common.{◌≡◌, ℕ, zero, suc, ◌+◌, ◌<◌, false, List, [], ◌∷◌, ◌++◌, map, length, get_or, refl, ◌∙◌, ap, subst, arith}
use Rattle.std.specs.Prelude.{Some, slice_get}
use Rattle.std.specs.Global.{Vec}
use Rattle.std.specs.declared.cmp.Ordering.{Ordering}
use Rattle.std.specs.declared.cmp.Ordering.TheVariants.{Less, Equal, Greater}
use Rattle.std.specs.Ordering.{ordering_then, ordering_reverse, nat_cmp, is_gt, is_lt}
use Rattle.std.specs.Cmp.{IsTotalOrder}
use Rattle.std.specs.Cmp.Lexicographic.{slice_cmp}
use Rattle.std.specs.List.{All, Contains}
use Rattle.std.specs.List.Sorted.{IsSortedBy, IsPermutation}
use Rattle.std.proofs.lemmas.Cmp.{nat_list_cmp_total, nat_cmp_total, lists_total, on_total, then_total}
use Rattle.std.proofs.lemmas.List.{get_or-map, length-map}
use Rattle.std.proofs.lemmas.List.MinMax.{ranks_by}
use Rattle.std.proofs.lemmas.List.Elements.{All-nil, All-cons, Contains-append_right}
use Rattle.std.proofs.lemmas.List.Sorted.{sorted_far, length_permutation, All-permutation, Contains-permutation}
use Rattle.symbol_table.specs.Tables.{TableSymbol}
use Rattle.symbol_table.specs.NameKeys.{NameKey, key_of, name_cmp, identifiers_at, identifiers_in, IsRising}
use Rattle.symbol_table.specs.NamesInOrder.{name_key, keys_from, IsKeyAmong, AreKeysOf}

-- keys of symbols

pub keys_from-push : (n : ℕ) (symbols : List TableSymbol) (s : TableSymbol)
    → keys_from n (symbols ++ s ∷ []) ≡ keys_from n symbols ++ name_key s.name (n + length symbols) ∷ []
keys_from-push n [] s = let e : n + 0 ≡ n = omega arith in rw e refl
keys_from-push n (t ∷ symbols) s =
    let e : n + 1 + length symbols ≡ n + length (t ∷ symbols) = omega arith in
    ap (λ keys. name_key t.name n ∷ keys) (keys_from-push (n + 1) symbols s ∙ ap (λ m. keys_from (n + 1) symbols ++ name_key s.name m ∷ []) e)

length-keys_from : (n : ℕ) (symbols : List TableSymbol) → length (keys_from n symbols) ≡ length symbols
length-keys_from n [] = refl
length-keys_from n (s ∷ symbols) = let rest = length-keys_from (n + 1) symbols in omega (arith, rest)

each_from : (n : ℕ) (symbols rest : List TableSymbol)
    → ((i : ℕ) (s : TableSymbol) → slice_get rest i ≡ Some s → slice_get symbols (n + i) ≡ Some s) → All (IsKeyAmong symbols) (keys_from n rest)
each_from n symbols [] h = All-nil (IsKeyAmong symbols)
each_from n symbols (s ∷ rest) h =
    let e : n + 0 ≡ n = omega arith in
    let first : slice_get symbols n ≡ Some s = rw e at (h zero s refl) in
    All-cons (IsKeyAmong symbols) (name_key s.name n) (keys_from (n + 1) rest)
    (record { owner = s; there = first; name = refl }) (each_from (n + 1) symbols rest (λ i t g. shift i t g))
  where
    shift : (i : ℕ) (t : TableSymbol) → slice_get rest i ≡ Some t → slice_get symbols (n + 1 + i) ≡ Some t
    shift i t g =
        let e : n + suc i ≡ n + 1 + i = omega arith in
        rw e at (h (suc i) t g)

whole_from : (n : ℕ) (rest : List TableSymbol) (i : ℕ) (s : TableSymbol) → slice_get rest i ≡ Some s → Contains (keys_from n rest) (name_key s.name (n + i))
whole_from n [] i s g = cc
whole_from n (t ∷ rest) zero s g =
    let same : t ≡ s = cc in
    let e : n + 0 ≡ n = omega arith in
    let P : TableSymbol → Type 0 = λ u. Contains (keys_from n (t ∷ rest)) (name_key u.name n) in
    rw e (subst P same (0, omega arith, refl))
whole_from n (t ∷ rest) (suc i) s g =
    let e : n + 1 + i ≡ n + suc i = omega arith in
    let there : Contains (keys_from (n + 1) rest) (name_key s.name (n + suc i)) = rw e at (whole_from (n + 1) rest i s g) in
    Contains-append_right (name_key t.name n ∷ []) (keys_from (n + 1) rest) (name_key s.name (n + suc i)) there

keys_are : (symbols : List TableSymbol) → AreKeysOf symbols (keys_from 0 symbols)
keys_are symbols = record {
  count = length-keys_from 0 symbols;
  each = each_from 0 symbols symbols (λ i s g. let e : 0 + i ≡ i = omega arith in rw e g);
  whole = λ n s g. let e : 0 + n ≡ n = omega arith in rw e at (whole_from 0 symbols n s g);
}

-- in any order they are the keys
pub keys_permuted : (symbols : List TableSymbol) (keys : List NameKey) → IsPermutation (keys_from 0 symbols) keys → AreKeysOf symbols keys
keys_permuted symbols keys p =
    let are = keys_are symbols in
    record {
      count = length_permutation (keys_from 0 symbols) keys p ∙ are.count;
      each = All-permutation (IsKeyAmong symbols) (keys_from 0 symbols) keys p are.each;
      whole = λ n s g. Contains-permutation (keys_from 0 symbols) keys (name_key s.name n) p (are.whole n s g);
    }

-- sorting

abbrev pub texts_cmp : List (Vec ℕ) → List (Vec ℕ) → Ordering
texts_cmp = slice_cmp (λ a b. slice_cmp nat_cmp a.items b.items)

abbrev pub entry_cmp : Vec (Vec ℕ) × ℕ → Vec (Vec ℕ) × ℕ → Ordering
entry_cmp x y = ordering_then (texts_cmp x.0.items y.0.items) (nat_cmp x.1 y.1)

entry_cmp_total : IsTotalOrder entry_cmp
entry_cmp_total = then_total (on_total (λ (e : Vec (Vec ℕ) × ℕ). e.0.items) (lists_total (on_total (λ (v : Vec ℕ). v.items) nat_list_cmp_total)))
    (on_total (λ (e : Vec (Vec ℕ) × ℕ). e.1) nat_cmp_total)

texts_cmp-items : (xs ys : List (Vec ℕ)) → texts_cmp xs ys ≡ name_cmp (identifiers_in xs) (identifiers_in ys)
texts_cmp-items [] [] = refl
texts_cmp-items [] (y ∷ ys) = refl
texts_cmp-items (x ∷ xs) [] = refl
texts_cmp-items (x ∷ xs) (y ∷ ys) = ap (ordering_then (slice_cmp nat_cmp x.items y.items)) (texts_cmp-items xs ys)

not_behind : (o p : Ordering) → is_lt (ordering_then o p) ≡ false → is_gt (ordering_reverse o) ≡ false
not_behind Less p h = cc
not_behind Equal p h = refl
not_behind Greater p h = refl

rising_at : (entries : List (Vec (Vec ℕ) × ℕ)) (d : Vec (Vec ℕ) × ℕ) → IsSortedBy (λ x y. is_lt (entry_cmp x y)) entries → IsRising (map key_of entries)
rising_at entries d sorted i j upto below =
    let within : j < length entries = rw length-map at below in
    let one = get_or entries i d in
    let other = get_or entries j d in
    let far : is_lt (entry_cmp other one) ≡ false =
    sorted_far (λ x y. is_lt (entry_cmp x y)) (ranks_by entry_cmp_total (λ (x : Vec (Vec ℕ) × ℕ). x)) entries sorted i j d upto within in
    let key_i : identifiers_at (map key_of entries) i ≡ identifiers_in one.0.items
    = ap (λ (k : NameKey). k.identifiers) (get_or-map key_of entries i d (record { identifiers = []; symbol = 0 }) (omega (arith, upto, within))) in
    let key_j : identifiers_at (map key_of entries) j ≡ identifiers_in other.0.items
    = ap (λ (k : NameKey). k.identifiers) (get_or-map key_of entries j d (record { identifiers = []; symbol = 0 }) within) in
    let back : name_cmp (identifiers_in one.0.items) (identifiers_in other.0.items)
    ≡ ordering_reverse (name_cmp (identifiers_in other.0.items) (identifiers_in one.0.items))
    = (lists_total nat_list_cmp_total).antisymm (identifiers_in one.0.items) (identifiers_in other.0.items) in
    let level : is_gt (ordering_reverse (name_cmp (identifiers_in other.0.items) (identifiers_in one.0.items))) ≡ false
    = not_behind (name_cmp (identifiers_in other.0.items) (identifiers_in one.0.items)) (nat_cmp other.1 one.1) (rw texts_cmp-items at far) in
    rw (key_i, key_j, back) level

pub rising_from_sorted : (entries : List (Vec (Vec ℕ) × ℕ)) → IsSortedBy (λ x y. is_lt (entry_cmp x y)) entries → IsRising (map key_of entries)
rising_from_sorted [] sorted = λ i j upto below. absurd (omega (arith, below))
rising_from_sorted (e ∷ es) sorted = rising_at (e ∷ es) e sorted
