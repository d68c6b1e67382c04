-- How names in order stand to a path: where one stands before or behind the path, so do those before or behind it.
use Rattle.std.proofs.Common.{◌≡◌, ℕ, ◌<◌, ◌≤◌, true, false, List, [], ◌∷◌, length, refl, sym, ◌∙◌, ap, inl, inr, arith}
use Rattle.std.specs.Prelude.{◌⊎◌, bytes_eq}
use Rattle.std.specs.declared.cmp.Ordering.{Ordering}
use Rattle.std.specs.declared.cmp.Ordering.TheVariants.{Less, Equal, Greater}
use Rattle.std.specs.Ordering.{ordering_then, ordering_reverse, nat_cmp, is_gt}
use Rattle.std.specs.Cmp.Lexicographic.{slice_cmp}
use Rattle.std.specs.List.{starts_with}
use Rattle.std.proofs.lemmas.Cmp.{nat_list_cmp_total, alike_right, ranked}
use Rattle.std.proofs.lemmas.Slice.Eq.{bytes_eq-Decides}
use Rattle.symbol_table.specs.NameKeys.{NameKey, order_to_path, name_cmp, identifiers_at, IsRising, IsPrefixFree}

pub then_equal : (o p : Ordering) → ordering_then o p ≡ Equal → (o ≡ Equal) × (p ≡ Equal)
then_equal Less p e = cc
then_equal Equal p e = (refl, e)
then_equal Greater p e = cc

then_less : (o p : Ordering) → ordering_then o p ≡ Less → (o ≡ Less) ⊎ ((o ≡ Equal) × (p ≡ Less))
then_less Less p e = inl refl
then_less Equal p e = inr (refl, e)
then_less Greater p e = cc

then_greater : (o p : Ordering) → ordering_then o p ≡ Greater → (o ≡ Greater) ⊎ ((o ≡ Equal) × (p ≡ Greater))
then_greater Less p e = cc
then_greater Equal p e = inr (refl, e)
then_greater Greater p e = inl refl

-- two texts that are not told apart are one
same_number : (x y : ℕ) → nat_cmp x y ≡ Equal → x ≡ y
same_number x y e = let r = ranked x y Equal (sym e) in r

pub same_text : (xs ys : List ℕ) → slice_cmp nat_cmp xs ys ≡ Equal → xs ≡ ys
same_text [] [] e = refl
same_text [] (y ∷ ys) e = cc
same_text (x ∷ xs) [] e = cc
same_text (x ∷ xs) (y ∷ ys) e =
    let both = then_equal (nat_cmp x y) (slice_cmp nat_cmp xs ys) e in
    let head : x ≡ y = same_number x y both.0 in
    let tail : xs ≡ ys = same_text xs ys both.1 in
    cc

-- a name that stands behind the path stands behind each name that the path begins with
pub not_behind : (k l names : List (List ℕ)) → order_to_path k names ≡ Equal → is_gt (name_cmp l k) ≡ false → order_to_path l names ≡ Greater → ⊥
not_behind k [] names e g h = cc
not_behind [] (b ∷ bs) names e g h = cc
not_behind (a ∷ cs) (b ∷ bs) [] e g h = cc
not_behind (a ∷ cs) (b ∷ bs) (n ∷ ns) e g h =
    let both = then_equal (slice_cmp nat_cmp a n) (order_to_path cs ns) e in
    let alike : slice_cmp nat_cmp b a ≡ slice_cmp nat_cmp b n = alike_right nat_list_cmp_total a n b both.0 in
    elim (then_greater (slice_cmp nat_cmp b n) (order_to_path bs ns) h) [
      | inl greater ↦ let t : is_gt (ordering_then Greater (name_cmp bs cs)) ≡ false = rw (alike, greater) at g in cc
      | inr equal ↦
          let t : is_gt (ordering_then Equal (name_cmp bs cs)) ≡ false = rw (alike, equal.0) at g in
          not_behind cs bs ns both.1 t equal.1
    ]

-- a name that stands before the path, and not before one that the path begins with, begins with it
pub begins_with : (k l names : List (List ℕ)) → order_to_path k names ≡ Equal
    → is_gt (name_cmp k l) ≡ false → order_to_path l names ≡ Less → starts_with bytes_eq l k ≡ true
begins_with [] [] names e g h = refl
begins_with [] (b ∷ bs) names e g h = refl
begins_with (a ∷ cs) [] names e g h = cc
begins_with (a ∷ cs) (b ∷ bs) [] e g h = cc
begins_with (a ∷ cs) (b ∷ bs) (n ∷ ns) e g h =
    let both = then_equal (slice_cmp nat_cmp a n) (order_to_path cs ns) e in
    let alike : slice_cmp nat_cmp b a ≡ slice_cmp nat_cmp b n = alike_right nat_list_cmp_total a n b both.0 in
    let back : slice_cmp nat_cmp a b ≡ ordering_reverse (slice_cmp nat_cmp b a) = nat_list_cmp_total.antisymm a b in
    elim (then_less (slice_cmp nat_cmp b n) (order_to_path bs ns) h) [
      | inl less ↦ let t : is_gt (ordering_then Greater (name_cmp cs bs)) ≡ false = rw (back, alike, less) at g in cc
      | inr equal ↦
          let t : is_gt (ordering_then Equal (name_cmp cs bs)) ≡ false = rw (back, alike, equal.0) at g in
          let tied : slice_cmp nat_cmp a b ≡ Equal = back ∙ ap ordering_reverse (alike ∙ equal.0) in
          let head : bytes_eq a b ≡ true = (bytes_eq-Decides a b).1 (same_text a b tied) in
          let tail = begins_with cs bs ns both.1 t equal.1 in
          rw (head, tail) refl
    ]

-- none of the names up to one before the path
pub none_upto : (keys : List NameKey) (names : List (List ℕ)) (middle : ℕ) → IsRising keys
    → IsPrefixFree keys → middle < length keys → order_to_path (identifiers_at keys middle) names ≡ Less
    → (i : ℕ) → i ≤ middle → order_to_path (identifiers_at keys i) names ≡ Equal → ⊥
none_upto keys names middle rising free below less i upto is_match =
    let begins = begins_with (identifiers_at keys i) (identifiers_at keys middle) names is_match (rising i middle upto below) less in
    let same : identifiers_at keys middle ≡ identifiers_at keys i = free i middle (omega (arith, upto, below)) below begins in
    let clash : Less ≡ Equal = sym less ∙ ap (λ k. order_to_path k names) same ∙ is_match in
    cc

-- none of the names from one behind the path on
pub none_from : (keys : List NameKey) (names : List (List ℕ)) (middle : ℕ) → IsRising keys → order_to_path (identifiers_at keys middle) names ≡ Greater
    → (i : ℕ) → middle ≤ i → i < length keys → order_to_path (identifiers_at keys i) names ≡ Equal → ⊥
none_from keys names middle rising greater i from below is_match =
    not_behind (identifiers_at keys i) (identifiers_at keys middle) names is_match (rising middle i from below) greater
