-- Where no element of a list is wrong, each is right by itself and beside those before it.
use Rattle.std.proofs.Common.{◌≡◌, ℕ, suc, Bool, true, List, [], ◌∷◌, ◌++◌, map, refl, sym, ◌∙◌, inl, inr}
use Rattle.std.specs.Prelude.{Option, Some, None, is_none, option_map, ◌&&◌}
use Rattle.std.specs.List.{list_all}
use Rattle.std.proofs.lemmas.Bool.{cases_Bool, and_parts}
use Rattle.std.proofs.lemmas.List.Folds.{list_all-append}
use Rattle.spec_plant.specs.AcceptedTypes.{all_pairs}
use Rattle.spec_rules.specs.Places.{first_wrong, or_else, first_through}

pub both_true : (a b : Bool) → a ≡ true → b ≡ true → (a && b) ≡ true
both_true a b e f = rw (e, f) refl

pub option_map-none : {X Y : Type 0} (f : X → Y) (o : Option X) → option_map f o ≡ None → o ≡ None
option_map-none f None e = refl
option_map-none f (Some x) e = cc

pub none_of : {X : Type 0} (o : Option X) → is_none o ≡ true → o ≡ None
none_of None e = refl
none_of (Some x) e = cc

pub first_right : {X : Type 0} (is_right : List X → X → Bool) (before : List X) (x : X) (xs : List X) → first_wrong is_right before (x ∷ xs) ≡ None
    → (is_right before x ≡ true) × (first_wrong is_right (before ++ x ∷ []) xs ≡ None)
first_right is_right before x xs h =
    elim (cases_Bool (is_right before x)) [
      | inl t ↦ (t, option_map-none suc (first_wrong is_right (before ++ x ∷ []) xs) (rw t at h))
      | inr t ↦ let f = rw t at h in cc
    ]

or_else-none : (a b : Option ℕ) → or_else a b ≡ None → (a ≡ None) × (b ≡ None)
or_else-none None b e = (refl, e)
or_else-none (Some i) b e = cc

pub first_through-none : {G : Type 0} (count : G → ℕ) (wrong : List G → G → Option ℕ) (before : List G) (g : G) (gs : List G)
    → first_through count wrong before (g ∷ gs) ≡ None
    → (wrong before g ≡ None) × (first_through count wrong (before ++ g ∷ []) gs ≡ None)
first_through-none count wrong before g gs h =
    let both = or_else-none _ _ h in
    (both.0, option_map-none _ _ (both.1))

list_all-yes : {X : Type 0} (p : X → Bool) → ((x : X) → p x ≡ true) → (xs : List X) → list_all p xs ≡ true
list_all-yes p f [] = refl
list_all-yes p f (x ∷ xs) = both_true (p x) (list_all p xs) (f x) (list_all-yes p f xs)

pub list_all-both : {X : Type 0} (p q : X → Bool) (xs : List X) → list_all p xs ≡ true → list_all q xs ≡ true → list_all (λ x. p x && q x) xs ≡ true
list_all-both p q [] h g = refl
list_all-both p q (x ∷ xs) h g =
    let a = and_parts (p x) (list_all p xs) h in
    let b = and_parts (q x) (list_all q xs) g in
    both_true (p x && q x) (list_all (λ y. p y && q y) xs) (both_true (p x) (q x) (a.0) (b.0)) (list_all-both p q xs (a.1) (b.1))

-- each is right, each two are, and so is each with those before
pub record AreRight {X : Type 0} (p : X → Bool) (r : X → X → Bool) (before xs : List X) : Type 0 where
  pub each : list_all p xs ≡ true
  pub pairs : all_pairs r xs ≡ true
  pub apart : list_all (λ e. list_all (r e) xs) before ≡ true

pub are_right : {X : Type 0} (is_right : List X → X → Bool) (p : X → Bool) (r : X → X → Bool)
    → ((before : List X) (x : X) → is_right before x ≡ true → (p x ≡ true) × (list_all (λ e. r e x) before ≡ true))
    → (before xs : List X) → first_wrong is_right before xs ≡ None → AreRight p r before xs
are_right is_right p r says before [] h = record { each = refl; pairs = refl; apart = list_all-yes (λ e. true) (λ x. refl) before }
are_right is_right p r says before (x ∷ xs) h =
    let first = first_right is_right before x xs h in
    let here = says before x (first.0) in
    let rest = are_right is_right p r says (before ++ x ∷ []) xs (first.1) in
    let split = and_parts _ _ (sym (list_all-append (λ e. list_all (r e) xs) before (x ∷ [])) ∙ rest.apart) in
    let beside = (and_parts (list_all (r x) xs) true (split.1)).0 in
    record {
      each = both_true (p x) (list_all p xs) (here.0) rest.each;
      pairs = both_true (list_all (r x) xs) (all_pairs r xs) beside rest.pairs;
      apart = list_all-both (λ e. r e x) (λ e. list_all (r e) xs) before (here.1) (split.0);
    }

-- pairs of what a list is mapped to
pub list_all-mapped : {X Y : Type 0} (f : X → Y) (p : Y → Bool) (xs : List X) → list_all (λ x. p (f x)) xs ≡ true → list_all p (map f xs) ≡ true
list_all-mapped f p [] h = refl
list_all-mapped f p (x ∷ xs) h =
    let parts = and_parts (p (f x)) (list_all (λ y. p (f y)) xs) h in
    both_true (p (f x)) (list_all p (map f xs)) (parts.0) (list_all-mapped f p xs (parts.1))

pub all_pairs-mapped : {X Y : Type 0} (f : X → Y) (r : Y → Y → Bool) (xs : List X) → all_pairs (λ x y. r (f x) (f y)) xs ≡ true → all_pairs r (map f xs) ≡ true
all_pairs-mapped f r [] h = refl
all_pairs-mapped f r (x ∷ xs) h =
    let parts = and_parts (list_all (λ y. r (f x) (f y)) xs) (all_pairs (λ y z. r (f y) (f z)) xs) h in
    both_true (list_all (r (f x)) (map f xs)) (all_pairs r (map f xs)) (list_all-mapped f (r (f x)) xs (parts.0)) (all_pairs-mapped f r xs (parts.1))
