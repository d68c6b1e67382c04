-- What a caller cites of the places of names that are those of other things.
use Rattle.std.proofs.Common.{◌≡◌, ℕ, ◌<◌, List, [], ◌∷◌, length, map, refl, subst, inl, inr}
use Rattle.std.specs.Prelude.{Bool, Some, None, bytes_eq, position, nat_lt}
use Rattle.std.specs.List.{position_or_len}
use Rattle.std.proofs.lemmas.Bool.{cases_Bool, ltb-true}
use Rattle.std.proofs.lemmas.List.{length-map}
use Rattle.name_paths.specs.Identifier.{lower}
use Rattle.name_index.specs.Numbered.{first_called}

position_or_len-map : {X Y : Type 0} (p : Y → Bool) (f : X → Y) (xs : List X) → position_or_len p (map f xs) ≡ position_or_len (λ x. p (f x)) xs
position_or_len-map p f [] = refl
position_or_len-map p f (x ∷ xs) = rw (position_or_len-map p f xs) refl

pub position-map : {X Y : Type 0} (p : Y → Bool) (f : X → Y) (xs : List X) → position p (map f xs) ≡ position (λ x. p (f x)) xs
position-map p f xs = rw (position_or_len-map p f xs, length-map xs f) refl

-- a place is within the list
pub position-within : {X : Type 0} (p : X → Bool) (xs : List X) (i : ℕ) → position p xs ≡ Some i → i < length xs
position-within p xs i found =
    elim (cases_Bool (nat_lt (position_or_len p xs) (length xs))) [
      | inl t ↦ let is : Some (position_or_len p xs) ≡ Some i = rw t at found in
          subst (λ (k : ℕ). k < length xs) (cc is) (ltb-true (position_or_len p xs) (length xs) t)
      | inr t ↦ let none : None ≡ Some i = rw t at found in cc none
    ]

-- the first of these whose name is this one, ASCII case aside
pub first_called-map : {X : Type 0} (f : X → List ℕ) (xs : List X) (name : List ℕ)
    → first_called (map f xs) name ≡ position (λ x. bytes_eq (lower (f x)) (lower name)) xs
first_called-map f xs name = position-map (λ n. bytes_eq (lower n) (lower name)) f xs
