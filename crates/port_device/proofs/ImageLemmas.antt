-- A byte of an image that is read and written anew.
use Rattle.std.proofs.Common.{◌≡◌, ℕ, zero, suc, ◌+◌, ◌<◌, List, [], ◌∷◌, ◌++◌, length, take, drop, get_or, set, refl, ◌∙◌, ap, arith}
use Rattle.std.specs.Prelude.{Some, slice_get}
use Rattle.spec_plant.specs.World.{with_nth_byte}

pub first_byte : (image : List ℕ) (k : ℕ) → k < length image → slice_get image k ≡ Some (get_or (take 1 (drop k image)) 0 0)
first_byte [] k h = absurd (omega (arith, h))
first_byte (x ∷ xs) zero h = refl
first_byte (x ∷ xs) (suc k) h = first_byte xs k (omega (arith, h))

pub byte_written : (image : List ℕ) (k b : ℕ) (f : ℕ → ℕ) → slice_get image k ≡ Some b → take k image ++ (f b ∷ drop (k + 1) image) ≡ with_nth_byte image k f
byte_written [] k b f h = cc
byte_written (x ∷ xs) zero b f h = let same : b ≡ x = cc in ap (λ y. f y ∷ xs) same
byte_written (x ∷ xs) (suc k) b f h =
    let next : suc k + 1 ≡ suc (k + 1) = omega arith in
    ap (λ n. x ∷ (take k xs ++ (f b ∷ drop n (x ∷ xs)))) next ∙ ap (λ ys. x ∷ ys) (byte_written xs k b f h)

-- the one element of a list is written
pub one_set : (xs : List ℕ) (v : ℕ) → length xs ≡ 1 → set xs 0 v ≡ v ∷ []
one_set [] v h = absurd (omega (arith, h))
one_set (x ∷ []) v h = refl
one_set (x ∷ y ∷ ys) v h = absurd (omega (arith, h))

pub one_element : (xs : List ℕ) → length xs ≡ 1 → get_or xs 0 0 ∷ [] ≡ xs
one_element [] h = absurd (omega (arith, h))
one_element (x ∷ []) h = refl
one_element (x ∷ y ∷ ys) h = absurd (omega (arith, h))
