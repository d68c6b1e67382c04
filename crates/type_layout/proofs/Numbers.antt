-- The place of an element by its two or three indexes.
use Rattle.std.proofs.Common.{◌≡◌, ℕ, ◌+◌, ◌*◌, ◌<◌, ◌≤◌, List, [], ◌∷◌, length, get_or, sym, ◌∙◌, ap, arith, ◌≢◌}
use Rattle.std.specs.Prelude.{Some, None, ℤ}
use Rattle.spec_plant.specs.Sizes.{element_count}
use Rattle.spec_plant.specs.Parts.{within, element_from}
use Rattle.spec_plant.specs.AcceptedTypes.{LIMIT}
use Rattle.std.proofs.lemmas.Nat.{mul-le}
use Rattle.std.proofs.lemmas.List.{length-map}
use Rattle.spec_plant.proofs.PartLemmas.{element_from-lengths}
use Rattle.type_layout.specs.Shapes.{bound_of, bounds_of}
use Rattle.type_layout.specs.declared.shape.Bound.{Bound}

-- as many indexes as dimensions are needed
pub no_number : (bounds : List Bound) (indexes : List ℤ) → length bounds ≢ length indexes → None ≡ element_from 0 (bounds_of bounds) indexes
no_number bounds indexes ne =
    let other : length (bounds_of bounds) ≢ length indexes = λ e. ne (sym (length-map bounds bound_of) ∙ e) in
    sym (element_from-lengths 0 (bounds_of bounds) indexes other)

products : (a b m n : ℕ) → a < m → b < n → a * n + b + 1 ≤ m * n
products a b m n h g =
    let most = mul-le (a + 1) n m n (omega (arith, h)) (omega arith) in
    omega (arith, most, g)

pub plane_fits : (bounds : List Bound) (d : Bound) (a b : ℕ) → length bounds ≡ 2
    → element_count (bounds_of bounds) ≤ LIMIT → a < (get_or bounds 0 d).count → b < (get_or bounds 1 d).count
    → a * (get_or bounds 1 d).count + b < LIMIT
plane_fits [] d a b l h f g = absurd (omega (arith, l))
plane_fits (x ∷ []) d a b l h f g = absurd (omega (arith, l))
plane_fits (x ∷ (y ∷ [])) d a b l h f g = let most = products a b x.count y.count f g in omega (arith, most, h)
plane_fits (x ∷ (y ∷ (z ∷ more))) d a b l h f g = absurd (omega (arith, l))

-- three indexes: what is multiplied and added fits
pub record SpaceFits (a b c m n : ℕ) : Type 0 where
  pub row : a * m + b < LIMIT
  pub space : (a * m + b) * n + c < LIMIT

pub space_fits : (bounds : List Bound) (d : Bound) (a b c : ℕ) → length bounds ≡ 3 → element_count (bounds_of bounds) ≤ LIMIT
    → a < (get_or bounds 0 d).count → b < (get_or bounds 1 d).count → c < (get_or bounds 2 d).count
    → SpaceFits a b c (get_or bounds 1 d).count (get_or bounds 2 d).count
space_fits [] d a b c l h e f g = absurd (omega (arith, l))
space_fits (x ∷ []) d a b c l h e f g = absurd (omega (arith, l))
space_fits (x ∷ (y ∷ [])) d a b c l h e f g = absurd (omega (arith, l))
space_fits (x ∷ (y ∷ (z ∷ []))) d a b c l h e f g =
    let plane = products a b x.count y.count e f in
    let within_plane : a * y.count + b < x.count * y.count = omega (arith, plane) in
    let space = products (a * y.count + b) c (x.count * y.count) z.count within_plane g in
    let some = mul-le (x.count * y.count) 1 (x.count * y.count) z.count (omega arith) (omega (arith, g)) in
    record { row = omega (arith, within_plane, some, h); space = omega (arith, space, h) }
space_fits (x ∷ (y ∷ (z ∷ (w ∷ more)))) d a b c l h e f g = absurd (omega (arith, l))

pub plane_number : (bounds : List Bound) (d : Bound) (i j : ℤ) (a b : ℕ) → length bounds ≡ 2
    → Some a ≡ within (bound_of (get_or bounds 0 d)) i → Some b ≡ within (bound_of (get_or bounds 1 d)) j
    → Some (a * (get_or bounds 1 d).count + b) ≡ element_from 0 (bounds_of bounds) (i ∷ j ∷ [])
plane_number [] d i j a b l e f = absurd (omega (arith, l))
plane_number (x ∷ []) d i j a b l e f = absurd (omega (arith, l))
plane_number (x ∷ (y ∷ [])) d i j a b l e f = rw (← e) (rw (← f) (ap Some (omega arith)))
plane_number (x ∷ (y ∷ (z ∷ more))) d i j a b l e f = absurd (omega (arith, l))

pub space_number : (bounds : List Bound) (d : Bound) (i j k : ℤ) (a b c : ℕ) → length bounds ≡ 3
    → Some a ≡ within (bound_of (get_or bounds 0 d)) i → Some b ≡ within (bound_of (get_or bounds 1 d)) j → Some c ≡ within (bound_of (get_or bounds 2 d)) k
    → Some ((a * (get_or bounds 1 d).count + b) * (get_or bounds 2 d).count + c) ≡ element_from 0 (bounds_of bounds) (i ∷ j ∷ k ∷ [])
space_number [] d i j k a b c l e f g = absurd (omega (arith, l))
space_number (x ∷ []) d i j k a b c l e f g = absurd (omega (arith, l))
space_number (x ∷ (y ∷ [])) d i j k a b c l e f g = absurd (omega (arith, l))
space_number (x ∷ (y ∷ (z ∷ []))) d i j k a b c l e f g = rw (← e) (rw (← f) (rw (← g) (ap Some (omega arith))))
space_number (x ∷ (y ∷ (z ∷ (w ∷ more)))) d i j k a b c l e f g = absurd (omega (arith, l))

-- an element ends within its array, and is no larger
pub record IsInArray (n size : ℕ) : Type 0 where
  pub start : n * size ≤ LIMIT
  pub size_ : size ≤ LIMIT

pub is_in_array : (n count size : ℕ) → n < count → count * size ≤ LIMIT → IsInArray n size
is_in_array n count size below small =
    let start = mul-le n size count size (omega (arith, below)) (omega arith) in
    let one = mul-le 1 size count size (omega (arith, below)) (omega arith) in
    record { start = omega (arith, start, small); size_ = omega (arith, one, small) }
