-- One turn of a loop that looks for the first wrong element.
use Rattle.std.proofs.Common.{◌≡◌, ℕ, suc, ◌+◌, ◌≤◌, ◌<◌, Bool, true, false, cond, List, [], ◌∷◌, ◌++◌, length}
use Rattle.std.proofs.Common.{get_or, take, drop, map, refl, ap, sym, ◌∙◌, arith, add-one, drop-cons, Option}
use Rattle.std.proofs.Common.{Some, None, option_map}
use Rattle.std.proofs.Math.Seq.{take-suc}
use Rattle.std.proofs.lemmas.List.{map-append, drop_all}
use Rattle.spec_rules.specs.Places.{first_wrong}

abbrev pub place_from : ℕ → Option ℕ → Option ℕ
place_from i place = option_map (λ j. i + j) place

pub place_from-suc : (i : ℕ) (place : Option ℕ) → place_from i (option_map suc place) ≡ place_from (i + 1) place
place_from-suc i None = refl
place_from-suc i (Some j) = ap Some (omega arith)

pub from_zero : (place : Option ℕ) → place ≡ place_from 0 place
from_zero None = refl
from_zero (Some j) = ap Some (omega arith)

-- those before the i-th, and the i-th
pub take-more : {A X : Type 0} (view : A → X) (xs : List A) (i : ℕ) (a : A) → i < length xs → a ≡ get_or xs i a
    → map view (take (i + 1) xs) ≡ map view (take i xs) ++ view a ∷ []
take-more view xs i a below is =
    rw add-one (ap (map view) (take-suc xs i a below ∙ ap (λ y. take i xs ++ y ∷ []) (sym is)) ∙ map-append view (take i xs) (a ∷ []))

module _ {A X : Type 0} (is_right : List X → X → Bool) (view : A → X) where
  -- what is found from the i-th element on, where those before it are right
  abbrev pub first_from : List A → ℕ → Option ℕ
  first_from xs i = place_from i (first_wrong is_right (map view (take i xs)) (map view (drop i xs)))

  turn : (xs : List A) (i : ℕ) (a : A) → i < length xs → a ≡ get_or xs i a
      → first_wrong is_right (map view (take i xs)) (map view (drop i xs))
      ≡ cond (is_right (map view (take i xs)) (view a))
      (option_map suc (first_wrong is_right (map view (take (i + 1) xs)) (map view (drop (i + 1) xs)))) (Some 0)
  turn xs i a below is =
      let left : drop i xs ≡ a ∷ drop (i + 1) xs =
      rw add-one (drop-cons xs i a below ∙ ap (λ y. y ∷ drop (suc i) xs) (sym is)) in
      let before = take-more view xs i a below is in
      ap (λ ys. first_wrong is_right (map view (take i xs)) (map view ys)) left
      ∙ ap (λ ys. cond (is_right (map view (take i xs)) (view a)) (option_map suc (first_wrong is_right ys (map view (drop (i + 1) xs)))) (Some 0)) (sym before)

  -- the i-th element is right
  pub first_from-right : (xs : List A) (i : ℕ) (a : A) (place : Option ℕ) → i < length xs → a ≡ get_or xs i a → is_right (map view (take i xs)) (view a) ≡ true
      → place ≡ first_from xs i → place ≡ first_from xs (i + 1)
  first_from-right xs i a place below is right so_far =
      so_far ∙ ap (place_from i) (rw right at (turn xs i a below is))
      ∙ place_from-suc i (first_wrong is_right (map view (take (i + 1) xs)) (map view (drop (i + 1) xs)))

  -- the i-th element is wrong
  pub first_from-wrong : (xs : List A) (i : ℕ) (a : A) (place : Option ℕ) → i < length xs → a ≡ get_or xs i a → is_right (map view (take i xs)) (view a) ≡ false
      → place ≡ first_from xs i → place ≡ Some i
  first_from-wrong xs i a place below is wrong so_far =
      so_far ∙ ap (place_from i) (rw wrong at (turn xs i a below is)) ∙ ap Some (omega arith)

  -- no element is left
  pub first_from-end : (xs : List A) (i : ℕ) (place : Option ℕ) → length xs ≤ i → place ≡ first_from xs i → place ≡ None
  first_from-end xs i place end so_far =
      so_far ∙ ap (λ ys. place_from i (first_wrong is_right (map view (take i xs)) (map view ys))) (drop_all i xs end)

  -- before the first element
  pub first_from-start : (xs : List A) → first_wrong is_right [] (map view xs) ≡ first_from xs 0
  first_from-start xs = from_zero (first_wrong is_right [] (map view xs))
