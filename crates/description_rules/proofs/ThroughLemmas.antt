-- One turn of a loop that looks for the first wrong element through all groups.
use Rattle.std.proofs.Common.{◌≡◌, ℕ, suc, ◌+◌, ◌≤◌, ◌<◌, List, [], ◌∷◌, ◌++◌, length, get_or, take, drop, map}
use Rattle.std.proofs.Common.{refl, ap, sym, ◌∙◌, arith, add-one, drop-cons, Option, Some, None}
use Rattle.std.proofs.Math.Seq.{take-suc}
use Rattle.std.proofs.lemmas.List.{map-append, drop_all}
use Rattle.spec_rules.specs.Places.{first_through, or_else}
use Rattle.description_rules.proofs.FirstLemmas.{place_from, from_zero}

place_from-place_from : (n m : ℕ) (place : Option ℕ) → place_from n (place_from m place) ≡ place_from (n + m) place
place_from-place_from n m None = refl
place_from-place_from n m (Some j) = ap Some (omega arith)

module _ {A X : Type 0} (count : X → ℕ) (wrong : List X → X → Option ℕ) (view : A → X) where
  -- what is found from the i-th group on, where n elements stand before it
  abbrev pub through_from : List A → ℕ → ℕ → Option ℕ
  through_from xs i n = place_from n (first_through count wrong (map view (take i xs)) (map view (drop i xs)))

  turn : (xs : List A) (i : ℕ) (a : A) → i < length xs → a ≡ get_or xs i a
      → first_through count wrong (map view (take i xs)) (map view (drop i xs))
      ≡ or_else (wrong (map view (take i xs)) (view a))
      (place_from (count (view a)) (first_through count wrong (map view (take (i + 1) xs)) (map view (drop (i + 1) xs))))
  turn xs i a below is =
      let left : drop i xs ≡ a ∷ drop (i + 1) xs =
      rw add-one (drop-cons xs i a below ∙ ap (λ y. y ∷ drop (suc i) xs) (sym is)) in
      let before : map view (take (i + 1) xs) ≡ map view (take i xs) ++ view a ∷ [] =
      rw add-one (ap (map view) (take-suc xs i a below ∙ ap (λ y. take i xs ++ y ∷ []) (sym is)) ∙ map-append view (take i xs) (a ∷ [])) in
      ap (λ ys. first_through count wrong (map view (take i xs)) (map view ys)) left
      ∙ ap (λ ys. or_else (wrong (map view (take i xs)) (view a)) (place_from (count (view a)) (first_through count wrong ys (map view (drop (i + 1) xs)))))
      (sym before)

  -- nothing is wrong in the i-th group
  pub through_from-right : (xs : List A) (i n : ℕ) (a : A) (place : Option ℕ) → i < length xs → a ≡ get_or xs i a → wrong (map view (take i xs)) (view a) ≡ None
      → place ≡ through_from xs i n → place ≡ through_from xs (i + 1) (n + count (view a))
  through_from-right xs i n a place below is right so_far =
      so_far ∙ ap (place_from n) (rw right at (turn xs i a below is))
      ∙ place_from-place_from n (count (view a)) (first_through count wrong (map view (take (i + 1) xs)) (map view (drop (i + 1) xs)))

  -- an element of the i-th group is wrong
  pub through_from-wrong : (xs : List A) (i n j : ℕ) (a : A) (place : Option ℕ)
      → i < length xs → a ≡ get_or xs i a → wrong (map view (take i xs)) (view a) ≡ Some j
      → place ≡ through_from xs i n → place ≡ Some (n + j)
  through_from-wrong xs i n j a place below is found so_far =
      so_far ∙ ap (place_from n) (rw found at (turn xs i a below is))

  -- no group is left
  pub through_from-end : (xs : List A) (i n : ℕ) (place : Option ℕ) → length xs ≤ i → place ≡ through_from xs i n → place ≡ None
  through_from-end xs i n place end so_far =
      so_far ∙ ap (λ ys. place_from n (first_through count wrong (map view (take i xs)) (map view ys))) (drop_all i xs end)

  -- before the first group
  pub through_from-start : (xs : List A) → first_through count wrong [] (map view xs) ≡ through_from xs 0 0
  through_from-start xs = from_zero (first_through count wrong [] (map view xs))
