-- A loop that changes each value of a list in place, where a view of the values is told.
use Rattle.std.proofs.Common.{◌≡◌, ℕ, zero, suc, ◌+◌, ◌<◌, ◌≤◌, List, [], ◌∷◌, ◌++◌, length, map, take, drop}
use Rattle.std.proofs.Common.{get_or, refl, sym, ap, ◌∙◌, subst, append-nil, add-one, arith}
use Rattle.std.specs.Prelude.{slice_set}
use Rattle.std.specs.List.{All}
use Rattle.std.proofs.lemmas.List.{take_all, drop_all}

changed_one : {X : Type 0} (f : X → X) (xs : List X) (i : ℕ) (d : X) → i < length xs
    → slice_set (map f (take i xs) ++ drop i xs) i (f (get_or (map f (take i xs) ++ drop i xs) i d)) ≡ map f (take (suc i) xs) ++ drop (suc i) xs
changed_one f [] i d h = absurd (omega (arith, h))
changed_one f (x ∷ xs) zero d h = refl
changed_one f (x ∷ xs) (suc i) d h = ap (λ ys. f x ∷ ys) (changed_one f xs i d (omega (arith, h)))

set_mapped : {X Y : Type 0} (g : X → Y) (xs : List X) (i : ℕ) (v : X) → map g (slice_set xs i v) ≡ slice_set (map g xs) i (g v)
set_mapped g [] i v = refl
set_mapped g (x ∷ xs) zero v = refl
set_mapped g (x ∷ xs) (suc i) v = ap (λ ys. g x ∷ ys) (set_mapped g xs i v)

got_mapped : {X Y : Type 0} (g : X → Y) (xs : List X) (i : ℕ) (d : X) → get_or (map g xs) i (g d) ≡ g (get_or xs i d)
got_mapped g [] i d = refl
got_mapped g (x ∷ xs) zero d = refl
got_mapped g (x ∷ xs) (suc i) d = got_mapped g xs i d

length_mapped : {X Y : Type 0} (g : X → Y) (xs : List X) → length (map g xs) ≡ length xs
length_mapped g [] = refl
length_mapped g (x ∷ xs) = ap suc (length_mapped g xs)

-- those before a place are changed
abbrev pub changed_to : {X Y : Type 0} → (X → Y) → (Y → Y) → List X → ℕ → List Y
changed_to g f xs i = map f (take i (map g xs)) ++ drop i (map g xs)

pub turn_mapped : {X Y : Type 0} (g : X → Y) (f : Y → Y) (old now : List X) (i : ℕ) (d v : X) → i < length old
    → map g now ≡ changed_to g f old i → g v ≡ f (g (get_or now i d)) → map g (slice_set now i v) ≡ changed_to g f old (i + 1)
turn_mapped {X} {Y} g f old now i d v within so_far is =
    let next : suc i ≡ i + 1 = omega arith in
    let here : i < length (map g old) = omega (arith, within, length_mapped g old) in
    set_mapped g now i v ∙ (ap (slice_set (map g now) i) (is ∙ ap f (sym (got_mapped g now i d)))
    ∙ (ap (λ ys. slice_set ys i (f (get_or ys i (g d)))) so_far ∙ (changed_one f (map g old) i (g d) here ∙ ap (changed_to g f old) next)))

pub end_mapped : {X Y : Type 0} (g : X → Y) (f : Y → Y) (old now : List X) (i : ℕ)
    → length old ≤ i → map g now ≡ changed_to g f old i → map g now ≡ map f (map g old)
end_mapped g f old now i all so_far =
    let past : length (map g old) ≤ i = omega (arith, all, length_mapped g old) in
    so_far ∙ rw (take_all i (map g old) past, drop_all i (map g old) past) (append-nil (map f (map g old)))

-- the value that is changed next is as it was
still_same : {Y : Type 0} (f : Y → Y) (all : List Y) (i : ℕ) (d : Y) → i < length all → get_or (map f (take i all) ++ drop i all) i d ≡ get_or all i d
still_same f [] i d h = absurd (omega (arith, h))
still_same f (y ∷ ys) zero d h = refl
still_same f (y ∷ ys) (suc i) d h = still_same f ys i d (omega (arith, h))

-- so what held of each value before the loop holds of it
pub next_holds : {X Y : Type 0} (P : Y → Type 0) (g : X → Y) (f : Y → Y) (old now : List X) (i : ℕ) (d : X)
    → i < length old → map g now ≡ changed_to g f old i → All P (map g old) → P (g (get_or now i d))
next_holds {X} {Y} P g f old now i d within so_far holds =
    let here : i < length (map g old) = omega (arith, within, length_mapped g old) in
    let same : get_or (map g old) i (g d) ≡ g (get_or now i d) =
    sym (still_same f (map g old) i (g d) here) ∙ (ap (λ ys. get_or ys i (g d)) (sym so_far) ∙ got_mapped g now i d) in
    subst P same (holds i (g d) here)
