-- One of a list passes a test where the one at a place does.
use Rattle.std.proofs.Common.{◌≡◌, ℕ, zero, suc, ◌<◌, List, [], ◌∷◌, length, map, get_or, Bool, true, false, ◌||◌, refl, ap, arith}
use Rattle.std.specs.List.{list_any}

or_true : (a : Bool) (b : Bool) → b ≡ true → (a || b) ≡ true
or_true true b is = refl
or_true false b is = is

true_or : (a : Bool) (b : Bool) → a ≡ true → (a || b) ≡ true
true_or a b is = ap (λ x. x || b) is

pub any_at : {S E : Type 0} (p : E → Bool) (f : S → E) (xs : List S) (at : ℕ) (d : S) → at < length xs
    → p (f (get_or xs at d)) ≡ true → list_any p (map f xs) ≡ true
any_at p f [] at d within passes = absurd (omega (arith, within))
any_at p f (x ∷ xs) zero d within passes = true_or (p (f x)) (list_any p (map f xs)) passes
any_at p f (x ∷ xs) (suc at) d within passes =
    or_true (p (f x)) (list_any p (map f xs)) (any_at p f xs at d (omega (arith, within)) passes)
