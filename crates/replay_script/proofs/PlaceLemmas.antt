-- The first place of a byte that a search found.
use Rattle.std.proofs.Common.{◌≡◌, ℕ, Bool, true, false, List, length, Option, Some, None, refl, arith}
use Rattle.std.specs.List.{position}
use Rattle.std.proofs.lemmas.Bool.{lt-ltb, le-ltb}
use Rattle.std.proofs.lemmas.List.Sums.{position_or_len_is}
use Rattle.memchr.specs.Find.{IsFirstByte}

fails : (b : Bool) → ¬ (b ≡ true) → b ≡ false
fails true h = absurd (h refl)
fails false h = refl

pub first_place : (p : ℕ → Bool) (xs : List ℕ) (r : Option ℕ) → IsFirstByte p xs r → r ≡ position p xs
first_place p xs None h =
    let past = position_or_len_is p xs (length xs) 0 (omega arith) (λ k within. fails _ (h k (omega arith) within))
    (λ within. absurd (omega (arith, within))) in
    rw (past, le-ltb (length xs) (length xs) (omega arith)) refl
first_place p xs (Some k) h =
    let high = h.0.high in
    let here = position_or_len_is p xs k 0 (omega (arith, high)) (λ j before. fails _ (h.0.before j (omega arith) before)) (λ _within. h.1) in
    rw (here, lt-ltb k (length xs) high) refl
