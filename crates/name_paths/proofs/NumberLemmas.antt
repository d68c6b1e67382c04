-- A number that is read digit by digit and kept below a limit.
use Rattle.std.proofs.Common.{◌≡◌, ℕ, ◌+◌, ◌-◌, ◌*◌, ◌<◌, List, [], ◌∷◌, length, get_or, drop, min, refl, ap, sym, ◌∙◌, arith, add-one, drop-cons}
use Rattle.name_paths.specs.Number.{number_from}

-- cutting the number at the limit before the digits changes nothing
pub number_from-min : (a limit : ℕ) (cs : List ℕ) → min (number_from (min a limit) cs) limit ≡ min (number_from a cs) limit
number_from-min a limit [] = omega arith
number_from-min a limit (c ∷ cs) =
    let d = c - 48 in
    let e : min (10 * min a limit + d) limit ≡ min (10 * a + d) limit = omega arith in
    sym (number_from-min (10 * min a limit + d) limit cs) ∙ ap (λ n. min (number_from n cs) limit) e ∙ number_from-min (10 * a + d) limit cs

-- one more digit is read
pub number_from-drop : (a : ℕ) (cs : List ℕ) (i : ℕ) → i < length cs → number_from a (drop i cs) ≡ number_from (10 * a + (get_or cs i 0 - 48)) (drop (i + 1) cs)
number_from-drop a cs i h = rw (add-one, drop-cons cs i 0) refl
