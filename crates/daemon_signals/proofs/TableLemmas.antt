-- The values of tables, one more at a time.
use Rattle.std.proofs.Common.{◌≡◌, ℕ, ◌+◌, ◌*◌, List, [], ◌∷◌, ◌++◌, map, sym, ap, ◌∙◌, arith}
use Rattle.std.specs.Prelude.{replicate}
use Rattle.std.specs.List.{range_with_len}
use Rattle.std.proofs.lemmas.List.FromFn.{map-range_with_len_more}
use Rattle.daemon_signals.specs.Values.{ramp_values, square_values}

-- a ramp with one value more
pub ramp_next : (step n a b : ℕ) (values new : List ℕ) → new ≡ values ++ (a * b) ∷ [] → a ≡ step → b ≡ n → values ≡ ramp_values step n
    → new ≡ ramp_values step (n + 1)
unfolding ramp_values
ramp_next step n a b values new is is_a is_b before =
    let value : a * b ≡ step * n = ap (λ x. x * b) is_a ∙ ap (λ y. step * y) is_b in
    let more : map (λ m. step * m) (range_with_len 0 (n + 1)) ≡ map (λ m. step * m) (range_with_len 0 n) ++ (step * n) ∷ [] =
    map-range_with_len_more (λ m. step * m) 0 n n (omega arith) in
    is ∙ (ap (λ vs. vs ++ (a * b) ∷ []) before
    ∙ (ap (λ v. map (λ m. step * m) (range_with_len 0 n) ++ v ∷ []) value ∙ sym more))

pub square_is : (low high ticks : ℕ) (a b : List ℕ) → a ≡ replicate ticks low → b ≡ replicate ticks high → a ++ b ≡ square_values low high ticks
unfolding square_values
square_is low high ticks a b is_a is_b = ap (λ x. x ++ b) is_a ∙ ap (λ y. replicate ticks low ++ y) is_b
