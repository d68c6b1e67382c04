-- Bytes appended in parts are their texts one after another.
use Rattle.std.proofs.Common.{◌≡◌, ℕ, List, ◌++◌, ap, ◌∙◌, append_assoc}

pub two_parts : (old a b first second : List ℕ) → first ≡ old ++ a → second ≡ first ++ b → second ≡ old ++ (a ++ b)
two_parts old a b first second e f = f ∙ (ap (λ (l : List ℕ). l ++ b) e ∙ append_assoc old a b)

pub three_parts : (old a b c first second third : List ℕ) → first ≡ old ++ a → second ≡ first ++ b → third ≡ second ++ c
    → third ≡ old ++ (a ++ b ++ c)
three_parts old a b c first second third e f g = two_parts old (a ++ b) c second third (two_parts old a b first second e f) g
