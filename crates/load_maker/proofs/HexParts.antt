-- The hex digits of bytes in parts.
use Rattle.std.proofs.Common.{◌≡◌, ℕ, List, [], ◌∷◌, ◌++◌, take, drop, refl, sym, ap, ◌∙◌, append_assoc}
use Rattle.std.proofs.lemmas.List.{take-append-drop}
use Rattle.hex.specs.Hex.{lower_digits, encode_with, encode_lower}

encode_with-append : (digits xs ys : List ℕ) → encode_with digits (xs ++ ys) ≡ encode_with digits xs ++ encode_with digits ys
unfolding encode_with
encode_with-append digits [] ys = refl
encode_with-append digits (b ∷ bs) ys = rw (encode_with-append digits bs ys) refl

-- one more part was written
pub parts-more : (out new left first behind all : List ℕ) (count : ℕ) → out ++ encode_lower left ≡ all
    → first ≡ take count left → behind ≡ drop count left → new ≡ out ++ encode_lower first → new ++ encode_lower behind ≡ all
parts-more out new left first behind all count so_far front back more =
    rw (more, front, back) (append_assoc out (encode_lower (take count left)) (encode_lower (drop count left))
    ∙ (ap (λ xs. out ++ xs)
    (sym (encode_with-append lower_digits (take count left) (drop count left)) ∙ ap encode_lower (take-append-drop count left)) ∙ so_far))
