-- Four dimensions are too many.
use Rattle.std.proofs.Common.{◌≡◌, ℕ, List, ◌∷◌, length, refl, arith, None}
use Rattle.std.specs.List.{slice_split}
use Rattle.std.proofs.lemmas.Bool.{lt-leb}
use Rattle.std.proofs.lemmas.List.Splits.{length-slice_split}
use Rattle.name_paths.specs.Path.{is_comma}
use Rattle.spec_plant.specs.TypeTexts.{dimensions_of}

pub dimensions_of_four : (text a b c : List ℕ) (behind_a behind_b behind_c : List ℕ) → slice_split is_comma text ≡ a ∷ slice_split is_comma behind_a
    → slice_split is_comma behind_a ≡ b ∷ slice_split is_comma behind_b
    → slice_split is_comma behind_b ≡ c ∷ slice_split is_comma behind_c → dimensions_of text ≡ None
dimensions_of_four text a b c behind_a behind_b behind_c e f g =
    let n = length-slice_split is_comma behind_c in
    rw (e, f, g, lt-leb (length (a ∷ b ∷ c ∷ slice_split is_comma behind_c)) 3 (omega arith)) refl
