-- Bounds joined by commas: the first one, and each further one behind a comma.
use Rattle.std.proofs.Common.{◌≡◌, ◌-◌, ◌<◌, List, [], ◌∷◌, ◌++◌, length, get_or, take, drop, map, refl, ap, arith}
use Rattle.std.specs.Prelude.{flat_map}
use Rattle.std.proofs.lemmas.List.{take_all}
use Rattle.spec_plant.specs.Spelling.{bound_text, joined_by_comma}
use Rattle.type_layout.specs.Shapes.{bound_of, bounds_of}
use Rattle.type_layout.specs.Spelled.{comma_bound}
use Rattle.type_layout.specs.declared.shape.Bound.{Bound}

more_bounds : (bounds : List Bound) → flat_map (λ u. 44 ∷ u) (map bound_text (bounds_of bounds)) ≡ flat_map comma_bound bounds
more_bounds [] = refl
more_bounds (b ∷ bs) = ap (λ rest. comma_bound b ++ rest) (more_bounds bs)

pub joined_bounds : (bounds : List Bound) (d : Bound) → 0 < length bounds
    → joined_by_comma (map bound_text (bounds_of bounds)) ≡ bound_text (bound_of (get_or bounds 0 d))
    ++ flat_map comma_bound (take (length bounds - 1) (drop 1 bounds))
joined_bounds [] d h = absurd (omega arith)
joined_bounds (b ∷ bs) d h =
    let less : length (b ∷ bs) - 1 ≡ length bs = omega arith in
    let all : take (length (b ∷ bs) - 1) bs ≡ bs = rw less (take_all (length bs) bs (omega arith)) in
    rw all (ap (λ rest. bound_text (bound_of b) ++ rest) (more_bounds bs))
