-- What a name leads to among the symbols of a port: a symbol, and a part of its type.
use Rattle.std.specs.Prelude.{ℕ, List, [], ◌∷◌, length, map, drop, Bool, ◌==◌, if◌then◌else◌}
use Rattle.std.specs.Prelude.{find, Option, option_map, option_and_then, bytes_eq}
use Rattle.std.specs.List.{starts_with}
use Rattle.name_paths.specs.Identifier.{lower}
use Rattle.name_paths.specs.Name.{identifiers_of, lower_identifiers}
use Rattle.name_paths.specs.Path.{Step, steps_of, first_names}
use Rattle.spec_plant.specs.Parts.{TypePart, part_behind}
use Rattle.spec_plant.specs.World.{PlantSymbol}

-- the path begins with all identifiers of the symbol's name, ASCII case aside
abbrev pub is_named_by : List Step → PlantSymbol → Bool
is_named_by steps s = starts_with bytes_eq (map lower (first_names steps)) (lower_identifiers s.name)

-- the steps behind the symbol's name
abbrev pub steps_behind_name : List Step → PlantSymbol → List Step
steps_behind_name steps s = drop (length (identifiers_of s.name)) steps

-- a symbol, the steps behind its name, and the part of its type that they lead to
pub record Found : Type 0 where
  pub symbol : PlantSymbol
  pub steps : List Step
  pub part : TypePart

-- the whole of a symbol
abbrev pub whole_of : PlantSymbol → TypePart
whole_of s = record { first = 0; type = s.type }

abbrev pub found_in_symbol : List Step → PlantSymbol → Option Found
found_in_symbol steps s =
    option_map (λ part. record { symbol = s; steps = steps_behind_name steps s; part = part })
    (part_behind (whole_of s) (steps_behind_name steps s))

-- an accepted description has at most one symbol that a path begins with
abbrev pub found_of_steps : List PlantSymbol → List Step → Option Found
found_of_steps symbols steps =
    option_and_then (found_in_symbol steps) (find (is_named_by steps) symbols)

-- a name as a request writes it: it may end in one NUL
abbrev pub without_nul : List ℕ → List ℕ
without_nul [] = []
without_nul (c ∷ []) = if c == 0 then [] else c ∷ []
without_nul (c ∷ (d ∷ cs)) = c ∷ without_nul (d ∷ cs)

-- what a name leads to
unfoldable pub found_of : List PlantSymbol → List ℕ → Option Found
found_of symbols name = option_and_then (found_of_steps symbols) (steps_of (without_nul name))
