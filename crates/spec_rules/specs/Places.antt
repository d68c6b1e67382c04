-- The least place of a list at which a rule is broken, where the rule looks at an element and those before it.
use Rattle.std.specs.Prelude.{ℕ, suc, ◌+◌, min, List, [], ◌∷◌, ◌++◌, Bool, Option, Some, None, option_map, if◌then◌else◌}

-- the place of the first of these elements that is not right behind those before it
abbrev pub first_wrong : {X : Type 0} → (List X → X → Bool) → List X → List X → Option ℕ
first_wrong is_right before [] = None
first_wrong is_right before (x ∷ xs) =
    if is_right before x then option_map suc (first_wrong is_right (before ++ x ∷ []) xs) else Some 0

-- the first of two, where it is there
abbrev pub or_else : Option ℕ → Option ℕ → Option ℕ
or_else (Some i) other = Some i
or_else None other = other

-- the lesser of two, where both are there
abbrev pub lesser : Option ℕ → Option ℕ → Option ℕ
lesser None other = other
lesser (Some i) None = Some i
lesser (Some i) (Some j) = Some (min i j)

-- the least place through all groups of a list: within a group it is counted from the group's first element
abbrev pub first_through : {G : Type 0} → (G → ℕ) → (List G → G → Option ℕ) → List G → List G → Option ℕ
first_through count wrong before [] = None
first_through count wrong before (g ∷ gs) =
    or_else (wrong before g) (option_map (λ i. count g + i) (first_through count wrong (before ++ g ∷ []) gs))
