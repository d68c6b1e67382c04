-- Decimal numbers in texts. Private: no public clause cites this file.
use Rattle.std.specs.Prelude.{◌≡◌, ◌⊎◌, ◌<◌, List, ◌++◌, ◌∷◌, ℕ, length, slice_index}
use Rattle.std.specs.Fmt.{decimal}

-- no number, or a zero with something behind it
abbrev pub IsSuperfluous : List ℕ → Type 0
IsSuperfluous text = (length text ≡ 0) ⊎ ((slice_index text 0 ≡ 48) × (1 < length text))

-- whatever number below 256 stands before a full stop, this is what stands behind it
abbrev pub IsOnlyRest : List ℕ → List ℕ → Type 0
IsOnlyRest text rest = (n : ℕ) (other : List ℕ) → n < 256 → text ≡ decimal n ++ 46 ∷ other → other ≡ rest
