-- What an outlet of a log holds after it took some bytes, where it tells.
use Rattle.std.specs.Prelude.{◌≡◌, ℕ, List, ◌++◌, take, Option, Some, None}

-- so many first bytes of the piece stand behind what it took before
abbrev pub TakesFirst : ℕ → Option (List ℕ) → Option (List ℕ) → List ℕ → Type 0
TakesFirst n None new piece = Unit {0}
TakesFirst n (Some old) new piece = new ≡ Some (old ++ take n piece)
