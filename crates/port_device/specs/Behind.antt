-- For private contracts, and cited by no public clause: what stands behind a text, where bytes begin with it.
use Rattle.std.specs.Prelude.{ℕ, List, [], ◌∷◌, ◌++◌, length, ◌==◌, Bool, false, if◌then◌else◌, Option, Some, None}
use Rattle.std.specs.Int.{w64, to_le_bytes}

-- what stands behind a text; nothing where the bytes do not begin with it
unfoldable pub behind : List ℕ → List ℕ → Option (List ℕ)
behind [] bytes = Some bytes
behind (t ∷ ts) [] = None
behind (t ∷ ts) (b ∷ bs) = if b == t then behind ts bs else None

-- a form behind its length
abbrev pub sized_form : List ℕ → List ℕ
sized_form form = to_le_bytes w64 (length form) ++ form

-- whether nothing stands behind it
abbrev pub is_end : Option (List ℕ) → Bool
is_end None = false
is_end (Some rest) = length rest == 0
