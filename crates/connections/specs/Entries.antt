-- Where the entry of a number stands.
use Rattle.std.specs.Prelude.{◌≡◌, ◌≢◌, ℕ, ◌<◌, List, length, slice_index_or, All}
use Rattle.std.specs.Map.{keys_of}

-- the first entry of this number stands here
pub record IsEntry {X : Type 0} (es : List (ℕ × X)) (n i : ℕ) : Type 0 where
  pub within : i < length es
  pub number : (d : ℕ) → slice_index_or (keys_of es) i d ≡ n
  pub first : (k : ℕ) (d : ℕ) → k < i → slice_index_or (keys_of es) k d ≢ n

-- no entry has this number
abbrev pub IsNoEntry : {X : Type 0} → List (ℕ × X) → ℕ → Type 0
IsNoEntry es n = All (λ k. k ≢ n) (keys_of es)
