-- Spans that a walk over an image goes through: they lie in it, rise and do not overlap.
use Rattle.std.specs.Prelude.{ℕ, ◌+◌, ◌<◌, ◌≤◌, List, [], ◌∷◌, length, slice_index_or}
use Rattle.process_image.specs.declared.span.Span.{Span}

-- the i-th span
abbrev pub span_at : List Span → ℕ → Span
span_at spans i = slice_index_or spans i (record { at = 0; len = 0 })

-- each span lies within so many bytes
abbrev pub AreWithin : List Span → ℕ → Type 0
AreWithin spans size =
    (i : ℕ) → i < length spans → (span_at spans i).at + (span_at spans i).len ≤ size

-- each span begins at the end of the one before it or later, the first from the place on,
-- and the last ends within so many bytes
abbrev pub IsWalk : List Span → ℕ → ℕ → Type 0
IsWalk [] from size = from ≤ size
IsWalk (s ∷ spans) from size = (from ≤ s.at) × IsWalk spans (s.at + s.len) size
