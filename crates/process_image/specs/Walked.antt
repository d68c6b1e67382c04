-- Bytes after a whole walk, in which each span got its part.
use Rattle.std.specs.Prelude.{◌≡◌, ℕ, ◌+◌, ◌<◌, ◌≤◌, ◌⊎◌, List, [], ◌∷◌, length, take, drop}
use Rattle.process_image.specs.declared.span.Span.{Span}
use Rattle.process_image.specs.Bytes.{with_part}

-- the bytes after each span got its part, in their order
abbrev pub walked : List ℕ → List Span → List (List ℕ) → List ℕ
walked bytes [] parts = bytes
walked bytes (s ∷ spans) [] = bytes
walked bytes (s ∷ spans) (part ∷ parts) = walked (with_part bytes s.at s.len part) spans parts

-- there is a part for each span, and it is as long as the span
abbrev pub FitSpans : List (List ℕ) → List Span → Type 0
FitSpans [] [] = Unit {0}
FitSpans [] (s ∷ spans) = ⊥
FitSpans (part ∷ parts) [] = ⊥
FitSpans (part ∷ parts) (s ∷ spans) = (length part ≡ s.len) × FitSpans parts spans

-- each part stands in the bytes at its span
abbrev pub StandIn : List ℕ → List (List ℕ) → List Span → Type 0
StandIn bytes (part ∷ parts) (s ∷ spans) =
    (take s.len (drop s.at bytes) ≡ part) × StandIn bytes parts spans
StandIn bytes parts spans = Unit {0}

-- the place k is in none of the spans
abbrev pub IsOutside : ℕ → List Span → Type 0
IsOutside k [] = Unit {0}
IsOutside k (s ∷ spans) = ((k < s.at) ⊎ (s.at + s.len ≤ k)) × IsOutside k spans
