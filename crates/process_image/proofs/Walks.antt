-- Spans that rise within so many bytes lie within them.
use Rattle.std.specs.Prelude.{◌≡◌, ℕ, zero, suc, ◌+◌, ◌≤◌, List, [], ◌∷◌, length}
use Rattle.std.proofs.Common.{arith, Bor, MutBor}
use Rattle.std.proofs.Math.Bridge.{le_prop}
use Rattle.process_image.specs.declared.parts.Parts.{Parts}
use Rattle.process_image.specs.declared.span.Span.{Span}
use Rattle.process_image.specs.Spans.{AreWithin, IsWalk}

pub IsWalk-le : (spans : List Span) (from size : ℕ) → IsWalk spans from size → from ≤ size
IsWalk-le [] from size walk = walk
IsWalk-le (s ∷ spans) from size walk = omega (arith, walk.0, IsWalk-le spans (s.at + s.len) size walk.1)

pub IsWalk-AreWithin : (spans : List Span) (from size : ℕ) → IsWalk spans from size → AreWithin spans size
IsWalk-AreWithin [] from size walk i below = absurd (omega (arith, below))
IsWalk-AreWithin (s ∷ spans) from size walk zero below = IsWalk-le spans (s.at + s.len) size walk.1
IsWalk-AreWithin (s ∷ spans) from size walk (suc i) below = IsWalk-AreWithin spans (s.at + s.len) size walk.1 i (omega (arith, below))

-- two walks with the same image, spans and place are the same
pub same_walk : (image : MutBor (List ℕ)) (spans : Bor (List Span)) (place : ℕ) (p q : AreWithin spans.now (length image.now))
    → ◌≡◌ {A = Parts} (record { image = image; spans = spans; place = place; within = p }) (record { image = image; spans = spans; place = place; within = q })
same_walk image spans place p q k = record { image = image; spans = spans; place = place; within = λ i below. le_prop (p i below) (q i below) k }
