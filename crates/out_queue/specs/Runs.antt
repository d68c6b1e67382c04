-- Frames one behind the other in a run of bytes. Private: no public clause cites this file.
use Rattle.std.specs.Prelude.{◌≡◌, ℕ, ◌+◌, List, [], ◌∷◌, length, take, drop, sum}

-- the frames, by how long each is
abbrev pub frames_in : List ℕ → List ℕ → List (List ℕ)
frames_in [] run = []
frames_in (len ∷ lens) run = take len run ∷ frames_in lens (drop len run)

-- the frames are what stands in the bytes behind those that are gone
pub record AreParts (frames : List (List ℕ)) (bytes lens : List ℕ) (gone : ℕ) : Type 0 where
  pub same : frames_in lens (drop gone bytes) ≡ frames
  pub all : gone + sum lens ≡ length bytes
