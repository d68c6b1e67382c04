-- What was shown of the turns of a run to who saves, and the marks behind it. No public clause cites it.
use Rattle.std.specs.Prelude.{◌≡◌, ℕ, ◌+◌, ◌-◌, List, [], ◌∷◌, ◌++◌, map, length, Option}
use Rattle.serve_loop.specs.Looks.{Look}
use Rattle.persist_store.specs.Marks.{Mark}
use Rattle.keep_loop.specs.Bodies.{paced}
use Rattle.keep_loop.specs.Marking.{AreMarks}

-- the bodies that were shown
abbrev pub bodies_shown : List Look → List (List ℕ)
bodies_shown looks = map (λ (l : Look). l.body) looks

-- each so manieth of them, which are looked at
abbrev pub looked_at : ℕ → List Look → List (List ℕ)
looked_at every looks = paced every (every - 1) (bodies_shown looks)

-- a mark behind so many others, among these looks: it stands behind one whose body is looked at, and before the next
pub record MarksShown (every : ℕ) (Holds : List (List ℕ) → Option (List ℕ) → Type 0) (looks : List Look) (count : ℕ) (mark : Mark) : Type 0 where
  pub before : List Look
  pub look : Look
  pub later : List Look
  pub are : looks ≡ before ++ look ∷ later
  pub so_far : length (looked_at every before) ≡ count
  pub due : length (looked_at every (before ++ look ∷ [])) ≡ count + 1
  pub wire : mark.wire ≡ look.wire
  -- what the file held then
  pub holds : Holds (looked_at every (before ++ look ∷ [])) mark.file

-- the marks behind these looks, from a disk that may have been told others
pub record MarksShownSoFar (Marked : List Mark → Type 0) (marks : List Mark) (every : ℕ) (Holds : List (List ℕ) → Option (List ℕ) → Type 0)
    (looks : List Look) : Type 0 where
  pub marked : List Mark
  pub told : Marked (marks ++ marked)
  pub each : length marked ≡ length (looked_at every looks)
  pub are : AreMarks (MarksShown every Holds looks) 0 marked
