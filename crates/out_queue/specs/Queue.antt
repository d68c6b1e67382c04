-- Frames that wait, each a list of bytes, of which the first may be taken in part.
use Rattle.std.specs.Prelude.{ℕ, ◌≤◌, ◌==◌, List, [], ◌∷◌, length, drop, Option, Some, None, unwrap_or, sum_by, if◌then◌else◌}

-- the most bytes that wait for one connection. This project's own choice: 4 MiB.
abbrev pub QUEUE_LIMIT : ℕ
QUEUE_LIMIT = 4194304

-- the number of bytes that wait
abbrev pub queued : List (List ℕ) → ℕ
queued frames = sum_by length frames

-- what is left of the first frame
abbrev pub front_of : List (List ℕ) → Option (List ℕ)
front_of [] = None
front_of (frame ∷ frames) = Some frame

-- n bytes can be taken of the first frame
abbrev pub FitsFront : ℕ → List (List ℕ) → Type 0
FitsFront n frames = n ≤ length (unwrap_or (front_of frames) [])

-- the frames after n bytes of the first were taken: one that is taken whole is gone
abbrev pub frames_after : ℕ → List (List ℕ) → List (List ℕ)
frames_after n [] = []
frames_after n (frame ∷ frames) = if length frame == n then frames else drop n frame ∷ frames
