-- What of the frames that wait for a connection is offered to it, which may be blocked.
use Rattle.std.specs.Prelude.{ℕ, ◌≤◌, List, [], ◌∷◌, length, Bool, if◌then◌else◌, Option, Some, None, IsSomeAnd, unwrap_or}
use Rattle.out_queue.specs.Queue.{front_of}

-- what is left of its first frame, unless it is blocked
abbrev pub offer_of : Bool → List (List ℕ) → Option (List ℕ)
offer_of blocked out = if blocked then None else front_of out

-- how many frames wait for it, unless it is blocked
abbrev pub offers_of : Bool → List (List ℕ) → ℕ
offers_of blocked out = if blocked then 0 else length out

-- frames that are lent in one run: all of them, where there is one
abbrev pub some_frames : List (List ℕ) → Option (List (List ℕ))
some_frames [] = None
some_frames (f ∷ fs) = Some (f ∷ fs)

-- what is lent of it: the frames that wait for it, unless it is blocked
abbrev pub run_of : Bool → List (List ℕ) → Option (List (List ℕ))
run_of blocked out = if blocked then None else some_frames out

-- at most the bytes that are left of the first frame
abbrev pub FitsFirst : ℕ → List (List ℕ) → Type 0
FitsFirst n out = IsSomeAnd (front_of out) (λ left. n ≤ length left)

-- what is left of the first frame
abbrev pub first_left : List (List ℕ) → List ℕ
first_left out = unwrap_or (front_of out) []
