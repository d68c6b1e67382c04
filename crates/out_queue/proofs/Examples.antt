-- Worked examples: two frames of which the first is taken in two parts, and an empty frame.
use Rattle.std.specs.Prelude.{◌≡◌, [], ◌∷◌, Some, None, refl}
use Rattle.out_queue.specs.Queue.{queued, front_of, frames_after}

queued-two : queued ((1 ∷ 2 ∷ 3 ∷ []) ∷ (4 ∷ []) ∷ []) ≡ 4
queued-two = refl

first_part : frames_after 2 ((1 ∷ 2 ∷ 3 ∷ []) ∷ (4 ∷ []) ∷ []) ≡ (3 ∷ []) ∷ (4 ∷ []) ∷ []
first_part = refl

second_part : frames_after 1 ((3 ∷ []) ∷ (4 ∷ []) ∷ []) ≡ (4 ∷ []) ∷ []
second_part = refl

front-empty_frame : front_of ([] ∷ (4 ∷ []) ∷ []) ≡ Some []
front-empty_frame = refl

after_empty_frame : frames_after 0 ([] ∷ (4 ∷ []) ∷ []) ≡ (4 ∷ []) ∷ []
after_empty_frame = refl

front-nothing : front_of [] ≡ None
front-nothing = refl
