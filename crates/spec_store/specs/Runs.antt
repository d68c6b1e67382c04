-- Saves one after another: what a stop at any moment of them leaves.
use Rattle.std.specs.Prelude.{◌≡◌, ◌⊎◌, ◌≤◌, ◌^◌, ℕ, ◌+◌, List, [], ◌∷◌, ◌++◌, length, true, Option, Some}
use Rattle.spec_store.specs.BodyText.{is_body_text}
use Rattle.spec_store.specs.Slots.{MAX_BODY, Standing, standing_of}
use Rattle.spec_store.specs.Stops.{DiskCall, file_after, LeavesAlways, LeavesBehind}
use Rattle.spec_store.specs.Saves.{next_sequence, standing_after, calls_of_save}

-- the calls of saves of these bodies
unfoldable pub calls_of_saves : List ℕ → List (List ℕ) → List DiskCall
calls_of_saves file [] = []
calls_of_saves file (body ∷ bodies) =
    calls_of_save file body ++ calls_of_saves (file_after file (calls_of_save file body)) bodies

-- what a file stands for after them
unfoldable pub standing_after_all : Option Standing → List (List ℕ) → Option Standing
standing_after_all standing [] = standing
standing_after_all standing (body ∷ bodies) = standing_after_all (Some (standing_after standing body)) bodies

-- each of these is a body text that is not too long
unfoldable pub AreBodies : List (List ℕ) → Type 0
AreBodies [] = Unit {0}
AreBodies (body ∷ bodies) = (is_body_text body ≡ true) × (length body ≤ MAX_BODY) × AreBodies bodies

-- what a file stood for before saves, or after one of them
unfoldable pub IsOneOf : Option Standing → List (List ℕ) → Option Standing → Type 0
IsOneOf standing [] one = one ≡ standing
IsOneOf standing (body ∷ bodies) one = (one ≡ standing) ⊎ IsOneOf (Some (standing_after standing body)) bodies one

-- Saves into a file of which nothing is pending.
pub record AllSurvive (file : List ℕ) (bodies : List (List ℕ)) : Type 0 where
  -- a stop at any moment leaves what stood before, or one of the bodies
  pub always : LeavesAlways (λ c. IsOneOf (standing_of file) bodies (standing_of c)) file (λ c. c ≡ file) (calls_of_saves file bodies)
  -- once all are done each stop leaves what a read gives, and that stands for the last one
  pub behind : LeavesBehind (λ c. c ≡ file_after file (calls_of_saves file bodies)) file (λ c. c ≡ file) (calls_of_saves file bodies)
  pub standing : standing_of (file_after file (calls_of_saves file bodies)) ≡ standing_after_all (standing_of file) bodies
  -- the number has risen by one a save
  pub number : next_sequence (standing_after_all (standing_of file) bodies) ≡ next_sequence (standing_of file) + length bodies

abbrev pub SavesSurvive : Type 0
SavesSurvive = (file : List ℕ) (bodies : List (List ℕ)) → AreBodies bodies
    → next_sequence (standing_of file) + length bodies ≤ 2 ^ 64 → AllSurvive file bodies
