-- A body text is read back; and a save survives a stop at any moment: what a stop leaves stands for the body before it
-- or for the new one.
use Rattle.std.specs.Prelude.{◌≡◌, ◌⊎◌, ◌<◌, ◌≤◌, ◌^◌, ℕ, ◌+◌, List, [], ◌∷◌, ◌++◌, length, drop, true, false, All, Some}
use Rattle.spec_store.specs.Disk.{written, Torn}
use Rattle.spec_store.specs.Stops.{file_after, LeavesAlways, LeavesBehind}
use Rattle.spec_store.specs.BodyText.{StoredEntry, FitsEntry, body_text, entries_of, is_body_text}
use Rattle.spec_store.specs.Slots.{MAX_BODY, Slot, behind_gate, standing_of}
use Rattle.spec_store.specs.Saves.{next_place, next_sequence, next_slot, standing_after, has_closed_gate, calls_of_save}

-- The body text of entries is read as these entries.
abbrev pub BodyTextsAreRead : Type 0
BodyTextsAreRead = (entries : List StoredEntry) → All FitsEntry entries → length entries < 2 ^ 32
    → entries_of (body_text entries) ≡ Some entries

-- what a save asks: a body text that is not too long, and a number of 64 bits for it
pub record MaySave (file body : List ℕ) : Type 0 where
  pub is_text : is_body_text body ≡ true
  pub short : length body ≤ MAX_BODY
  pub number : next_sequence (standing_of file) < 2 ^ 64

-- a file stands for what it stood for before a save, or for the new body
abbrev pub IsBeforeOrAfter : List ℕ → List ℕ → List ℕ → Type 0
IsBeforeOrAfter file body c =
    (standing_of c ≡ standing_of file) ⊎ (standing_of c ≡ Some (standing_after (standing_of file) body))

-- A gate is closed: a stop leaves what the file stood for, and so does the end.
pub record ClosesGate (file : List ℕ) (place : ℕ) : Type 0 where
  pub stop : (c : List ℕ) → Torn place 1 file c → standing_of c ≡ standing_of file
  pub standing : standing_of (written place (0 ∷ []) file) ≡ standing_of file
  pub closed : has_closed_gate place (written place (0 ∷ []) file) ≡ true

-- a slot whole but for its gate, which is not open
pub record IsFilled (place : ℕ) (slot : Slot) (file : List ℕ) : Type 0 where
  pub gate : ℕ
  pub rest : List ℕ
  pub not_open : gate ≡ 1 → ⊥
  pub is : drop place file ≡ gate ∷ (behind_gate slot ++ rest)

-- A slot is filled behind a closed gate: a stop leaves what the file stood for, and so does the end.
pub record FillsSlot (file : List ℕ) (place : ℕ) (slot : Slot) : Type 0 where
  pub stop : (c : List ℕ) → Torn (place + 1) (length (behind_gate slot)) file c → standing_of c ≡ standing_of file
  pub standing : standing_of (written (place + 1) (behind_gate slot) file) ≡ standing_of file
  pub filled : IsFilled place slot (written (place + 1) (behind_gate slot) file)

-- The gate of a filled slot is opened: a stop leaves what the file stood for or the new slot, and the end leaves that.
pub record OpensGate (file body : List ℕ) (place : ℕ) : Type 0 where
  pub stop : (c : List ℕ) → Torn place 1 file c → IsBeforeOrAfter file body c
  pub standing : standing_of (written place (1 ∷ []) file) ≡ Some (standing_after (standing_of file) body)

-- the three steps, one after another; the gate is closed only where it is open or not in the file
abbrev pub StepsSurvive : Type 0
StepsSurvive = (file body : List ℕ) → MaySave file body
    → (has_closed_gate (next_place (standing_of file)) file ≡ false → ClosesGate file (next_place (standing_of file)))
    × (has_closed_gate (next_place (standing_of file)) file ≡ true
    → FillsSlot file (next_place (standing_of file)) (next_slot (standing_of file) body))
    × (IsFilled (next_place (standing_of file)) (next_slot (standing_of file) body) file
    → OpensGate file body (next_place (standing_of file)))

-- Why a closed gate is not written again: a stop in such a write may leave it open over a body that never stood.
abbrev pub ClosedGateMayOpen : Type 0
ClosedGateMayOpen = (file body : List ℕ) → MaySave file body
    → IsFilled (next_place (standing_of file)) (next_slot (standing_of file) body) file
    → (c : List ℕ) × Torn (next_place (standing_of file)) 1 file c
    × (standing_of c ≡ Some (standing_after (standing_of file) body))

-- A whole save into a file of which nothing is pending.
pub record Survives (file body : List ℕ) : Type 0 where
  -- a stop at any moment leaves the body before or the new one
  pub always : LeavesAlways (IsBeforeOrAfter file body) file (λ c. c ≡ file) (calls_of_save file body)
  -- once the save is done each stop leaves what a read gives, and that stands for the new one
  pub behind : LeavesBehind (λ c. c ≡ file_after file (calls_of_save file body)) file (λ c. c ≡ file) (calls_of_save file body)
  pub standing : standing_of (file_after file (calls_of_save file body)) ≡ Some (standing_after (standing_of file) body)

abbrev pub SaveSurvives : Type 0
SaveSurvives = (file body : List ℕ) → MaySave file body → Survives file body
