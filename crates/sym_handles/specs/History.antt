-- What a client's history says of its handles: grants, releases and reloads, in order.
use Rattle.std.specs.Prelude.{◌≡◌, ℕ, ◌+◌, ◌≤◌, ◌⊎◌, List, [], ◌∷◌, length, Some, None, Result, Ok, Err}
use Rattle.return_codes.specs.declared.code.Code.{Code}
use Rattle.return_codes.specs.declared.code.Code.TheVariants.{C710, C711}
use Rattle.symbol_table.specs.declared.place.Place.{Place}
use Rattle.spec_machine.specs.ByName.{MAX_LIVE, MAX_NUMBER}
use Rattle.spec_machine.specs.Handles.{HandleStatus, Never, Released, Outdated, Live, HandleEvent, Handle, live_count}
use Rattle.spec_machine.specs.HandleLaws.{handles_of}
use Rattle.sym_handles.specs.Kept.{KeptHandle, Kept}

abbrev pub History : Type 0
History = List (HandleEvent Place)

-- 4,096 handles are live, or 4,294,967,295 were granted
abbrev pub IsFull : History → Type 0
IsFull history = (MAX_LIVE ≤ live_count (handles_of history)) ⊎ (MAX_NUMBER ≤ length (handles_of history))

-- the place that a handle of this status names, or the code that refuses it
abbrev pub look_up : HandleStatus Place → Result Place Code
look_up Never = Err C710
look_up Released = Err C710
look_up Outdated = Err C711
look_up (Live place) = Ok place

-- whether a handle of this status can be released, or the code that refuses it
abbrev pub release_of : HandleStatus Place → Result (Unit {0}) Code
release_of Never = Err C710
release_of Released = Err C710
release_of Outdated = Ok tt
release_of (Live place) = Ok tt

-- what is kept of a handle of this number, before what is kept of those behind it
abbrev pub kept_before : ℕ → ℕ → HandleStatus Place → List KeptHandle → List KeptHandle
kept_before number port Never rest = rest
kept_before number port Released rest = rest
kept_before number port Outdated rest = record { number = number; port = port; place = None } ∷ rest
kept_before number port (Live place) rest = record { number = number; port = port; place = Some place } ∷ rest

-- what is kept of handles, of which the first has this number
abbrev pub kept_from : ℕ → List (Handle Place) → List KeptHandle
kept_from number [] = []
kept_from number (h ∷ hs) = kept_before number h.port h.status (kept_from (number + 1) hs)

-- what is kept stands for this history
pub record Represents (kept : Kept) (history : History) : Type 0 where
  pub granted : kept.granted ≡ length (handles_of history)
  pub handles : kept.handles ≡ kept_from 1 (handles_of history)
