-- How the client finds and changes its requests without an answer. No public clause cites this file.
use Rattle.std.specs.Prelude.{◌≡◌, ℕ, ◌+◌, ◌<◌, List, ◌++◌, length, take, drop, find, Bool, true, false, ◌==◌}
use Rattle.std.specs.Prelude.{◌&&◌, slice_index_or, Option, Some, None, if◌then◌else◌}
use Rattle.spec_client.specs.Unanswered.{Unanswered, is_outstanding, is_outstanding_at, is_timed_out, is_timed_out_at, lesser, next_timeout, without_first}

-- the request of this id that timed out, or that is outstanding
abbrev pub is_at : Bool → ℕ → Unanswered → Bool
is_at true id u = is_timed_out_at id u
is_at false id u = is_outstanding_at id u

abbrev pub is_answered_by : ℕ → ℕ → Unanswered → Bool
is_answered_by id command u = is_outstanding_at id u && (u.command == command)

-- the least id with this request before the others
abbrev pub least_with : Unanswered → Option ℕ → Option ℕ
least_with u other = if is_timed_out u then Some (lesser u.id other) else other

-- the first request that passes stands here, and without it the others are left
pub record FirstAt (test : Unanswered → Bool) (us : List Unanswered) (place : ℕ) : Type 0 where
  pub within : place < length us
  pub found : (u : Unanswered) → find test us ≡ Some (slice_index_or us place u)
  pub passes : (u : Unanswered) → test (slice_index_or us place u) ≡ true
  pub others : without_first test us ≡ take place us ++ drop (place + 1) us

-- no request passes
pub record IsNowhere (test : Unanswered → Bool) (us : List Unanswered) : Type 0 where
  pub found : find test us ≡ None
  pub others : without_first test us ≡ us

-- the next timeout, and the others without it
abbrev pub TakesTimeout : List Unanswered → List Unanswered → Option Unanswered → Type 0
TakesTimeout old new None = (next_timeout old ≡ None) × (new ≡ old)
TakesTimeout old new (Some u) = (next_timeout old ≡ Some u) × (new ≡ without_first (is_timed_out_at u.id) old)
