-- Notifications by rising handle. Private: no public clause cites this file.
use Rattle.std.specs.Prelude.{ℕ, zero, suc, ◌<◌, ◌≤◌, List, [], ◌++◌, ◌==◌, length, filter, All, IsSome}
use Rattle.spec_machine.specs.WatchedRanges.{Watched}
use Rattle.spec_machine.specs.Watches.{Watch}
use Rattle.notify_table.specs.Table.{WatchTable, handle_of, watch_of_handle, IsWatchable}
use Rattle.spec_machine.specs.Requests.{MAX_WATCHES}
use Rattle.notify_table.specs.Schedules.{OncePer, watch_in}
use Rattle.notify_table.specs.Reloads.{EndedWatch, end_of}

-- those with a number from 1 to this one, by their numbers
abbrev pub by_number : {X : Type 0} → (X → ℕ) → ℕ → List X → List X
by_number n zero xs = []
by_number n (suc k) xs = by_number n k xs ++ filter (λ x. n x == suc k) xs

abbrev pub HasNumber : {X : Type 0} → (X → ℕ) → ℕ → X → Type 0
HasNumber n most x = (0 < n x) × (n x ≤ most)

-- each live notification has a granted handle of its own; they are few, and each may be watched
pub record AreGranted (watches : List (Watch Watched)) (granted : ℕ) : Type 0 where
  pub within : All (HasNumber handle_of granted) watches
  pub once : OncePer handle_of watches
  pub few : length watches ≤ MAX_WATCHES
  pub watched : All IsWatchable watches

-- what is live, and how many were granted
abbrev pub table_from : List (Watch Watched) → ℕ → WatchTable
table_from watches granted = record { watches = by_number handle_of granted watches; additions = granted }

abbrev pub IsLive : WatchTable → ℕ → Type 0
IsLive t handle = IsSome (watch_of_handle handle t)

-- what is told of the notification with a handle
abbrev pub end_of_handle : WatchTable → ℕ → EndedWatch
end_of_handle t handle = end_of (watch_in (watch_of_handle handle t))
