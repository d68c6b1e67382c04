-- The order in which checks become due. Private: no public clause cites this file.
use Rattle.std.specs.Prelude.{◌≡◌, ℕ, ◌+◌, ◌*◌, ◌<◌, ◌≤◌, max, List, length, slice_index_or, Bool, true, nat_le, Option}
use Rattle.std.specs.Prelude.{None, Some, All}
use Rattle.std.specs.List.Sorted.{IsNonDecreasingBy}
use Rattle.spec_machine.specs.WatchedRanges.{Watched}
use Rattle.spec_machine.specs.Watches.{Watch}

-- 0 before the first check, then the last check and the cycle
abbrev pub moment_after : Option ℕ → ℕ → ℕ
moment_after None cycle = 0
moment_after (Some last) cycle = last + max cycle 1

abbrev pub next_moment : Watch Watched → ℕ
next_moment w = moment_after w.last w.cycle

-- notifications stand by the moment of their next check, and at one moment by their handle
abbrev pub rank_of : ℕ → ℕ → ℕ
rank_of next handle = next * 4294967296 + handle

abbrev pub turn_rank : Watch Watched → ℕ
turn_rank w = rank_of (next_moment w) w.handle

abbrev pub HasHandle : Watch Watched → Type 0
HasHandle w = w.handle < 4294967296

pub record AreInTurn (watches : List (Watch Watched)) : Type 0 where
  pub handles : All HasHandle watches
  pub rise : IsNonDecreasingBy turn_rank watches

abbrev pub is_turn_due : ℕ → Watch Watched → Bool
is_turn_due now w = nat_le (next_moment w) now

-- what stands before a place comes before this rank, and what stands from there on does not
pub record IsPlaceOf (rank : ℕ) (watches : List (Watch Watched)) (place : ℕ) : Type 0 where
  pub within : place ≤ length watches
  pub before : (k : ℕ) (d : Watch Watched) → k < place → turn_rank (slice_index_or watches k d) ≤ rank
  pub behind : (k : ℕ) (d : Watch Watched) → place ≤ k → k < length watches → rank ≤ turn_rank (slice_index_or watches k d)

-- a check of each of them is due
abbrev pub AllDue : ℕ → List (Watch Watched) → Type 0
AllDue now watches = All (λ w. is_turn_due now w ≡ true) watches
