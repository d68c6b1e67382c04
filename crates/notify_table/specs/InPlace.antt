-- What holds of a `Round`. Private: no public clause cites this file.
use Rattle.std.specs.Prelude.{◌≡◌, ℕ, ◌+◌, ◌-◌, ◌<◌, ◌≤◌, max, List, ◌++◌, length, map, take, drop, slice_index_or, All}
use Rattle.std.specs.List.Sorted.{IsNonDecreasing}
use Rattle.spec_machine.specs.WatchedRanges.{Watched}
use Rattle.spec_machine.specs.Watches.{Watch}
use Rattle.notify_table.specs.declared.round.Round.TheInside.{Inside}
use Rattle.notify_table.specs.Table.{handle_of}
use Rattle.notify_table.specs.Turns.{HasHandle, next_moment, rank_of, turn_rank}
use Rattle.notify_table.specs.Numbered.{AreGranted, table_from}
use Rattle.notify_table.specs.Rounds.{RoundState}

-- where a notification stands after a check at a moment
abbrev pub checked_rank : ℕ → Watch Watched → ℕ
checked_rank now w = rank_of (now + max w.cycle 1) w.handle

abbrev pub IsCheckedAt : ℕ → Watch Watched → Type 0
IsCheckedAt now w = next_moment w ≡ now + max w.cycle 1

-- up to a place handles rise, and cycles do not fall
abbrev pub RiseUpTo : List (Watch Watched) → ℕ → Type 0
RiseUpTo watches n = (k : ℕ) (d : Watch Watched) → k + 1 < n
    → ((slice_index_or watches k d).handle < (slice_index_or watches (k + 1) d).handle)
    × ((slice_index_or watches k d).cycle ≤ (slice_index_or watches (k + 1) d).cycle)

abbrev pub RiseTogether : List (Watch Watched) → Type 0
RiseTogether watches = RiseUpTo watches (length watches)

-- the first, once it is checked, comes behind all others that do not stand among the first so many
abbrev pub IsBehind : ℕ → ℕ → List (Watch Watched) → Type 0
IsBehind now due watches = (d : Watch Watched) → due < length watches
    → turn_rank (slice_index_or watches (length watches - 1) d) ≤ checked_rank now (slice_index_or watches 0 d)

-- once the first so many are checked, all are in turn where these go behind the others
abbrev pub GoRound : ℕ → ℕ → List (Watch Watched) → Type 0
GoRound now due watches = IsNonDecreasing (map turn_rank (drop due watches) ++ map (checked_rank now) (take due watches))

-- the notifications of a round: the first so many, of which some were checked, go behind the others after it
pub record AreInRound (watches : List (Watch Watched)) (now due made : ℕ) : Type 0 where
  pub within : due ≤ length watches
  pub handles : All HasHandle watches
  pub round : GoRound now due watches
  pub checked : All (IsCheckedAt now) (take made watches)

pub record IsRound (r : Inside) : Type 0 where
  pub turns : AreInRound r.ring.items r.moment r.due r.made
  pub granted : AreGranted r.ring.items r.granted

abbrev pub round_of : Inside → RoundState
round_of r = record {
  table = table_from r.ring.items r.granted;
  handles = map handle_of (take r.due r.ring.items);
  moment = r.moment;
  made = r.made;
}
