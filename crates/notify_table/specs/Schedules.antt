-- The notifications of a schedule. Private: no public clause cites this file.
use Rattle.std.specs.Prelude.{◌≡◌, ℕ, ◌+◌, ◌≤◌, List, [], insert, remove, ◌==◌, Option, None, Some, unwrap_or, count_by, slice_index_or}
use Rattle.spec_machine.specs.WatchedRanges.{Watched, Own}
use Rattle.spec_machine.specs.Watches.{Watch, Cyclic}

abbrev pub no_watch : Watch Watched
no_watch = record {
  handle = 0;
  port = 0;
  address = record { net = []; port = 0 };
  watched = Own 0 0;
  mode = Cyclic;
  cycle = 0;
  last = None;
  sent = [];
}

abbrev pub watch_in : Option (Watch Watched) → Watch Watched
watch_in slot = unwrap_or slot no_watch

-- the notification at a place
abbrev pub nth_watch : List (Watch Watched) → ℕ → Watch Watched
nth_watch watches place = slice_index_or watches place no_watch

-- at most one has each number
abbrev pub OncePer : {X : Type 0} → (X → ℕ) → List X → Type 0
OncePer n xs = (k : ℕ) → count_by (λ x. n x == k) xs ≤ 1

-- the notification at a place goes on like this or is gone, and the next is looked at
abbrev pub IsSettled : Option (Watch Watched) → List (Watch Watched) → List (Watch Watched) → ℕ → ℕ → Type 0
IsSettled None old new place next = (new ≡ remove old place) × (next ≡ place)
IsSettled (Some w) old new place next = (new ≡ insert (remove old place) place w) × (next ≡ place + 1)
