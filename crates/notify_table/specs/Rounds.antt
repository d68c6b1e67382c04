-- The notifications of a connection while those that are due at a moment are checked one after another.
use Rattle.std.specs.Prelude.{ℕ, ◌+◌, ◌<◌, List, length, slice_index_or, Option}
use Rattle.spec_machine.specs.WatchedRanges.{Watched}
use Rattle.spec_machine.specs.Watches.{Watch}
use Rattle.notify_table.specs.Table.{WatchTable, due_handles, watch_of_handle, table_after, Checked}

-- the notifications, the handles of those that are checked, the moment, and how many checks were made
pub record RoundState : Type 0 where
  pub table : WatchTable
  pub handles : List ℕ
  pub moment : ℕ
  pub made : ℕ

-- before the first check
abbrev pub round_at : ℕ → WatchTable → RoundState
round_at now t = record { table = t; handles = due_handles now t; moment = now; made = 0 }

-- a check is left
abbrev pub HasNext : RoundState → Type 0
HasNext r = r.made < length r.handles

abbrev pub next_handle : RoundState → ℕ
next_handle r = slice_index_or r.handles r.made 0

-- the notification that is checked next
abbrev pub next_watch : RoundState → Option (Watch Watched)
next_watch r = watch_of_handle (next_handle r) r.table

-- after its check, where these are its bytes
abbrev pub round_after : List ℕ → RoundState → RoundState
round_after bytes r = record r { table = table_after r.table (Checked (next_handle r) r.moment bytes); made = r.made + 1 }
