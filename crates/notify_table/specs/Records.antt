-- Which notification a value of `Record` is. Private: no public clause cites this file.
use Rattle.std.specs.Prelude.{◌≡◌, ℕ, Bool, if◌then◌else◌, List, [], length, Option, None, Some}
use Rattle.spec_machine.specs.WatchedRanges.{Watched}
use Rattle.spec_machine.specs.Watches.{Watch}
use Rattle.notify_table.specs.Specs.{address_of, mode_meant, watched_meant}
use Rattle.notify_table.specs.Table.{watched_len, CanBeWatched}
use Rattle.notify_table.specs.declared.record.Record.TheInside.{Inside}

abbrev pub last_check : Bool → ℕ → Option ℕ
last_check checked last = if checked then Some last else None

-- before the first check nothing was sent
abbrev pub sent_bytes : Bool → List ℕ → List ℕ
sent_bytes checked bytes = if checked then bytes else []

abbrev pub watch_of : Inside → Watch Watched
watch_of r = record {
  handle = r.handle;
  port = r.port;
  address = address_of r.to;
  watched = watched_meant r.watched;
  mode = mode_meant r.mode;
  cycle = r.cycle;
  last = last_check r.checked r.last;
  sent = sent_bytes r.checked r.sent;
}

-- there is room for the bytes of a check
pub record IsSound (r : Inside) : Type 0 where
  pub room : length r.sent ≡ watched_len (watched_meant r.watched)
  pub watched : CanBeWatched (watched_meant r.watched)
