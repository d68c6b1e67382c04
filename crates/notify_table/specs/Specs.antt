-- Which notification a `Spec` asks for. Beckhoff Information System, "ADS Add Device Notification".
use Rattle.std.specs.Prelude.{ℕ, [], None}
use Rattle.spec_formats.specs.Header.{AmsAddress}
use Rattle.spec_machine.specs.Watches as machine
use Rattle.spec_machine.specs.WatchedRanges as ranges
use Rattle.ads_base.specs.declared.ams_addr.AmsAddr.{AmsAddr}
use Rattle.index_groups.specs.Access.{range_meant}
use Rattle.notify_table.specs.declared.spec.Mode.{Mode}
use Rattle.notify_table.specs.declared.spec.Mode.TheVariants as mode
use Rattle.notify_table.specs.declared.spec.Watched.{Watched}
use Rattle.notify_table.specs.declared.spec.Watched.TheVariants as watched
use Rattle.notify_table.specs.declared.spec.Spec.{Spec}

abbrev pub address_of : AmsAddr → AmsAddress
address_of a = record { net = a.net.bytes; port = a.port }

abbrev pub mode_meant : Mode → machine.Mode
mode_meant mode.Cycle = machine.Cyclic
mode_meant mode.Change = machine.OnChange

abbrev pub watched_meant : Watched → ranges.Watched
watched_meant (watched.InArea range) = ranges.InArea (range_meant range)
watched_meant (watched.Own first len) = ranges.Own first len

-- the notification that is added with this handle
abbrev pub new_watch : ℕ → Spec → machine.Watch ranges.Watched
new_watch handle s = record {
  handle = handle;
  port = s.port;
  address = address_of s.to;
  watched = watched_meant s.watched;
  mode = mode_meant s.mode;
  cycle = s.cycle;
  last = None;
  sent = [];
}

-- a notification before its first check
abbrev pub before_checks : machine.Watch ranges.Watched → machine.Watch ranges.Watched
before_checks w = record w { last = None; sent = [] }
