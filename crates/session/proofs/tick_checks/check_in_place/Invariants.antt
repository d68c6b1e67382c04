use Rattle.std.proofs.Common.{◌≡◌, ◌≤◌, take}
use Rattle.spec_machine.specs.World.{World}
use Rattle.port_device.specs.Holds.{HoldsPorts}
use Rattle.session.specs.Checks.{AreChecked}
use Rattle.session.proofs.tick_checks.check_in_place.Given as goal

-- so many checks were made, of the first handles
abbrev pub invariant-loop-i : goal.invariant-loop-i
invariant-loop-i l = record {
  checked : (w : World) → HoldsPorts w l.ports
      → AreChecked w l.initial.round.moment (take l._i l.initial.round.handles) l.initial.round.table l.round.table l.groups.groups;
  added : l.groups.added ≤ l._i;
  handles : l.round.handles ≡ l.initial.round.handles;
  moment : l.round.moment ≡ l.initial.round.moment;
  made : l.round.made ≡ l._i;
}
