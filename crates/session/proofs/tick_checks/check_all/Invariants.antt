use Rattle.std.proofs.Common.{◌≤◌, take}
use Rattle.spec_machine.specs.World.{World}
use Rattle.port_device.specs.Holds.{HoldsPorts}
use Rattle.session.specs.Checks.{AreChecked}
use Rattle.session.proofs.tick_checks.check_all.Given as goal

abbrev pub invariant-loop-handle : goal.invariant-loop-handle
invariant-loop-handle l =
    ((w : World) → HoldsPorts w l.ports → AreChecked w l.now (take l.handle-index l.handles) l.initial.watches l.watches l.groups.groups)
    × (l.groups.added ≤ l.handle-index)
