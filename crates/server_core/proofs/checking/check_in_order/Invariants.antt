use Rattle.std.proofs.Common.{◌≡◌, take, drop}
use Rattle.server_core.specs.Checking.{AreAsked}
use Rattle.server_core.proofs.checking.check_in_order.Given as goal

abbrev pub invariant-loop-i : goal.invariant-loop-i
invariant-loop-i g l =
    AreAsked l.ports l.net.bytes l.now (take l.i l.initial.list) (take l.i l.list) × (drop l.i l.list ≡ drop l.i l.initial.list)
