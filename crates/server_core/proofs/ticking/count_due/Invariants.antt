-- Those so far and those that are left are all; no session has more than a word counts.
use Rattle.std.proofs.Common.{◌≡◌, ◌+◌, ◌*◌, ◌≤◌, drop}
use Rattle.std.specs.Prelude.{sum_by}
use Rattle.server_core.specs.DueChecks.{due_checks, due_in}
use Rattle.server_core.proofs.ticking.count_due.Given as goal

abbrev pub invariant-loop-turned : goal.invariant-loop-turned
invariant-loop-turned l =
    (l.due + sum_by (due_in l.now) (drop l.turned-index l.list) ≡ due_checks l.fn.now l.fn.list)
    × (l.due ≤ l.turned-index * 18446744073709551616)
