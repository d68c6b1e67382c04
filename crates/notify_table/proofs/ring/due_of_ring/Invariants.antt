use Rattle.std.proofs.Common.{◌≡◌, ◌+◌, map, take}
use Rattle.notify_table.specs.Table.{handle_of}
use Rattle.notify_table.specs.Turns.{AllDue}
use Rattle.notify_table.proofs.ring.due_of_ring.Given as goal

-- all so far are due
abbrev pub invariant-loop-i : goal.invariant-loop-i
invariant-loop-i g l = record {
  handles : l.handles.items ≡ map handle_of (take l.i l.ring.items);
  due : AllDue l.now (take l.i l.ring.items);
  steps : l.steps ≡ l.initial.steps + l.i;
}
