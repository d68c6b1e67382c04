use Rattle.std.proofs.Common.{◌≡◌, map, take}
use Rattle.std.specs.List.{filter}
use Rattle.notify_table.specs.Table.{handle_of}
use Rattle.notify_table.specs.Reloads.{is_ended}
use Rattle.notify_table.proofs.schedule.ending_of.Given as goal

-- the handles of those so far that end
abbrev pub invariant-loop-i : goal.invariant-loop-i
invariant-loop-i l = l.handles.items ≡ map handle_of (filter (is_ended l.m l.ports) (take l.i l.ring.items))
