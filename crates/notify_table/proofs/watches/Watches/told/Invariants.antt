use Rattle.std.proofs.Common.{◌≡◌, map, take}
use Rattle.notify_table.specs.Reloads.{ended_meant}
use Rattle.notify_table.specs.Numbered.{end_of_handle}
use Rattle.notify_table.proofs.watches.Watches.told.Given as goal

-- those so far are told
abbrev pub invariant-loop-handle : goal.invariant-loop-handle
invariant-loop-handle l = map ended_meant l.ended ≡ map (end_of_handle l.self) (take l.handle-index l.handles)
