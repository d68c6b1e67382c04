-- The records of the entries so far are moved.
use Rattle.sym_handles.proofs.Slots.{HasMoved}
use Rattle.sym_handles.proofs.records.move_all.Given as goal

abbrev pub invariant-loop-entry : goal.invariant-loop-entry
invariant-loop-entry l = HasMoved l.moves l.entries l.initial.records.slots l.records.slots l.entry-index l.live
