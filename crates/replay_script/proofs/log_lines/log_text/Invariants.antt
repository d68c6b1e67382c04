-- The lines so far stand before those of the moves that are left.
use Rattle.std.proofs.Common.{◌≡◌, ◌++◌, drop}
use Rattle.spec_machine.specs.LogText.{log_text_of}
use Rattle.replay_script.proofs.log_lines.log_text.Given as goal

abbrev pub invariant-loop-entry : goal.invariant-loop-entry
invariant-loop-entry l = l.lines ++ log_text_of l.left (drop l.entry-index l.entry-items) ≡ log_text_of l.notes l.log
