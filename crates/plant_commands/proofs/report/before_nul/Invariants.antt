-- No byte so far is a NUL.
use Rattle.std.proofs.Common.{◌≡◌, ◌+◌, drop}
use Rattle.std.specs.Prelude.{not, ◌==◌}
use Rattle.std.specs.List.{prefix_len}
use Rattle.plant_commands.proofs.report.before_nul.Given as goal

abbrev pub invariant-loop-i : goal.invariant-loop-i
invariant-loop-i l =
    prefix_len (λ byte. not (byte == 0)) l.bytes ≡ l.i + prefix_len (λ byte. not (byte == 0)) (drop l.i l.bytes)
