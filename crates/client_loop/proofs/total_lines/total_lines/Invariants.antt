-- The lines of the entries so far.
use Rattle.std.proofs.Common.{◌≡◌, ◌≤◌, take}
use Rattle.spec_client.specs.Stages.{entries_taken}
use Rattle.client_loop.specs.Lines.{AreLines}
use Rattle.client_loop.proofs.total_lines.total_lines.Given as goal

abbrev pub invariant-loop-n : goal.invariant-loop-n
invariant-loop-n g l = record {
  lines : AreLines (g.K.Keeper.state l.initial.keeper).rows (take l.n (entries_taken l.runner.stage)) l.text;
  rows : (g.K.Keeper.state l.keeper).rows ≡ (g.K.Keeper.state l.initial.keeper).rows;
  names : (g.K.Keeper.state l.keeper).names ≡ (g.K.Keeper.state l.initial.keeper).names;
  later : (g.K.Keeper.state l.initial.keeper).faults ≤ (g.K.Keeper.state l.keeper).faults;
}
