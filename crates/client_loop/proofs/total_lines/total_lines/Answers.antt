-- One line more, and all of them.
use Rattle.std.proofs.Common.{◌∙◌}
use Rattle.std.proofs.Math.Nat.{le_trans}
use Rattle.spec_client.specs.Stages.{entries_taken}
use Rattle.client_loop.proofs.LineLemmas.{lines_more, lines_all}
use Rattle.client_loop.proofs.total_lines.total_lines.Goals as goal

pub returns-in-None-clause-lines : goal.returns-in-None-clause-lines
returns-in-None-clause-lines g c =
    lines_all (g.K.Keeper.state c.args.keeper.now).rows
    (entries_taken c.args.runner.now.stage) c.loop-n.n c.loop-n.text c.in-None.ensures c.loop-n.invariant.lines

pub loop-n-preserved : goal.loop-n-preserved
loop-n-preserved g c =
    let same = c.loop-n.invariant.rows in
    let line = rw c.in-Ok-true.field-0-test at c.in-Ok-true.ensures.line in
    record {
      lines = lines_more (g.K.Keeper.state c.args.keeper.now).rows (entries_taken c.args.runner.now.stage) c.loop-n.n c.in-Some.name.now c.in-Some.type_id
          c.loop-n.text c.put_line.new.text c.in-Some.ensures c.loop-n.invariant.lines (λ rows known. line rows (same ∙ known));
      rows = c.put_line.ensures.rows ∙ same;
      names = c.put_line.ensures.names ∙ c.loop-n.invariant.names;
      later = le_trans c.loop-n.invariant.later c.put_line.ensures.keeper_later;
    }
