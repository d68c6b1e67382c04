-- The lines, or none.
use Rattle.std.proofs.Common.{refl, sym, subst}
use Rattle.spec_client.specs.Stages.{entries_taken}
use Rattle.client_loop.specs.Lines.{AfterLines}
use Rattle.client_loop.specs.Outlets.{outlets}
use Rattle.client_loop.proofs.LaterLemmas.{keeper_later}
use Rattle.client_loop.proofs.LineLemmas.{lines_put, lines_unput}
use Rattle.client_loop.proofs.recording.put_lines.Goals as goal

pub returns-in-Ok-Some-clause-lines : goal.returns-in-Ok-Some-clause-lines
returns-in-Ok-Some-clause-lines g c =
    subst (λ x. AfterLines x (entries_taken c.args.runner.now.stage) (outlets (g.S.Sink.state c.args.out.now) (g.K.Keeper.state c.args.keeper.now))
    (outlets (g.S.Sink.state c.print.new.out) (g.K.Keeper.state c.total_lines.new.keeper))) (sym c.ending.ensures)
    (lines_put c.print.result (entries_taken c.args.runner.now.stage) _ (g.S.Sink.state c.args.out.now) (g.S.Sink.state c.print.new.out)
    (g.K.Keeper.state c.args.keeper.now) (g.K.Keeper.state c.total_lines.new.keeper) c.total_lines.ensures.rows
    (rw c.in-Ok-Some.field-0-is at c.in-Ok-Some.ensures.lines) c.print.ensures.put)

pub returns-in-Ok-Some-clause-out_later : goal.returns-in-Ok-Some-clause-out_later
returns-in-Ok-Some-clause-out_later g c = record {
  sink = c.print.ensures.out_later;
  keeper = c.total_lines.ensures.keeper_later;
  names = c.total_lines.ensures.names;
}

pub returns-in-Ok-None-clause-lines : goal.returns-in-Ok-None-clause-lines
returns-in-Ok-None-clause-lines g c = (rw c.in-Ok-None.field-0-is at c.in-Ok-None.ensures.lines, refl, c.total_lines.ensures.rows)

pub returns-in-Ok-None-clause-out_later : goal.returns-in-Ok-None-clause-out_later
returns-in-Ok-None-clause-out_later g c = keeper_later (g.S.Sink.state c.args.out.now) _ _ c.total_lines.ensures.keeper_later c.total_lines.ensures.names

pub returns-in-Err-clause-lines : goal.returns-in-Err-clause-lines
returns-in-Err-clause-lines g c =
    lines_unput (entries_taken c.args.runner.now.stage) (g.S.Sink.state c.args.out.now) (g.K.Keeper.state c.args.keeper.now)
    (g.K.Keeper.state c.total_lines.new.keeper)
    c.total_lines.ensures.rows

pub returns-in-Err-clause-out_later : goal.returns-in-Err-clause-out_later
returns-in-Err-clause-out_later g c = keeper_later (g.S.Sink.state c.args.out.now) _ _ c.total_lines.ensures.keeper_later c.total_lines.ensures.names
