-- The counts and the last line were printed.
use Rattle.std.proofs.Common.{◌∙◌}
use Rattle.run_tasks.proofs.EndLemmas.{prints_same}
use Rattle.plant_commands.proofs.serving.print_counts.Goals as goal

pub returns-in-Ok-clause-prints : goal.returns-in-Ok-clause-prints
returns-in-Ok-clause-prints g c =
    prints_same c.args.status c.as_slice.result.now _ c.print_and_end.result (g.S.Sink.state c.args.out.now) (g.S.Sink.state c.print_and_end.new.out)
    (c.as_slice.ensures ∙ c.in-Ok.ensures) c.print_and_end.ensures
