-- The counts are those of whatever is stood for.
use Rattle.plant_commands.proofs.MachineLemmas.{counts_same}
use Rattle.plant_commands.proofs.machine_run.print_machine.Goals as goal

pub returns-in-Ok-clause-prints : goal.returns-in-Ok-clause-prints
returns-in-Ok-clause-prints g c = λ counts tells x stands.
    counts_same c.args.status c.in-Ok.line _ c.print_counts.result (g.S.Sink.state c.args.out.now) (g.S.Sink.state c.print_counts.new.out)
    (tells c.args.machine.now c.in-Ok.line c.in-Ok.ensures x stands) c.print_counts.ensures.prints
