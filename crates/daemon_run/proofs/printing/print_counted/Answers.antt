-- What was printed is the ending, with its status or that of the sink.
use Rattle.run_tasks.specs.Service.{counts_and_line}
use Rattle.plant_commands.proofs.MachineLemmas.{counts_same}
use Rattle.daemon_run.proofs.StatusLemmas.{printed_fault, printed_of_plant}
use Rattle.daemon_run.proofs.printing.print_counted.Goals as goal

pub returns-in-Ok-clause-status : goal.returns-in-Ok-clause-status
returns-in-Ok-clause-status g c = λ is.
    printed_of_plant (counts_and_line c.in-Ok.text c.args.status) c.print_counts.result (g.S.Sink.state c.args.out.now) (g.S.Sink.state c.print_counts.new.out)
    c.print_counts.ensures.prints is

pub returns-in-Ok-clause-prints : goal.returns-in-Ok-clause-prints
returns-in-Ok-clause-prints g c = λ x stands.
    counts_same c.args.status c.in-Ok.text _ c.print_counts.result (g.S.Sink.state c.args.out.now) (g.S.Sink.state c.print_counts.new.out)
    (c.in-Ok.ensures x stands) c.print_counts.ensures.prints

pub returns-in-Ok-clause-store_fault : goal.returns-in-Ok-clause-store_fault
returns-in-Ok-clause-store_fault g c = λ same.
    printed_fault (counts_and_line c.in-Ok.text c.args.status) c.print_counts.result (g.S.Sink.state c.args.out.now) (g.S.Sink.state c.print_counts.new.out)
    c.print_counts.ensures.prints same
