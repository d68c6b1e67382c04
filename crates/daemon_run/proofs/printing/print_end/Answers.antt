-- The fault of a store is told only where that is the status at the end.
use Rattle.run_tasks.specs.declared.status.Status.TheVariants as status
use Rattle.run_tasks.specs.Ending.{line_alone}
use Rattle.daemon_run.proofs.StatusLemmas.{other_fault, printed_fault}
use Rattle.daemon_run.proofs.printing.print_end.Goals as goal

pub returns-in-Budget-clause-store_fault : goal.returns-in-Budget-clause-store_fault
returns-in-Budget-clause-store_fault g c = λ same.
    other_fault status.Budget c.print_counted-in-Budget.result (λ e. (cc)) c.print_counted-in-Budget.ensures.store_fault same

pub returns-in-LinkFault-clause-store_fault : goal.returns-in-LinkFault-clause-store_fault
returns-in-LinkFault-clause-store_fault g c = λ same.
    other_fault status.LinkFault c.print_and_end.result (λ e. (cc))
    (printed_fault (line_alone status.LinkFault) c.print_and_end.result (g.S.Sink.state c.args.out.now) (g.S.Sink.state c.print_and_end.new.out)
    c.print_and_end.ensures) same
