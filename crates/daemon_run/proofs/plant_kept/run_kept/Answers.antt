-- What the run of the loop came to is printed.
use Rattle.spec_machine.specs.RunText.{notes_of_event}
use Rattle.server_core.specs.Served.{served}
use Rattle.server_core.specs.Serves.{StandsAt}
use Rattle.std.proofs.Common.{sym, ◌∙◌}
use Rattle.daemon_run.proofs.RunningLemmas.{runs_on}
use Rattle.daemon_run.proofs.StatusLemmas.{fault_counted}
use Rattle.daemon_run.proofs.plant_kept.run_kept.Goals as goal

pub returns-clause-ends : goal.returns-clause-ends
returns-clause-ends g c = λ x stands.
    runs_on (notes_of_event served) (StandsAt c.args.core.now) (StandsAt c.keep_on-kept.new.served) c.args.every
    g.D.Disk.contents g.D.Disk.may_leave g.D.Disk.moment g.D.Disk.left_since g.D.Disk.marked g.D.Disk.fault_count c.args.disk.now c.keep_on-kept.new.disk
    c.args.store.standing (g.W.Wire.state c.args.wire.now) (g.W.Wire.state c.keep_on-kept.new.wire) c.print_end.result
    (g.S.Sink.state c.args.out.now) (g.S.Sink.state c.print_end.new.out) x c.keep_on-kept.result c.keep_on-kept.ensures.keeps c.keep_on-kept.ensures.marks
    c.keep_on-kept.ensures.failed
    (rw c.status_of.ensures.kept at c.print_end.ensures.prints) stands

pub returns-clause-store_fault : goal.returns-clause-store_fault
returns-clause-store_fault g c = λ same.
    c.keep_on-kept.ensures.failed (fault_counted c.keep_on-kept.result.last c.keep_on-kept.result.counts
    (sym c.status_of.ensures.kept ∙ c.print_end.ensures.store_fault same))
