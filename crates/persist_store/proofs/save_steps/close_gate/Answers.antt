-- The gate is looked at, and written where it is not closed.
use Rattle.std.proofs.Common.{sym, ◌∙◌}
use Rattle.std.proofs.lemmas.Result.{on_ok_weaker}
use Rattle.persist_store.proofs.StepLemmas.{at_after, shut_by_write, close_leaves}
use Rattle.persist_store.proofs.save_steps.close_gate.Goals as goal

pub returns-clause-done : goal.returns-clause-done
returns-clause-done g c =
    on_ok_weaker c.write_and_sync.result
    (λ done file here place. shut_by_write g.D.Disk.contents g.D.Disk.may_leave g.D.Disk.moment g.D.Disk.left_since
    c.write_and_sync.new.disk c.args.place file place (sym (c.in_ok-is_gate_closed.ensures.closed file here.told) ∙ c.if-branch.false)
    (done file (at_after g.D.Disk.contents g.D.Disk.may_leave g.D.Disk.moment g.D.Disk.left_since
    c.args.disk.now c.is_gate_closed.new.disk file c.is_gate_closed.ensures.stays here)))
    c.write_and_sync.ensures.done

pub returns-clause-stop : goal.returns-clause-stop
returns-clause-stop g c = λ file here place.
    close_leaves g.D.Disk.contents g.D.Disk.may_leave g.D.Disk.moment g.D.Disk.left_since c.args.disk.now
    c.is_gate_closed.new.disk c.write_and_sync.new.disk c.args.place file g.met.D.Disk.only_now c.is_gate_closed.ensures.stays
    c.is_gate_closed.ensures.time here place (sym (c.in_ok-is_gate_closed.ensures.closed file here.told) ∙ c.if-branch.false)
    (c.write_and_sync.ensures.stop file
    (at_after g.D.Disk.contents g.D.Disk.may_leave g.D.Disk.moment g.D.Disk.left_since
    c.args.disk.now c.is_gate_closed.new.disk file c.is_gate_closed.ensures.stays here))
