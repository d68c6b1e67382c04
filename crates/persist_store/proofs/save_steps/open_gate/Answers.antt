-- One write and one sync.
use Rattle.std.proofs.lemmas.Result.{on_ok_weaker}
use Rattle.persist_store.proofs.StepLemmas.{stands_by_write, open_leaves}
use Rattle.persist_store.proofs.save_steps.open_gate.Goals as goal

pub returns-clause-done : goal.returns-clause-done
returns-clause-done g c =
    on_ok_weaker c.write_and_sync.result
    (λ done file body here may place filled. stands_by_write g.D.Disk.contents g.D.Disk.may_leave g.D.Disk.moment
    g.D.Disk.left_since c.write_and_sync.new.disk c.args.place file body place may filled (done file here))
    c.write_and_sync.ensures.done

pub returns-clause-stop : goal.returns-clause-stop
returns-clause-stop g c = λ file body here may place filled.
    open_leaves g.D.Disk.contents g.D.Disk.may_leave g.D.Disk.moment g.D.Disk.left_since c.args.disk.now
    c.write_and_sync.new.disk c.args.place file body place may filled (c.write_and_sync.ensures.stop file here)
