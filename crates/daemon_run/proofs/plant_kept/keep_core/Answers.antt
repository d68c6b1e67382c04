-- The wire was started and that is told, or not.
use Rattle.std.proofs.Common.{refl, inl}
use Rattle.persist_store.proofs.NameLemmas.{only_none}
use Rattle.daemon_run.proofs.RunningLemmas.{ran_so}
use Rattle.daemon_run.proofs.StatusLemmas.{no_store_fault, of_service}
use Rattle.daemon_run.proofs.plant_kept.keep_core.Goals as goal

pub returns-in-Ok-clause-ends : goal.returns-in-Ok-clause-ends
returns-in-Ok-clause-ends g c = λ x stands.
    ran_so c.args.every _ x c.args.store.standing c.run_kept.result (g.S.Sink.state c.args.out.now) (g.S.Sink.state c.start_and_tell.new.out)
    (g.S.Sink.state c.run_kept.new.out)
    g.D.Disk.contents g.D.Disk.may_leave g.D.Disk.moment g.D.Disk.left_since g.D.Disk.marked g.D.Disk.fault_count c.args.disk.now c.run_kept.new.disk
    (g.W.Wire.state c.args.wire.now).history (g.W.Wire.state c.start_and_tell.new.wire).history (g.W.Wire.state c.run_kept.new.wire).history
    c.in-Ok.ensures.ok (c.run_kept.ensures.ends x stands)

pub returns-in-Err-clause-ends : goal.returns-in-Err-clause-ends
returns-in-Err-clause-ends g c = λ x stands. inl (refl, c.in-Err.ensures.err)

pub returns-in-Err-clause-status : goal.returns-in-Err-clause-status
returns-in-Err-clause-status g c = of_service c.in-Err.status c.in-Err.ensures.status

pub returns-in-Err-clause-store_fault : goal.returns-in-Err-clause-store_fault
returns-in-Err-clause-store_fault g c = λ is. no_store_fault c.in-Err.status c.in-Err.ensures.status is

pub returns-in-Err-clause-opens : goal.returns-in-Err-clause-opens
returns-in-Err-clause-opens g c = only_none _ _ c.args.file.now refl
