use Rattle.persist_store.specs.Store.{IsReady}
use Rattle.cases_store.proofs.disks.save_all.Given as goal

-- the store is ready for the next save
abbrev pub invariant-loop-body : goal.invariant-loop-body
invariant-loop-body g l = IsReady g.D.Disk.contents g.D.Disk.may_leave l.disk l.store
