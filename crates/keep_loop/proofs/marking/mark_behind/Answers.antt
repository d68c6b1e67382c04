-- A mark writes nothing.
use Rattle.persist_store.proofs.Moments.{started, goes_on}
use Rattle.keep_loop.proofs.marking.mark_behind.Goals as goal

pub returns-clause-passes : goal.returns-clause-passes
returns-clause-passes g c = record {
  same = c.mark.ensures.contents;
  stop = c.mark.ensures.stop;
  since = goes_on g.D.Disk.moment g.D.Disk.left_since c.args.disk.now c.args.disk.now c.mark.new.self (g.D.Disk.may_leave c.args.disk.now)
      (g.D.Disk.may_leave c.mark.new.self)
      (started g.D.Disk.moment g.D.Disk.left_since c.args.disk.now (g.D.Disk.may_leave c.args.disk.now) (g.met.D.Disk.only_now c.args.disk.now))
      c.mark.ensures.time c.mark.ensures.stop;
}
