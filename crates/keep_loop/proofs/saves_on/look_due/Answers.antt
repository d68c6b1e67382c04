-- A tick whose body is looked at, and marked.
use Rattle.serve_loop.specs.Looks.{look_at}
use Rattle.keep_loop.specs.SavingOn.{saver}
use Rattle.keep_loop.proofs.QuietLemmas.{ready_quiet}
use Rattle.keep_loop.proofs.ShownOnLemmas.{due_more, on_due}
use Rattle.keep_loop.proofs.saves_on.look_due.Goals as goal

pub returns-clause-seen : goal.returns-clause-seen
returns-clause-seen g c = λ first start. record {
  more = tt;
  sees = λ looks x shown stands.
      let saves = c.args.saves.now in
      on_due g.D.Disk.contents g.D.Disk.may_leave g.D.Disk.moment g.D.Disk.left_since g.D.Disk.marked g.D.Disk.names g.D.Disk.fault_count
      g.met.D.Disk.leaves_contents g.met.D.Disk.counts_now start c.args.disk.now c.look-became.new.disk c.mark_behind.new.disk first
      (saver saves.store saves.every saves.left saves.counts saves.name.now) c.look-became.new.store c.after-saves.result c.look-became.result looks
      (look_at (g.M.Served.body_of x.running.state.world) (g.W.Wire.state c.args.wire.now).history) c.requires.due c.after-saves.ensures
      (c.look-became.ensures.looked x stands) c.look-became.ensures.ready c.look-became.ensures.untold c.look-became.ensures.named
      c.look-became.ensures.marks c.look-became.ensures.later c.look-became.ensures.failed c.mark_behind.ensures.marks c.mark_behind.ensures.passes
      c.mark_behind.ensures.names c.mark_behind.ensures.later shown;
}

pub returns-clause-ready : goal.returns-clause-ready
returns-clause-ready g c = λ n may.
    let saves = c.args.saves.now in
    due_more g.D.Disk.contents g.D.Disk.may_leave c.look-became.result n c.args.disk.now c.mark_behind.new.disk
    (saver saves.store saves.every saves.left saves.counts saves.name.now) c.look-became.new.store c.after-saves.result c.after-saves.ensures
    (ready_quiet g.D.Disk.contents g.D.Disk.may_leave g.D.Disk.moment g.D.Disk.left_since g.met.D.Disk.counts_now c.look-became.new.disk
    c.mark_behind.new.disk c.look-became.new.store c.look-became.ensures.ready c.mark_behind.ensures.passes) may
