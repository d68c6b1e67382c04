-- A tick that is let pass, and one whose body is looked at.
use Rattle.serve_loop.specs.Looks.{look_at}
use Rattle.keep_loop.specs.SavingOn.{saver}
use Rattle.keep_loop.proofs.ShownOnLemmas.{on_passed}
use Rattle.keep_loop.proofs.saves_on.SavesOnBeside.ticked.Goals as goal

pub returns-then-self-gt0-clause-seen : goal.returns-then-self-gt0-clause-seen
returns-then-self-gt0-clause-seen g c = λ on first start kept. record {
  more = tt;
  sees = λ looks x shown stands.
      let saves = c.args.self.now in
      on_passed g.D.Disk.contents g.D.Disk.may_leave g.D.Disk.moment g.D.Disk.left_since g.D.Disk.marked g.D.Disk.names g.D.Disk.fault_count start
      c.args.disk.now (saver first.store first.every first.left first.counts first.name.now)
      (saver saves.store saves.every saves.left saves.counts saves.name.now) looks
      (look_at (g.M.Served.body_of x.running.state.world) (g.W.Wire.state c.args.wire.now).history) c.if-self-gt0.true shown;
}

pub look_due-requires-clause-some : goal.look_due-requires-clause-some
look_due-requires-clause-some g c = c.requires.some tt

pub returns-clause-seen : goal.returns-clause-seen
returns-clause-seen g c = λ on first start kept.
    c.look_due.ensures.seen (saver first.store first.every first.left first.counts first.name.now) start
