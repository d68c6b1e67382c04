-- A body that is let pass is seen.
use Rattle.keep_loop.proofs.SaverLemmas.{sees_passed}
use Rattle.keep_loop.proofs.saves_or_stops.SavesOrStopsBeside.ticked.Goals as goal

pub look_due-requires-clause-some : goal.look_due-requires-clause-some
look_due-requires-clause-some g c = c.requires.some tt

pub returns-then-self-gt0-clause-seen : goal.returns-then-self-gt0-clause-seen
returns-then-self-gt0-clause-seen g c = λ is first start saves. record {
  more = saves;
  sees = λ looks x seen serves anew.
      sees_passed g.D.Disk.contents g.D.Disk.may_leave g.D.Disk.moment g.D.Disk.left_since g.D.Disk.marked g.D.Disk.names g.D.Disk.fault_count
      first.every c.args.self.now.every c.args.self.now.left c.args.self.now.saved first.store c.args.self.now.store start c.args.disk.now saves looks _
      c.if-self-gt0.true (seen anew);
}
