-- A body that stands already, and one that was saved, are seen.
use Rattle.std.proofs.Common.{◌+◌, ◌++◌, ◌∷◌, [], ◌∙◌, ap, arith}
use Rattle.persist_store.specs.Store.{StoreState}
use Rattle.keep_loop.proofs.QuietLemmas.{ready_quiet}
use Rattle.keep_loop.proofs.SaverLemmas.{saved_shown, sees_same, sees_saved}
use Rattle.keep_loop.proofs.saves_or_stops.look_due.Goals as goal

pub returns-in-Same-clause-seen : goal.returns-in-Same-clause-seen
returns-in-Same-clause-seen g c = λ is every first_left first_saved first start saves. record {
  more = saves;
  sees = λ looks x seen serves anew.
      sees_same g.D.Disk.contents g.D.Disk.may_leave g.D.Disk.moment g.D.Disk.left_since g.D.Disk.marked g.D.Disk.names g.D.Disk.fault_count
      g.met.D.Disk.counts_now _ every c.args.saver.now.every c.args.saver.now.left c.args.saver.now.saved first c.args.saver.now.store
      c.save_body-became.new.store start c.args.disk.now c.save_body-became.new.disk c.mark_behind.new.disk saves looks _ c.requires.due (seen anew)
      (λ body of. of x serves) c.in-Same.ensures.saved c.in-Same.ensures.ready c.in-Same.ensures.marks
      (record { untold = c.in-Same.ensures.untold; named = c.in-Same.ensures.names; later = c.in-Same.ensures.later })
      c.mark_behind.ensures.marks c.mark_behind.ensures.passes c.mark_behind.ensures.names c.mark_behind.ensures.later;
}

pub returns-in-Same-clause-ready : goal.returns-in-Same-clause-ready
returns-in-Same-clause-ready g c = λ is n may.
    saved_shown g.D.Disk.contents g.D.Disk.may_leave n _ _ c.args.saver.now.saved _ c.save_body-became.new.store _ c.mark_behind.new.disk (omega arith) may
    (ready_quiet g.D.Disk.contents g.D.Disk.may_leave g.D.Disk.moment g.D.Disk.left_since g.met.D.Disk.counts_now c.save_body-became.new.disk
    c.mark_behind.new.disk c.save_body-became.new.store c.in-Same.ensures.ready c.mark_behind.ensures.passes)
    (ap (λ (s : StoreState). s.shut) c.in-Same.ensures.saved.store ∙ c.requires.ready.open_)

pub returns-in-Saved-clause-seen : goal.returns-in-Saved-clause-seen
returns-in-Saved-clause-seen g c = λ is every first_left first_saved first start saves. record {
  more = saves ++ c.in-Saved.ensures.saved.body ∷ [];
  sees = λ looks x seen serves anew.
      sees_saved g.D.Disk.contents g.D.Disk.may_leave g.D.Disk.moment g.D.Disk.left_since g.D.Disk.marked g.D.Disk.names g.D.Disk.fault_count
      g.met.D.Disk.counts_now _ every c.args.saver.now.every c.args.saver.now.left c.args.saver.now.saved first c.args.saver.now.store
      c.save_body-became.new.store start c.args.disk.now c.save_body-became.new.disk c.mark_behind-in-Saved.new.disk saves looks _ c.requires.due (seen anew)
      (λ body of. of x serves) c.in-Saved.ensures.saved c.in-Saved.ensures.ready c.in-Saved.ensures.marks
      (record { untold = c.in-Saved.ensures.untold; named = c.in-Saved.ensures.names; later = c.in-Saved.ensures.later })
      c.mark_behind-in-Saved.ensures.marks c.mark_behind-in-Saved.ensures.passes c.mark_behind-in-Saved.ensures.names
      c.mark_behind-in-Saved.ensures.later;
}

pub returns-in-Saved-clause-ready : goal.returns-in-Saved-clause-ready
returns-in-Saved-clause-ready g c = λ is n may.
    saved_shown g.D.Disk.contents g.D.Disk.may_leave n _ _ (c.args.saver.now.saved + 1) _ c.save_body-became.new.store _ c.mark_behind-in-Saved.new.disk
    (omega arith) may
    (ready_quiet g.D.Disk.contents g.D.Disk.may_leave g.D.Disk.moment g.D.Disk.left_since g.met.D.Disk.counts_now c.save_body-became.new.disk
    c.mark_behind-in-Saved.new.disk c.save_body-became.new.store c.in-Saved.ensures.ready c.mark_behind-in-Saved.ensures.passes)
    (ap (λ (s : StoreState). s.shut) c.in-Saved.ensures.saved.store)
