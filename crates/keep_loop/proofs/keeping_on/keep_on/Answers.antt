-- The saver begins with nothing shown; what holds of the turns and the looks holds behind the mark of their end.
use Rattle.std.proofs.Common.{ℕ, List, ◌-◌, ◌∙◌, refl, sym, subst, arith}
use Rattle.std.specs.Prelude.{Option}
use Rattle.persist_store.specs.Disk.{OpensOnly}
use Rattle.keep_loop.specs.Marking.{HoldsWhole, comes_to_end}
use Rattle.keep_loop.specs.SavingOn.{saver}
use Rattle.keep_loop.proofs.MarkLemmas.{marked_end}
use Rattle.keep_loop.proofs.QuietLemmas.{serves_quiet}
use Rattle.keep_loop.proofs.ShownOnLemmas.{begins_anew}
use Rattle.keep_loop.proofs.keeping_on.keep_on.Goals as goal

pub keep_looks-kept-requires-clause-begins : goal.keep_looks-kept-requires-clause-begins
keep_looks-kept-requires-clause-begins g c κs within =
    begins_anew g.D.Disk.contents g.D.Disk.may_leave g.D.Disk.moment g.D.Disk.left_since g.D.Disk.marked g.D.Disk.names g.D.Disk.fault_count
    g.met.D.Disk.only_now c.args.disk.now (saver c.args.store c.args.every (c.args.every - 1) c.nothing.result c.args.name.now) c.requires.ready
    c.requires.open refl c.nothing.ensures

pub returns-clause-keeps : goal.returns-clause-keeps
returns-clause-keeps g c =
    serves_quiet g.D.Disk.contents g.D.Disk.may_leave g.D.Disk.moment g.D.Disk.left_since g.met.D.Disk.counts_now c.keep_looks-kept.result
    c.args.every g.M.Served.body_of g.M.Served.steps g.M.Served.noted (g.M.Served.serves c.args.served.now)
    (g.M.Served.serves c.keep_looks-kept.new.served) c.args.disk.now c.keep_looks-kept.new.disk c.mark_end.new.disk c.args.store.standing
    (g.W.Wire.state c.args.wire.now) (g.W.Wire.state c.keep_looks-kept.new.wire) c.args.limit c.keep_looks-kept.ensures.keeps c.mark_end.ensures.passes

pub returns-clause-marks : goal.returns-clause-marks
returns-clause-marks g c = λ x over marks told.
    marked_end c.args.every g.M.Served.body_of g.M.Served.steps x.running.state
    (HoldsWhole c.keep_looks-kept.result.counts (g.D.Disk.contents c.args.disk.now) c.args.store.standing) g.D.Disk.marked c.keep_looks-kept.new.disk
    c.mark_end.new.disk marks (comes_to_end c.keep_looks-kept.result.ended) (g.D.Disk.contents c.keep_looks-kept.new.disk)
    (g.W.Wire.state c.args.wire.now).history (g.W.Wire.state c.keep_looks-kept.new.wire).history
    (rw c.comes_to_end.ensures at c.mark_end.ensures.marks) (c.keep_looks-kept.ensures.marks x over marks told)

pub returns-clause-untold : goal.returns-clause-untold
returns-clause-untold g c = λ e. c.mark_end.ensures.passes.same ∙ c.keep_looks-kept.ensures.untold e

pub returns-clause-failed : goal.returns-clause-failed
returns-clause-failed g c = λ more.
    let rose = c.keep_looks-kept.ensures.failed more in
    let later = c.mark_end.ensures.later in
    omega (arith, rose, later)

pub returns-clause-named : goal.returns-clause-named
returns-clause-named g c =
    let N : Option (List (List ℕ)) → Type 0 = λ n. OpensOnly (g.D.Disk.names c.args.disk.now) n c.args.name.now in
    subst N (sym c.mark_end.ensures.names) c.keep_looks-kept.ensures.named
