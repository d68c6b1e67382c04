-- What holds of the turns and the saves holds behind the mark of their end.
use Rattle.std.proofs.Common.{◌∙◌, arith}
use Rattle.persist_store.specs.Store.{body_of}
use Rattle.keep_loop.specs.Keeping.{TookTurns, CountsSaves}
use Rattle.keep_loop.specs.Marking.{HoldsSaves, is_to_end}
use Rattle.keep_loop.proofs.MarkLemmas.{marked_end}
use Rattle.keep_loop.proofs.QuietLemmas.{kept_quiet}
use Rattle.keep_loop.proofs.keeping.keep_turns.Goals as goal

pub returns-clause-keeps : goal.returns-clause-keeps
returns-clause-keeps g c =
    kept_quiet g.D.Disk.contents g.D.Disk.may_leave g.D.Disk.moment g.D.Disk.left_since g.met.D.Disk.counts_now c.keep_saves-end.result
    (TookTurns c.keep_saves-end.result c.args.every g.M.Served.body_of g.M.Served.steps g.M.Served.noted (g.M.Served.serves c.args.served.now)
    (g.M.Served.serves c.keep_saves-end.new.served) (body_of c.args.store) (g.W.Wire.state c.args.wire.now)
    (g.W.Wire.state c.keep_saves-end.new.wire) c.args.limit)
    (CountsSaves c.keep_saves-end.result c.args.store.standing)
    c.args.disk.now c.keep_saves-end.new.disk c.mark_end.new.disk c.args.store.standing c.keep_saves-end.ensures.keeps c.mark_end.ensures.passes

pub returns-clause-marks : goal.returns-clause-marks
returns-clause-marks g c = λ x over marks told.
    marked_end c.args.every g.M.Served.body_of g.M.Served.steps x.running.state
    (HoldsSaves (g.D.Disk.contents c.args.disk.now) c.args.store.standing) g.D.Disk.marked c.keep_saves-end.new.disk c.mark_end.new.disk marks
    (is_to_end c.keep_saves-end.result)
    (g.D.Disk.contents c.keep_saves-end.new.disk) (g.W.Wire.state c.args.wire.now).history (g.W.Wire.state c.keep_saves-end.new.wire).history
    (rw c.is_to_end.ensures at c.mark_end.ensures.marks) (c.keep_saves-end.ensures.marks x over marks told)

pub returns-clause-untold : goal.returns-clause-untold
returns-clause-untold g c = λ e. c.mark_end.ensures.passes.same ∙ c.keep_saves-end.ensures.untold e

pub returns-clause-store_fault : goal.returns-clause-store_fault
returns-clause-store_fault g c = λ is.
    let rose = c.keep_saves-end.ensures.store_fault is in
    let later = c.mark_end.ensures.later in
    omega (arith, rose, later)
