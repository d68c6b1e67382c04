-- Each way in which the turns of a run end.
use Rattle.std.proofs.Common.{◌-◌, refl, inr}
use Rattle.keep_loop.specs.declared.run_end.RunEnd.TheVariants as run
use Rattle.keep_loop.proofs.RunLemmas.{run_keeps, run_marked, some_looped, broken_keeps, broken_marked, stopped_keeps, stopped_marked, stopped_wants}
use Rattle.keep_loop.proofs.keeping.keep_saves.Goals as goal

pub save_last-requires-clause-some : goal.save_last-requires-clause-some
save_last-requires-clause-some g c =
    some_looped c.args.every g.M.Served.body_of g.M.Served.steps g.M.Served.noted g.D.Disk.contents g.D.Disk.may_leave g.D.Disk.moment
    g.D.Disk.left_since g.D.Disk.marked g.D.Disk.names g.D.Disk.fault_count (c.args.every - 1) 0 c.save_turns.new.saver.every c.save_turns.new.saver.left
    c.save_turns.new.saver.saved (record { pace = refl; none = refl }) c.args.store c.save_turns.new.saver.store c.args.disk.now c.save_turns.new.disk
    run.Done (g.M.Served.serves c.args.served.now)
    (g.M.Served.serves c.save_turns.new.served) (g.W.Wire.state c.args.wire.now) (g.W.Wire.state c.save_turns.new.wire) c.args.limit
    c.requires.some (rw c.in-Ended-Done.field-0-is at c.in-Ended-Done.ensures.serve)

pub save_last-requires-clause-ready : goal.save_last-requires-clause-ready
save_last-requires-clause-ready g c = (c.in-Ended-Done.ensures.ready (λ is. cc)).ready

pub returns-in-Ended-Done-clause-keeps : goal.returns-in-Ended-Done-clause-keeps
returns-in-Ended-Done-clause-keeps g c =
    run_keeps c.args.every g.M.Served.body_of g.M.Served.steps g.M.Served.noted g.D.Disk.contents g.D.Disk.may_leave g.D.Disk.moment
    g.D.Disk.left_since g.D.Disk.marked g.D.Disk.names g.D.Disk.fault_count (c.args.every - 1) 0 c.save_turns.new.saver.every c.save_turns.new.saver.left
    c.save_turns.new.saver.saved (record { pace = refl; none = refl }) c.args.store c.save_turns.new.saver.store c.args.disk.now c.save_turns.new.disk
    c.save_last.result run.Done
    (g.M.Served.serves c.args.served.now) (g.M.Served.serves c.save_turns.new.served) (g.W.Wire.state c.args.wire.now)
    (g.W.Wire.state c.save_turns.new.wire) c.args.limit c.save_last.new.disk c.save_last.new.store c.requires.some
    (rw c.in-Ended-Done.field-0-is at c.in-Ended-Done.ensures.serve) c.save_last.ensures.ends c.save_last.ensures.ready
    (c.in-Ended-Done.ensures.ready (λ is. cc)).ready g.met.D.Disk.counts_now

pub returns-in-Ended-Done-clause-marks : goal.returns-in-Ended-Done-clause-marks
returns-in-Ended-Done-clause-marks g c =
    run_marked c.args.every g.M.Served.body_of g.M.Served.steps g.M.Served.noted g.D.Disk.contents g.D.Disk.may_leave g.D.Disk.moment
    g.D.Disk.left_since g.D.Disk.marked g.D.Disk.names g.D.Disk.fault_count (c.args.every - 1) 0 c.save_turns.new.saver.every c.save_turns.new.saver.left
    c.save_turns.new.saver.saved (record { pace = refl; none = refl }) c.args.store c.save_turns.new.saver.store c.args.disk.now c.save_turns.new.disk
    c.save_last.result run.Done
    (g.M.Served.serves c.args.served.now) (g.M.Served.serves c.save_turns.new.served) (g.W.Wire.state c.args.wire.now)
    (g.W.Wire.state c.save_turns.new.wire) c.args.limit c.save_last.new.disk c.save_last.new.store c.requires.some
    (rw c.in-Ended-Done.field-0-is at c.in-Ended-Done.ensures.serve) c.save_last.ensures.ends c.save_last.ensures.ready
    c.save_last.ensures.marks

pub save_last-requires-in-Ended-LinkFault-clause-some : goal.save_last-requires-in-Ended-LinkFault-clause-some
save_last-requires-in-Ended-LinkFault-clause-some g c =
    some_looped c.args.every g.M.Served.body_of g.M.Served.steps g.M.Served.noted g.D.Disk.contents g.D.Disk.may_leave g.D.Disk.moment
    g.D.Disk.left_since g.D.Disk.marked g.D.Disk.names g.D.Disk.fault_count (c.args.every - 1) 0 c.save_turns.new.saver.every c.save_turns.new.saver.left
    c.save_turns.new.saver.saved (record { pace = refl; none = refl }) c.args.store c.save_turns.new.saver.store c.args.disk.now c.save_turns.new.disk
    run.LinkFault (g.M.Served.serves c.args.served.now)
    (g.M.Served.serves c.save_turns.new.served) (g.W.Wire.state c.args.wire.now) (g.W.Wire.state c.save_turns.new.wire) c.args.limit
    c.requires.some (rw c.in-Ended-LinkFault.field-0-is at c.in-Ended-LinkFault.ensures.serve)

pub save_last-requires-in-Ended-LinkFault-clause-ready : goal.save_last-requires-in-Ended-LinkFault-clause-ready
save_last-requires-in-Ended-LinkFault-clause-ready g c = (c.in-Ended-LinkFault.ensures.ready (λ is. cc)).ready

pub returns-in-Ended-LinkFault-clause-keeps : goal.returns-in-Ended-LinkFault-clause-keeps
returns-in-Ended-LinkFault-clause-keeps g c =
    run_keeps c.args.every g.M.Served.body_of g.M.Served.steps g.M.Served.noted g.D.Disk.contents g.D.Disk.may_leave g.D.Disk.moment
    g.D.Disk.left_since g.D.Disk.marked g.D.Disk.names g.D.Disk.fault_count (c.args.every - 1) 0 c.save_turns.new.saver.every c.save_turns.new.saver.left
    c.save_turns.new.saver.saved (record { pace = refl; none = refl }) c.args.store c.save_turns.new.saver.store c.args.disk.now c.save_turns.new.disk
    c.save_last-in-Ended-LinkFault.result run.LinkFault
    (g.M.Served.serves c.args.served.now) (g.M.Served.serves c.save_turns.new.served) (g.W.Wire.state c.args.wire.now)
    (g.W.Wire.state c.save_turns.new.wire) c.args.limit c.save_last-in-Ended-LinkFault.new.disk c.save_last-in-Ended-LinkFault.new.store c.requires.some
    (rw c.in-Ended-LinkFault.field-0-is at c.in-Ended-LinkFault.ensures.serve) c.save_last-in-Ended-LinkFault.ensures.ends
    c.save_last-in-Ended-LinkFault.ensures.ready
    (c.in-Ended-LinkFault.ensures.ready (λ is. cc)).ready g.met.D.Disk.counts_now

pub returns-in-Ended-LinkFault-clause-marks : goal.returns-in-Ended-LinkFault-clause-marks
returns-in-Ended-LinkFault-clause-marks g c =
    run_marked c.args.every g.M.Served.body_of g.M.Served.steps g.M.Served.noted g.D.Disk.contents g.D.Disk.may_leave g.D.Disk.moment
    g.D.Disk.left_since g.D.Disk.marked g.D.Disk.names g.D.Disk.fault_count (c.args.every - 1) 0 c.save_turns.new.saver.every c.save_turns.new.saver.left
    c.save_turns.new.saver.saved (record { pace = refl; none = refl }) c.args.store c.save_turns.new.saver.store c.args.disk.now c.save_turns.new.disk
    c.save_last-in-Ended-LinkFault.result run.LinkFault
    (g.M.Served.serves c.args.served.now) (g.M.Served.serves c.save_turns.new.served) (g.W.Wire.state c.args.wire.now)
    (g.W.Wire.state c.save_turns.new.wire) c.args.limit c.save_last-in-Ended-LinkFault.new.disk c.save_last-in-Ended-LinkFault.new.store c.requires.some
    (rw c.in-Ended-LinkFault.field-0-is at c.in-Ended-LinkFault.ensures.serve) c.save_last-in-Ended-LinkFault.ensures.ends
    c.save_last-in-Ended-LinkFault.ensures.ready
    c.save_last-in-Ended-LinkFault.ensures.marks

pub save_last-requires-in-Ended-Budget-clause-some : goal.save_last-requires-in-Ended-Budget-clause-some
save_last-requires-in-Ended-Budget-clause-some g c =
    some_looped c.args.every g.M.Served.body_of g.M.Served.steps g.M.Served.noted g.D.Disk.contents g.D.Disk.may_leave g.D.Disk.moment
    g.D.Disk.left_since g.D.Disk.marked g.D.Disk.names g.D.Disk.fault_count (c.args.every - 1) 0 c.save_turns.new.saver.every c.save_turns.new.saver.left
    c.save_turns.new.saver.saved (record { pace = refl; none = refl }) c.args.store c.save_turns.new.saver.store c.args.disk.now c.save_turns.new.disk
    run.Budget (g.M.Served.serves c.args.served.now)
    (g.M.Served.serves c.save_turns.new.served) (g.W.Wire.state c.args.wire.now) (g.W.Wire.state c.save_turns.new.wire) c.args.limit
    c.requires.some (rw c.in-Ended-Budget.field-0-is at c.in-Ended-Budget.ensures.serve)

pub save_last-requires-in-Ended-Budget-clause-ready : goal.save_last-requires-in-Ended-Budget-clause-ready
save_last-requires-in-Ended-Budget-clause-ready g c = (c.in-Ended-Budget.ensures.ready (λ is. cc)).ready

pub returns-in-Ended-Budget-clause-keeps : goal.returns-in-Ended-Budget-clause-keeps
returns-in-Ended-Budget-clause-keeps g c =
    run_keeps c.args.every g.M.Served.body_of g.M.Served.steps g.M.Served.noted g.D.Disk.contents g.D.Disk.may_leave g.D.Disk.moment
    g.D.Disk.left_since g.D.Disk.marked g.D.Disk.names g.D.Disk.fault_count (c.args.every - 1) 0 c.save_turns.new.saver.every c.save_turns.new.saver.left
    c.save_turns.new.saver.saved (record { pace = refl; none = refl }) c.args.store c.save_turns.new.saver.store c.args.disk.now c.save_turns.new.disk
    c.save_last-in-Ended-Budget.result run.Budget
    (g.M.Served.serves c.args.served.now) (g.M.Served.serves c.save_turns.new.served) (g.W.Wire.state c.args.wire.now)
    (g.W.Wire.state c.save_turns.new.wire) c.args.limit c.save_last-in-Ended-Budget.new.disk c.save_last-in-Ended-Budget.new.store c.requires.some
    (rw c.in-Ended-Budget.field-0-is at c.in-Ended-Budget.ensures.serve) c.save_last-in-Ended-Budget.ensures.ends c.save_last-in-Ended-Budget.ensures.ready
    (c.in-Ended-Budget.ensures.ready (λ is. cc)).ready g.met.D.Disk.counts_now

pub returns-in-Ended-Budget-clause-marks : goal.returns-in-Ended-Budget-clause-marks
returns-in-Ended-Budget-clause-marks g c =
    run_marked c.args.every g.M.Served.body_of g.M.Served.steps g.M.Served.noted g.D.Disk.contents g.D.Disk.may_leave g.D.Disk.moment
    g.D.Disk.left_since g.D.Disk.marked g.D.Disk.names g.D.Disk.fault_count (c.args.every - 1) 0 c.save_turns.new.saver.every c.save_turns.new.saver.left
    c.save_turns.new.saver.saved (record { pace = refl; none = refl }) c.args.store c.save_turns.new.saver.store c.args.disk.now c.save_turns.new.disk
    c.save_last-in-Ended-Budget.result run.Budget
    (g.M.Served.serves c.args.served.now) (g.M.Served.serves c.save_turns.new.served) (g.W.Wire.state c.args.wire.now)
    (g.W.Wire.state c.save_turns.new.wire) c.args.limit c.save_last-in-Ended-Budget.new.disk c.save_last-in-Ended-Budget.new.store c.requires.some
    (rw c.in-Ended-Budget.field-0-is at c.in-Ended-Budget.ensures.serve) c.save_last-in-Ended-Budget.ensures.ends c.save_last-in-Ended-Budget.ensures.ready
    c.save_last-in-Ended-Budget.ensures.marks

pub returns-in-Ended-Memory-clause-keeps : goal.returns-in-Ended-Memory-clause-keeps
returns-in-Ended-Memory-clause-keeps g c =
    broken_keeps c.args.every g.M.Served.body_of g.M.Served.steps g.M.Served.noted g.D.Disk.contents g.D.Disk.may_leave g.D.Disk.moment
    g.D.Disk.left_since g.D.Disk.marked g.D.Disk.names g.D.Disk.fault_count (c.args.every - 1) 0 c.save_turns.new.saver.every c.save_turns.new.saver.left
    c.save_turns.new.saver.saved (record { pace = refl; none = refl }) c.args.store c.save_turns.new.saver.store c.args.disk.now c.save_turns.new.disk
    (g.M.Served.serves c.args.served.now) (g.M.Served.serves c.save_turns.new.served) (g.W.Wire.state c.args.wire.now)
    (g.W.Wire.state c.save_turns.new.wire) c.args.limit c.requires.some (rw c.in-Ended-Memory.field-0-is at c.in-Ended-Memory.ensures.serve)
    (c.in-Ended-Memory.ensures.ready (λ is. cc)).ready

pub returns-in-Ended-Memory-clause-marks : goal.returns-in-Ended-Memory-clause-marks
returns-in-Ended-Memory-clause-marks g c =
    broken_marked c.args.every g.M.Served.body_of g.M.Served.steps g.M.Served.noted g.D.Disk.contents g.D.Disk.may_leave g.D.Disk.moment
    g.D.Disk.left_since g.D.Disk.marked g.D.Disk.names g.D.Disk.fault_count (c.args.every - 1) 0 c.save_turns.new.saver.every c.save_turns.new.saver.left
    c.save_turns.new.saver.saved (record { pace = refl; none = refl }) c.args.store c.save_turns.new.saver.store c.args.disk.now c.save_turns.new.disk
    (g.M.Served.serves c.args.served.now) (g.W.Wire.state c.args.wire.now) (g.W.Wire.state c.save_turns.new.wire) c.args.limit c.requires.some
    (rw c.in-Ended-Memory.field-0-is at c.in-Ended-Memory.ensures.serve) (λ marks told. told)

pub returns-clause-keeps : goal.returns-clause-keeps
returns-clause-keeps g c =
    let s = c.in-Stopped.ensures.stopped refl in
    stopped_keeps c.args.every g.M.Served.body_of g.M.Served.steps g.M.Served.noted g.D.Disk.contents g.D.Disk.may_leave g.D.Disk.moment
    g.D.Disk.left_since g.D.Disk.marked g.D.Disk.names g.D.Disk.fault_count (c.args.every - 1) 0 s.beside.every s.beside.left
    s.beside.saved (record { pace = refl; none = refl }) c.args.store s.beside.store c.args.disk.now s.outside c.save_turns.new.saver.became
    c.end_of_stop.result
    (g.M.Served.serves c.args.served.now) (g.M.Served.serves s.served) (g.M.Served.serves c.save_turns.new.served)
    (g.W.Wire.state c.args.wire.now) s.last (g.W.Wire.state c.save_turns.new.wire) s.count c.args.limit c.save_turns.new.disk c.save_turns.new.saver.store
    c.requires.some s.fewer s.shows s.takes s.stops c.end_of_stop.ensures g.met.D.Disk.counts_now

pub returns-clause-marks : goal.returns-clause-marks
returns-clause-marks g c =
    let s = c.in-Stopped.ensures.stopped refl in
    stopped_marked c.args.every g.M.Served.body_of g.M.Served.steps g.M.Served.noted g.D.Disk.contents g.D.Disk.may_leave g.D.Disk.moment
    g.D.Disk.left_since g.D.Disk.marked g.D.Disk.names g.D.Disk.fault_count (c.args.every - 1) 0 s.beside.every s.beside.left
    s.beside.saved (record { pace = refl; none = refl }) c.args.store s.beside.store c.args.disk.now s.outside c.end_of_stop.result
    c.save_turns.new.saver.became
    (g.M.Served.serves c.args.served.now) (g.M.Served.serves s.served) (g.M.Served.serves c.save_turns.new.served)
    (g.W.Wire.state c.args.wire.now) s.last (g.W.Wire.state c.save_turns.new.wire) s.count c.save_turns.new.disk c.requires.some s.shows s.takes s.stops.marks
    c.end_of_stop.ensures

pub returns-clause-memory : goal.returns-clause-memory
returns-clause-memory g c = λ is.
    let s = c.in-Stopped.ensures.stopped refl in
    inr (stopped_wants c.args.every g.M.Served.body_of g.M.Served.steps g.M.Served.noted g.D.Disk.contents g.D.Disk.may_leave g.D.Disk.moment
    g.D.Disk.left_since g.D.Disk.marked g.D.Disk.names g.D.Disk.fault_count (c.args.every - 1) 0 s.beside.every s.beside.left
    s.beside.saved (record { pace = refl; none = refl }) c.args.store s.beside.store c.args.disk.now s.outside
    (g.M.Served.serves c.args.served.now) (g.M.Served.serves s.served) (g.M.Served.serves c.save_turns.new.served)
    (g.W.Wire.state c.args.wire.now) s.last (g.W.Wire.state c.save_turns.new.wire) s.count c.args.limit s.fewer s.shows s.takes)
