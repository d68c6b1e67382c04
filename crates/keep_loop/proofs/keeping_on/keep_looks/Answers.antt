-- What was shown of the turns, and the look at their end.
use Rattle.std.proofs.Common.{ℕ, List, sym, ◌∙◌, subst}
use Rattle.persist_store.proofs.NameLemmas.{only_join}
use Rattle.persist_store.specs.Disk.{OpensOnly}
use Rattle.keep_loop.specs.SavingOn.{saver}
use Rattle.keep_loop.proofs.LoopOnLemmas.{looks_in, marks_in, known, some_at_end}
use Rattle.keep_loop.proofs.OnLemmas.{ends_looked, ends_wanting}
use Rattle.keep_loop.proofs.OnMarkLemmas.{looked_marked, wanting_marked}
use Rattle.keep_loop.proofs.keeping_on.keep_looks.Goals as goal

pub look_last-requires-clause-some : goal.look_last-requires-clause-some
look_last-requires-clause-some g c =
    some_at_end c.serve_saving-ended.result (sym c.comes_to_end.ensures ∙ c.if-comes_to_end.true) g.M.Served.body_of g.M.Served.steps g.M.Served.noted
    (g.M.Served.serves c.args.served.now) (g.M.Served.serves c.serve_saving-ended.new.served) (g.W.Wire.state c.args.wire.now)
    (g.W.Wire.state c.serve_saving-ended.new.wire) c.args.limit _ c.serve_saving-ended.ensures.serve c.requires.some

pub returns-then-comes_to_end-clause-keeps : goal.returns-then-comes_to_end-clause-keeps
returns-then-comes_to_end-clause-keeps g c =
    let old = c.args.saves.now in
    let mid = c.serve_saving-ended.new.saves in
    ends_looked old.every g.M.Served.body_of g.M.Served.steps g.M.Served.noted g.D.Disk.contents g.D.Disk.may_leave g.D.Disk.moment g.D.Disk.left_since
    c.serve_saving-ended.result (sym c.comes_to_end.ensures ∙ c.if-comes_to_end.true) _ c.look_last.result
    (g.M.Served.serves c.args.served.now) (g.M.Served.serves c.serve_saving-ended.new.served) (g.W.Wire.state c.args.wire.now)
    (g.W.Wire.state c.serve_saving-ended.new.wire) c.args.limit c.args.disk.now c.serve_saving-ended.new.disk c.look_last.new.disk
    old.store mid.store c.look_last.new.saves.store mid.counts g.met.D.Disk.leaves_contents g.met.D.Disk.counts_now
    (looks_in g.M.Served.body_of g.M.Served.steps g.M.Served.noted g.D.Disk.contents g.D.Disk.may_leave g.D.Disk.moment g.D.Disk.left_since
    g.D.Disk.marked g.D.Disk.names g.D.Disk.fault_count (g.M.Served.serves c.args.served.now) (g.W.Wire.state c.args.wire.now).history
    c.args.disk.now c.serve_saving-ended.new.disk (saver old.store old.every old.left old.counts old.name.now)
    (saver mid.store mid.every mid.left mid.counts mid.name.now) c.requires.begins)
    c.serve_saving-ended.ensures.serve c.look_last.ensures.ends c.look_last.ensures.ready

pub returns-then-comes_to_end-clause-marks : goal.returns-then-comes_to_end-clause-marks
returns-then-comes_to_end-clause-marks g c =
    let old = c.args.saves.now in
    let mid = c.serve_saving-ended.new.saves in
    looked_marked old.every g.M.Served.body_of g.M.Served.steps g.M.Served.noted g.D.Disk.contents g.D.Disk.may_leave g.D.Disk.moment g.D.Disk.left_since
    g.D.Disk.marked c.serve_saving-ended.result (sym c.comes_to_end.ensures ∙ c.if-comes_to_end.true) _ c.look_last.result
    (g.M.Served.serves c.args.served.now) (g.M.Served.serves c.serve_saving-ended.new.served) (g.W.Wire.state c.args.wire.now)
    (g.W.Wire.state c.serve_saving-ended.new.wire) c.args.limit c.args.disk.now c.serve_saving-ended.new.disk c.look_last.new.disk
    old.store mid.store c.look_last.new.saves.store mid.counts g.met.D.Disk.leaves_contents g.met.D.Disk.counts_now
    (looks_in g.M.Served.body_of g.M.Served.steps g.M.Served.noted g.D.Disk.contents g.D.Disk.may_leave g.D.Disk.moment g.D.Disk.left_since
    g.D.Disk.marked g.D.Disk.names g.D.Disk.fault_count (g.M.Served.serves c.args.served.now) (g.W.Wire.state c.args.wire.now).history
    c.args.disk.now c.serve_saving-ended.new.disk (saver old.store old.every old.left old.counts old.name.now)
    (saver mid.store mid.every mid.left mid.counts mid.name.now) c.requires.begins)
    (marks_in g.M.Served.body_of g.M.Served.steps g.M.Served.noted g.D.Disk.contents g.D.Disk.may_leave g.D.Disk.moment g.D.Disk.left_since
    g.D.Disk.marked g.D.Disk.names g.D.Disk.fault_count (g.M.Served.serves c.args.served.now) (g.W.Wire.state c.args.wire.now).history
    c.args.disk.now c.serve_saving-ended.new.disk (saver old.store old.every old.left old.counts old.name.now)
    (saver mid.store mid.every mid.left mid.counts mid.name.now) c.requires.begins)
    c.serve_saving-ended.ensures.serve c.look_last.ensures.ends c.look_last.ensures.ready c.look_last.ensures.marks

pub returns-then-comes_to_end-clause-named : goal.returns-then-comes_to_end-clause-named
returns-then-comes_to_end-clause-named g c =
    let old = c.args.saves.now in
    let mid = c.serve_saving-ended.new.saves in
    let so_far = (known g.M.Served.body_of g.M.Served.steps g.M.Served.noted g.D.Disk.contents g.D.Disk.may_leave g.D.Disk.moment g.D.Disk.left_since
    g.D.Disk.marked g.D.Disk.names g.D.Disk.fault_count c.serve_saving-ended.result (g.M.Served.serves c.args.served.now)
    (g.M.Served.serves c.serve_saving-ended.new.served) (g.W.Wire.state c.args.wire.now) (g.W.Wire.state c.serve_saving-ended.new.wire) c.args.limit
    c.args.disk.now c.serve_saving-ended.new.disk (saver old.store old.every old.left old.counts old.name.now)
    (saver mid.store mid.every mid.left mid.counts mid.name.now) c.requires.begins c.requires.some c.serve_saving-ended.ensures.serve).1 in
    let P : List ℕ → Type 0 = λ n. OpensOnly (g.D.Disk.names c.serve_saving-ended.new.disk) (g.D.Disk.names c.look_last.new.disk) n in
    only_join (g.D.Disk.names c.args.disk.now) (g.D.Disk.names c.serve_saving-ended.new.disk) (g.D.Disk.names c.look_last.new.disk) old.name.now
    so_far.named (subst P so_far.name c.look_last.ensures.named)

pub returns-else-comes_to_end-clause-keeps : goal.returns-else-comes_to_end-clause-keeps
returns-else-comes_to_end-clause-keeps g c =
    let old = c.args.saves.now in
    let mid = c.serve_saving-ended.new.saves in
    ends_wanting old.every g.M.Served.body_of g.M.Served.steps g.M.Served.noted g.D.Disk.contents g.D.Disk.may_leave g.D.Disk.moment g.D.Disk.left_since
    c.serve_saving-ended.result (sym c.comes_to_end.ensures ∙ c.if-comes_to_end.false) _ (g.M.Served.serves c.args.served.now)
    (g.M.Served.serves c.serve_saving-ended.new.served) (g.W.Wire.state c.args.wire.now) (g.W.Wire.state c.serve_saving-ended.new.wire) c.args.limit
    c.args.disk.now c.serve_saving-ended.new.disk old.store mid.store mid.counts
    (looks_in g.M.Served.body_of g.M.Served.steps g.M.Served.noted g.D.Disk.contents g.D.Disk.may_leave g.D.Disk.moment g.D.Disk.left_since
    g.D.Disk.marked g.D.Disk.names g.D.Disk.fault_count (g.M.Served.serves c.args.served.now) (g.W.Wire.state c.args.wire.now).history
    c.args.disk.now c.serve_saving-ended.new.disk (saver old.store old.every old.left old.counts old.name.now)
    (saver mid.store mid.every mid.left mid.counts mid.name.now) c.requires.begins)
    c.serve_saving-ended.ensures.serve c.serve_saving-ended.ensures.ready.ready

pub returns-else-comes_to_end-clause-marks : goal.returns-else-comes_to_end-clause-marks
returns-else-comes_to_end-clause-marks g c =
    let old = c.args.saves.now in
    let mid = c.serve_saving-ended.new.saves in
    wanting_marked old.every g.M.Served.body_of g.M.Served.steps g.M.Served.noted g.D.Disk.contents g.D.Disk.may_leave g.D.Disk.moment
    g.D.Disk.left_since g.D.Disk.marked c.serve_saving-ended.result (sym c.comes_to_end.ensures ∙ c.if-comes_to_end.false) _
    (g.M.Served.serves c.args.served.now) (g.M.Served.serves c.serve_saving-ended.new.served) (g.W.Wire.state c.args.wire.now)
    (g.W.Wire.state c.serve_saving-ended.new.wire) c.args.limit c.args.disk.now c.serve_saving-ended.new.disk old.store mid.counts
    (marks_in g.M.Served.body_of g.M.Served.steps g.M.Served.noted g.D.Disk.contents g.D.Disk.may_leave g.D.Disk.moment g.D.Disk.left_since
    g.D.Disk.marked g.D.Disk.names g.D.Disk.fault_count (g.M.Served.serves c.args.served.now) (g.W.Wire.state c.args.wire.now).history
    c.args.disk.now c.serve_saving-ended.new.disk (saver old.store old.every old.left old.counts old.name.now)
    (saver mid.store mid.every mid.left mid.counts mid.name.now) c.requires.begins)
    c.serve_saving-ended.ensures.serve
