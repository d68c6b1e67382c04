-- The turns so far begin the script's play, so the saves so far begin those of the play.
use Rattle.std.proofs.Common.{inr}
use Rattle.persist_store.specs.Store.{body_of}
use Rattle.keep_play.proofs.ScriptLemmas.{is_wire_of, some_over, done_whole, done_left, stop_left, stop_over, over_unused, script_marked, never_fails}
use Rattle.keep_play.proofs.ScriptLemmas.{never_spent, left_none}
use Rattle.keep_play.proofs.playing.keep_script.Goals as goal

pub keep_turns-ended-requires-clause-some : goal.keep_turns-ended-requires-clause-some
keep_turns-ended-requires-clause-some g c κs within = some_over _ _ c.requires.some

pub returns-in_default-clause-left : goal.returns-in_default-clause-left
returns-in_default-clause-left g c = λ x stands unused.
    left_none g.D.Disk.contents g.D.Disk.may_leave g.D.Disk.moment g.D.Disk.left_since
    c.args.disk.now c.args.store _ (g.met.D.Disk.only_now c.args.disk.now) c.requires.ready c.requires.open

pub unreachable-requires : goal.unreachable-requires
unreachable-requires g c =
    let wire = is_wire_of c.args.script c.new-wire.result c.keep_turns-ended.new.wire c.into_log-log.result
    c.new-wire.ensures c.keep_turns-ended.ensures.kept c.into_log-log.ensures.log c.into_log-log.ensures.played c.into_log-log.ensures.so_far
    c.into_log-log.ensures.few in
    never_spent g.M.Served.body_of g.M.Served.steps g.M.Served.noted g.D.Disk.contents g.D.Disk.may_leave g.D.Disk.moment
    g.D.Disk.left_since 0 (g.M.Served.serves c.args.served.now) (g.M.Served.serves c.keep_turns-ended.new.served)
    c.args.script c.new-wire.result c.keep_turns-ended.new.wire c.into_log-log.result
    (body_of c.args.store) c.in-Some.limit _ _ _ wire c.in-Some.ensures.one_more c.in-Budget.ensures.keeps

pub unreachable-requires-in-LinkFault : goal.unreachable-requires-in-LinkFault
unreachable-requires-in-LinkFault g c =
    never_fails g.M.Served.body_of g.M.Served.steps g.M.Served.noted g.D.Disk.contents g.D.Disk.may_leave g.D.Disk.moment
    g.D.Disk.left_since 0 (g.M.Served.serves c.args.served.now) (g.M.Served.serves c.keep_turns-ended.new.served)
    c.new-wire.result c.keep_turns-ended.new.wire (body_of c.args.store) c.in-Some.limit _ _ _ c.in-LinkFault.ensures.keeps

pub returns-in-Done-clause-ends : goal.returns-in-Done-clause-ends
returns-in-Done-clause-ends g c = λ x stands unused.
    let wire = is_wire_of c.args.script c.new-wire.result c.keep_turns-ended.new.wire c.into_log-log.result
    c.new-wire.ensures c.keep_turns-ended.ensures.kept c.into_log-log.ensures.log c.into_log-log.ensures.played c.into_log-log.ensures.so_far
    c.into_log-log.ensures.few in
    done_whole g.M.Served.body_of g.M.Served.steps g.M.Served.noted g.D.Disk.contents g.D.Disk.may_leave g.D.Disk.moment
    g.D.Disk.left_since c.in-Done.saved (g.M.Served.serves c.args.served.now) (g.M.Served.serves c.keep_turns-ended.new.served)
    c.args.script c.new-wire.result c.keep_turns-ended.new.wire c.into_log-log.result
    (body_of c.args.store) c.in-Some.limit c.args.store.standing c.args.disk.now c.keep_turns-ended.new.disk _ wire
    c.in-Done.ensures.keeps x stands unused
    (λ play marks told. script_marked g.M.Served.body_of g.M.Served.steps x.running.state c.args.script c.new-wire.result
    c.keep_turns-ended.new.wire c.into_log-log.result (g.D.Disk.contents c.args.disk.now) c.args.store.standing
    (g.D.Disk.marked c.keep_turns-ended.new.disk) marks wire play (c.in-Done.ensures.marks x
    (over_unused (g.M.Served.serves c.args.served.now) _ x stands unused) marks told))

pub returns-in-Done-clause-left : goal.returns-in-Done-clause-left
returns-in-Done-clause-left g c = λ x stands unused.
    let wire = is_wire_of c.args.script c.new-wire.result c.keep_turns-ended.new.wire c.into_log-log.result
    c.new-wire.ensures c.keep_turns-ended.ensures.kept c.into_log-log.ensures.log c.into_log-log.ensures.played c.into_log-log.ensures.so_far
    c.into_log-log.ensures.few in
    done_left g.M.Served.body_of g.M.Served.steps g.M.Served.noted g.D.Disk.contents g.D.Disk.may_leave g.D.Disk.moment
    g.D.Disk.left_since (g.M.Served.serves c.args.served.now) (g.M.Served.serves c.keep_turns-ended.new.served)
    c.args.script c.new-wire.result c.keep_turns-ended.new.wire c.into_log-log.result
    (body_of c.args.store) c.in-Some.limit c.in-Done.saved c.args.store.standing c.args.disk.now c.keep_turns-ended.new.disk _ _ wire
    c.in-Done.ensures.keeps x stands unused

pub returns-in-StoreFault-clause-left : goal.returns-in-StoreFault-clause-left
returns-in-StoreFault-clause-left g c = λ x stands unused.
    let wire = is_wire_of c.args.script c.new-wire.result c.keep_turns-ended.new.wire c.into_log-log.result
    c.new-wire.ensures c.keep_turns-ended.ensures.kept c.into_log-log.ensures.log c.into_log-log.ensures.played c.into_log-log.ensures.so_far
    c.into_log-log.ensures.few in
    stop_left g.M.Served.body_of g.M.Served.steps g.M.Served.noted g.D.Disk.contents g.D.Disk.may_leave g.D.Disk.moment
    g.D.Disk.left_since (g.M.Served.serves c.args.served.now) c.args.script c.new-wire.result c.keep_turns-ended.new.wire c.into_log-log.result
    (body_of c.args.store) c.in-Some.limit c.args.store.standing c.args.disk.now c.keep_turns-ended.new.disk
    c.in-StoreFault.ensures.keeps.saves wire c.in-Some.ensures.one_more (inr c.in-StoreFault.ensures.keeps.took) c.in-StoreFault.ensures.keeps.left x stands
    unused

pub returns-in-StoreLimit-clause-left : goal.returns-in-StoreLimit-clause-left
returns-in-StoreLimit-clause-left g c = λ x stands unused.
    let wire = is_wire_of c.args.script c.new-wire.result c.keep_turns-ended.new.wire c.into_log-log.result
    c.new-wire.ensures c.keep_turns-ended.ensures.kept c.into_log-log.ensures.log c.into_log-log.ensures.played c.into_log-log.ensures.so_far
    c.into_log-log.ensures.few in
    stop_left g.M.Served.body_of g.M.Served.steps g.M.Served.noted g.D.Disk.contents g.D.Disk.may_leave g.D.Disk.moment
    g.D.Disk.left_since (g.M.Served.serves c.args.served.now) c.args.script c.new-wire.result c.keep_turns-ended.new.wire c.into_log-log.result
    (body_of c.args.store) c.in-Some.limit c.args.store.standing c.args.disk.now c.keep_turns-ended.new.disk
    c.in-StoreLimit.ensures.keeps.saves wire c.in-Some.ensures.one_more (inr c.in-StoreLimit.ensures.keeps.took) c.in-StoreLimit.ensures.keeps.left x stands
    unused

pub returns-in-StoreLimit-clause-ends : goal.returns-in-StoreLimit-clause-ends
returns-in-StoreLimit-clause-ends g c = λ x stands unused.
    let wire = is_wire_of c.args.script c.new-wire.result c.keep_turns-ended.new.wire c.into_log-log.result
    c.new-wire.ensures c.keep_turns-ended.ensures.kept c.into_log-log.ensures.log c.into_log-log.ensures.played c.into_log-log.ensures.so_far
    c.into_log-log.ensures.few in
    stop_over g.M.Served.body_of g.M.Served.steps g.M.Served.noted g.D.Disk.contents g.D.Disk.may_leave g.D.Disk.moment
    g.D.Disk.left_since (g.M.Served.serves c.args.served.now) c.args.script c.new-wire.result c.keep_turns-ended.new.wire c.into_log-log.result
    (body_of c.args.store) c.in-Some.limit c.args.store.standing
    c.in-StoreLimit.ensures.keeps.saves wire c.in-Some.ensures.one_more c.in-StoreLimit.ensures.keeps.took c.in-StoreLimit.ensures.keeps.counted
    x stands unused

pub returns-in-Memory-clause-left : goal.returns-in-Memory-clause-left
returns-in-Memory-clause-left g c = λ x stands unused.
    let wire = is_wire_of c.args.script c.new-wire.result c.keep_turns-ended.new.wire c.into_log-log.result
    c.new-wire.ensures c.keep_turns-ended.ensures.kept c.into_log-log.ensures.log c.into_log-log.ensures.played c.into_log-log.ensures.so_far
    c.into_log-log.ensures.few in
    stop_left g.M.Served.body_of g.M.Served.steps g.M.Served.noted g.D.Disk.contents g.D.Disk.may_leave g.D.Disk.moment
    g.D.Disk.left_since (g.M.Served.serves c.args.served.now) c.args.script c.new-wire.result c.keep_turns-ended.new.wire c.into_log-log.result
    (body_of c.args.store) c.in-Some.limit c.args.store.standing c.args.disk.now c.keep_turns-ended.new.disk
    c.in-Memory.ensures.keeps.saves wire c.in-Some.ensures.one_more c.in-Memory.ensures.keeps.took c.in-Memory.ensures.keeps.left x stands unused
