-- How the play over the store ends, seen from before it was opened.
use Rattle.type_layout.specs.Descriptions.{description_of}
use Rattle.persist_store.proofs.NameLemmas.{once_behind}
use Rattle.keep_play.proofs.StoreLemmas.{plays_so, plays_unopened, breaks_unopened}
use Rattle.keep_play.proofs.keeping.keep_play.Goals as goal

pub returns-in-Err-clause-plays : goal.returns-in-Err-clause-plays
returns-in-Err-clause-plays g c =
    breaks_unopened g.D.Disk.contents g.D.Disk.may_leave g.D.Disk.moment g.D.Disk.left_since g.D.Disk.marked g.D.Disk.fault_count
    c.args.disk.now c.open.new.disk (description_of c.args.description) (g.G.Sources.waves c.args.signals) c.args.script c.in-Err.e c.open.ensures.stop

pub returns-in-Ok-Failed-clause-plays : goal.returns-in-Ok-Failed-clause-plays
returns-in-Ok-Failed-clause-plays g c =
    plays_unopened g.D.Disk.contents g.D.Disk.may_leave g.D.Disk.moment g.D.Disk.left_since g.D.Disk.marked g.D.Disk.fault_count
    c.args.disk.now c.open.new.disk (description_of c.args.description) (g.G.Sources.waves c.args.signals) c.args.script c.open.ensures.stop
    (c.in-Ok-Failed.ensures.failed c.in-Ok-Failed.field-0-is)

pub returns-in-Ok-Ready-clause-plays : goal.returns-in-Ok-Ready-clause-plays
returns-in-Ok-Ready-clause-plays g c =
    let opened = rw c.in-Ok-Ready.field-0-is at c.in-Ok-Ready.ensures.opened in
    plays_so g.D.Disk.contents g.D.Disk.may_leave g.D.Disk.moment g.D.Disk.left_since g.D.Disk.marked g.D.Disk.fault_count
    c.args.disk.now c.open.new.disk c.play_opened.new.disk c.in-Ok-Ready.opened (description_of c.args.description)
    (g.G.Sources.waves c.args.signals) c.args.script c.play_opened.result c.open.ensures.contents c.open.ensures.stop c.open.ensures.later c.open.ensures.marks
    opened.2 c.play_opened.ensures.left c.play_opened.ensures.ends

pub returns-in-Ok-Ready-clause-named : goal.returns-in-Ok-Ready-clause-named
returns-in-Ok-Ready-clause-named g c =
    once_behind c.play_opened.result (g.D.Disk.names c.args.disk.now) (g.D.Disk.names c.open.new.disk) (g.D.Disk.names c.play_opened.new.disk) c.args.store.now
    c.in-Ok-Ready.ensures.named c.play_opened.ensures.names
