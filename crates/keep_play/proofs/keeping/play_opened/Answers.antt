-- The server begins with what the store holds, and its play is that over this description.
use Rattle.std.proofs.Common.{List, length}
use Rattle.signals.specs.Wave.{Wave}
use Rattle.spec_plant.specs.Description.{Description}
use Rattle.type_layout.specs.Descriptions.{description_of}
use Rattle.persist_store.specs.Store.{body_of}
use Rattle.stored_values.specs.StoredBodies.{bytes_lent}
use Rattle.keep_play.specs.declared.kept_play.KeptPlay.{KeptPlay}
use Rattle.keep_play.specs.KeptDisk.{disk_used}
use Rattle.keep_play.specs.KeptMarks.{MarkedOver}
use Rattle.keep_play.specs.KeptPlay.{EndsSo}
use Rattle.keep_play.specs.KeptSaves.{saves_over, saved_text}
use Rattle.keep_play.proofs.CoreLemmas.{kept_is, kept_may_begin, stands_begun, serves_begun, left_kept, ends_kept, ends_at}
use Rattle.keep_play.proofs.ScriptLemmas.{left_none}
use Rattle.keep_play.proofs.keeping.play_opened.Goals as goal

pub returns-in-Err-clause-left : goal.returns-in-Err-clause-left
returns-in-Err-clause-left g c = left_none g.D.Disk.contents g.D.Disk.may_leave g.D.Disk.moment g.D.Disk.left_since
    c.args.disk.now c.args.store _ (g.met.D.Disk.only_now c.args.disk.now) c.requires.ready c.requires.open

pub build-requires-clause-accepted : goal.build-requires-clause-accepted
build-requires-clause-accepted g c =
    let is = kept_is (description_of c.args.description) (description_of c.in-Ok.stored) (bytes_lent c.body.result) c.args.store.standing
    c.in-Ok.ensures c.body.ensures in
    kept_may_begin (description_of c.args.description) (description_of c.in-Ok.stored) c.args.store.standing (length (g.G.Sources.waves c.args.signals))
    c.requires.accepted is

pub returns-in-Err-build-clause-left : goal.returns-in-Err-build-clause-left
returns-in-Err-build-clause-left g c = left_none g.D.Disk.contents g.D.Disk.may_leave g.D.Disk.moment g.D.Disk.left_since
    c.args.disk.now c.args.store _ (g.met.D.Disk.only_now c.args.disk.now) c.requires.ready c.requires.open

pub play_core-requires-clause-some : goal.play_core-requires-clause-some
play_core-requires-clause-some g c κs within =
    serves_begun c.in-Ok-build.core (description_of c.in-Ok.stored) (g.G.Sources.waves c.args.signals)
    c.in-Ok-build.ensures.serves c.in-Ok-build.ensures.counted c.in-Ok-build.ensures.notes

pub returns-clause-left : goal.returns-clause-left
returns-clause-left g c =
    let is = kept_is (description_of c.args.description) (description_of c.in-Ok.stored) (bytes_lent c.body.result) c.args.store.standing
    c.in-Ok.ensures c.body.ensures in
    let stands = stands_begun c.in-Ok-build.core (description_of c.in-Ok.stored) (g.G.Sources.waves c.args.signals)
    c.in-Ok-build.ensures.serves c.in-Ok-build.ensures.counted c.in-Ok-build.ensures.notes in
    left_kept g.D.Disk.contents g.D.Disk.moment g.D.Disk.left_since c.args.disk.now c.play_core.new.disk
    (description_of c.args.description) (description_of c.in-Ok.stored) (g.G.Sources.waves c.args.signals) c.args.script c.args.store.standing is
    (c.play_core.ensures.left (description_of c.in-Ok.stored) (g.G.Sources.waves c.args.signals) stands)

pub returns-clause-ends : goal.returns-clause-ends
returns-clause-ends g c =
    let is = kept_is (description_of c.args.description) (description_of c.in-Ok.stored) (bytes_lent c.body.result) c.args.store.standing
    c.in-Ok.ensures c.body.ensures in
    let stands = stands_begun c.in-Ok-build.core (description_of c.in-Ok.stored) (g.G.Sources.waves c.args.signals)
    c.in-Ok-build.ensures.serves c.in-Ok-build.ensures.counted c.in-Ok-build.ensures.notes in
    let disk = disk_used g.D.Disk.contents g.D.Disk.may_leave g.D.Disk.moment g.D.Disk.left_since g.D.Disk.marked g.D.Disk.fault_count
    c.args.disk.now c.play_core.new.disk in
    let stood = body_of c.args.store in
    let Ends : KeptPlay → Description → List Wave → Type 0 = λ end d waves.
    EndsSo (saved_text d waves c.args.script (length (saves_over d waves c.args.script stood)))
    (MarkedOver d waves c.args.script disk c.args.store.standing) disk end c.args.store.standing
    (saves_over d waves c.args.script stood) in
    ends_kept c.play_core.result disk (description_of c.args.description) (description_of c.in-Ok.stored) (g.G.Sources.waves c.args.signals) c.args.script
    c.args.store.standing is
    (ends_at c.play_core.result c.in-Ok-build.core (description_of c.in-Ok.stored) (g.G.Sources.waves c.args.signals) Ends stands c.play_core.ensures.ends)
