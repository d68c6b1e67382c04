-- The server begins with what the store holds, and is served.
use Rattle.std.proofs.Common.{refl, inl, inr, length}
use Rattle.server_core.specs.Profiles.{profile_of}
use Rattle.type_layout.specs.Descriptions.{description_of}
use Rattle.persist_store.proofs.NameLemmas.{only_none}
use Rattle.stored_values.specs.StoredBodies.{bytes_lent}
use Rattle.keep_play.proofs.CoreLemmas.{kept_is, kept_may_begin}
use Rattle.plant_commands.specs.FileOutcomes.{at_start_in}
use Rattle.plant_commands.proofs.PlayLemmas.{stands_at_start}
use Rattle.plant_commands.proofs.ServiceLemmas.{core_anew, started_with}
use Rattle.daemon_run.proofs.RunningLemmas.{ends_on_as, some_anew}
use Rattle.daemon_run.proofs.plant_kept.keep_opened.Goals as goal

pub returns-in-Err-clause-ends : goal.returns-in-Err-clause-ends
returns-in-Err-clause-ends g c = inl (refl, inl (inr (refl, c.end_without_memory.ensures.memory, c.end_without_memory.ensures.line)))

pub returns-in-Err-build_in-clause-ends : goal.returns-in-Err-build_in-clause-ends
returns-in-Err-build_in-clause-ends g c =
    inl (refl, inl (inr (refl, c.end_without_memory-in-Err-build_in.ensures.memory, c.end_without_memory-in-Err-build_in.ensures.line)))

pub build_in-requires-clause-accepted : goal.build_in-requires-clause-accepted
build_in-requires-clause-accepted g c =
    let d = description_of c.args.read.description in
    let stored = description_of c.in-Ok.stored in
    let standing = c.args.store.standing in
    kept_may_begin d stored standing (length (g.G.Sources.waves c.args.signals)) c.requires.accepted
    (kept_is d stored (bytes_lent c.body.result) standing c.in-Ok.ensures c.body.ensures)

pub keep_core-requires-clause-some : goal.keep_core-requires-clause-some
keep_core-requires-clause-some g c κs within =
    let waves = g.G.Sources.waves c.args.signals in
    let profile = profile_of c.args.profile in
    let stored = description_of c.in-Ok.stored in
    some_anew _ (at_start_in profile stored waves)
    (core_anew c.in-Ok-build_in.core profile stored waves (stands_at_start c.in-Ok-build_in.core profile stored waves
    c.in-Ok-build_in.ensures.serves c.in-Ok-build_in.ensures.counted c.in-Ok-build_in.ensures.notes))

pub returns-clause-ends : goal.returns-clause-ends
returns-clause-ends g c =
    let waves = g.G.Sources.waves c.args.signals in
    let profile = profile_of c.args.profile in
    let d = description_of c.args.read.description in
    let stored = description_of c.in-Ok.stored in
    let standing = c.args.store.standing in
    let bytes = c.args.read.bytes in
    ends_on_as c.args.every _ profile waves d stored standing c.args.listen.now c.args.name.now bytes c.keep_core.result
    (g.S.Sink.state c.args.out.now) (g.S.Sink.state c.keep_core.new.out)
    g.D.Disk.contents g.D.Disk.may_leave g.D.Disk.moment g.D.Disk.left_since g.D.Disk.marked g.D.Disk.fault_count c.args.disk.now c.keep_core.new.disk
    (g.W.Wire.state c.args.wire.now).history (g.W.Wire.state c.keep_core.new.wire).history
    (started_with c.args.listen.now c.as_str.result.now c.args.name.now c.as_str-2.result.now bytes c.as_slice.result.now c.as_str.ensures
    c.as_str-2.ensures c.as_slice.ensures)
    (kept_is d stored (bytes_lent c.body.result) standing c.in-Ok.ensures c.body.ensures)
    (c.keep_core.ensures.ends (at_start_in profile stored waves)
    (core_anew c.in-Ok-build_in.core profile stored waves (stands_at_start c.in-Ok-build_in.core profile stored waves
    c.in-Ok-build_in.ensures.serves c.in-Ok-build_in.ensures.counted c.in-Ok-build_in.ensures.notes)))

pub returns-in-Err-clause-opens : goal.returns-in-Err-clause-opens
returns-in-Err-clause-opens g c = only_none _ _ c.args.file.now refl

pub returns-in-Err-build_in-clause-opens : goal.returns-in-Err-build_in-clause-opens
returns-in-Err-build_in-clause-opens g c = only_none _ _ c.args.file.now refl

pub returns-clause-opens : goal.returns-clause-opens
returns-clause-opens g c = rw c.as_str-3.ensures at c.keep_core.ensures.opens
