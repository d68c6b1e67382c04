-- The store is opened, and the plant served over it; or it is not.
use Rattle.std.proofs.Common.{refl, inl, inr}
use Rattle.std.specs.Prelude.{Some}
use Rattle.persist_store.proofs.NameLemmas.{all_only, only_join, some_only}
use Rattle.server_core.specs.Profiles.{profile_of}
use Rattle.type_layout.specs.Descriptions.{description_of}
use Rattle.daemon_run.specs.Plant.{plant_of, serving}
use Rattle.daemon_run.proofs.KeptLemmas.{kept_opened, kept_unopened, kept_unstarted}
use Rattle.daemon_run.proofs.plant_kept.keep_read.Goals as goal

pub returns-in-Err-clause-ends : goal.returns-in-Err-clause-ends
returns-in-Err-clause-ends g c =
    let h = serving (profile_of c.args.profile) (g.G.Sources.waves c.args.signals) (Some c.args.store.now) c.args.every in
    let x = plant_of c.args.name.now c.args.listen.now c.args.read.bytes (description_of c.args.read.description) in
    kept_unstarted g.D.Disk.contents g.D.Disk.may_leave g.D.Disk.moment g.D.Disk.left_since g.D.Disk.marked g.D.Disk.fault_count
    h x c.args.disk.now c.open.new.disk c.end_without_memory.result (g.S.Sink.state c.args.out.now) (g.S.Sink.state c.end_without_memory.new.out)
    (g.W.Wire.state c.args.wire.now).history (g.W.Wire.state c.args.wire.now).history c.open.ensures.stop
    (inl (inr (refl, c.end_without_memory.ensures.memory, c.end_without_memory.ensures.line)))

pub returns-in-Ok-Failed-clause-ends : goal.returns-in-Ok-Failed-clause-ends
returns-in-Ok-Failed-clause-ends g c =
    let h = serving (profile_of c.args.profile) (g.G.Sources.waves c.args.signals) (Some c.args.store.now) c.args.every in
    let x = plant_of c.args.name.now c.args.listen.now c.args.read.bytes (description_of c.args.read.description) in
    kept_unopened g.D.Disk.contents g.D.Disk.may_leave g.D.Disk.moment g.D.Disk.left_since g.D.Disk.marked g.D.Disk.fault_count
    h x c.args.disk.now c.open.new.disk c.print_line.result (g.S.Sink.state c.args.out.now) (g.S.Sink.state c.print_line.new.out)
    (g.W.Wire.state c.args.wire.now).history c.open.ensures.stop
    (c.in-Ok-Failed.ensures.failed c.in-Ok-Failed.field-0-is) c.print_line.ensures

pub returns-in-Ok-Ready-clause-ends : goal.returns-in-Ok-Ready-clause-ends
returns-in-Ok-Ready-clause-ends g c =
    let opened = rw c.in-Ok-Ready.field-0-is at c.in-Ok-Ready.ensures.opened in
    let x = plant_of c.args.name.now c.args.listen.now c.args.read.bytes (description_of c.args.read.description) in
    kept_opened g.D.Disk.contents g.D.Disk.may_leave g.D.Disk.moment g.D.Disk.left_since g.D.Disk.marked g.D.Disk.fault_count
    (profile_of c.args.profile) (g.G.Sources.waves c.args.signals) c.args.store.now c.args.every x c.in-Ok-Ready.opened.standing
    c.args.disk.now c.open.new.disk c.keep_opened.new.disk c.keep_opened.result (g.S.Sink.state c.args.out.now) (g.S.Sink.state c.keep_opened.new.out)
    (g.W.Wire.state c.args.wire.now).history (g.W.Wire.state c.keep_opened.new.wire).history c.open.ensures.contents c.open.ensures.stop
    c.open.ensures.later c.open.ensures.marks opened.2 c.keep_opened.ensures.ends

pub returns-in-Err-clause-opens : goal.returns-in-Err-clause-opens
returns-in-Err-clause-opens g c = some_only _ _ c.args.store.now (rw c.as_str.ensures at c.in-Err.ensures.named)

pub returns-in-Ok-Failed-clause-opens : goal.returns-in-Ok-Failed-clause-opens
returns-in-Ok-Failed-clause-opens g c = all_only _ _ c.args.store.now (rw c.as_str.ensures at c.in-Ok-Failed.ensures.named)

pub returns-in-Ok-Ready-clause-opens : goal.returns-in-Ok-Ready-clause-opens
returns-in-Ok-Ready-clause-opens g c =
    only_join _ _ _ c.args.store.now (all_only _ _ c.args.store.now (rw c.as_str.ensures at c.in-Ok-Ready.ensures.named)) c.keep_opened.ensures.opens
