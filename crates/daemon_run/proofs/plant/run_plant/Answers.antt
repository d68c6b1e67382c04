-- The file gives no description that is accepted, or its plant is served.
use Rattle.std.proofs.Common.{◌≡◌, refl, length, subst, sym}
use Rattle.std.specs.Prelude.{IfSome}
use Rattle.persist_store.specs.Disk.{OpensOnly}
use Rattle.persist_store.proofs.NameLemmas.{only_not}
use Rattle.ads_outside.specs.Named.{bytes_of}
use Rattle.ads_outside.specs.Rose.{Rose}
use Rattle.server_core.specs.Profiles.{profile_of}
use Rattle.type_layout.specs.Descriptions.{description_of}
use Rattle.keep_play.specs.KeptDisk.{disk_used}
use Rattle.run_tasks.specs.EndsOr.{WantsMemory}
use Rattle.run_tasks.specs.Outcomes.{IsRead}
use Rattle.run_tasks.proofs.EndLemmas.{ending_in, wants_described, ends_as_told, ends_read}
use Rattle.run_tasks.proofs.ReadLemmas.{reads_one}
use Rattle.daemon_run.specs.Plant.{plant_of, serves_plant, serving, verdict_on}
use Rattle.daemon_run.specs.PlantEnds.{EndsPlant}
use Rattle.daemon_run.proofs.KeptLemmas.{plant_run, plant_wanting, with_store, without_store}
use Rattle.daemon_run.proofs.PlantDone.{plant_done}
use Rattle.daemon_run.proofs.StatusLemmas.{no_store_fault, not_before, of_service, told_no_store}
use Rattle.daemon_run.proofs.plant.run_plant.Goals as goal

pub returns-in-Err-clause-ends : goal.returns-in-Err-clause-ends
returns-in-Err-clause-ends g c =
    let h = serving (profile_of c.args.profile) (g.G.Sources.waves c.args.signals) c.args.store.now c.args.every in
    let name = c.args.description.now in
    let listen = c.args.listen.now in
    let d = c.args.disk.now in
    let disk = disk_used g.D.Disk.contents g.D.Disk.may_leave g.D.Disk.moment g.D.Disk.left_since g.D.Disk.marked g.D.Disk.fault_count d d in
    let out = g.S.Sink.state c.args.out.now in
    let out_new = g.S.Sink.state c.end_without_memory.new.out in
    let s = c.end_without_memory.result in
    let wire = (g.W.Wire.state c.args.wire.now).history in
    let wants : WantsMemory s out out_new = (c.end_without_memory.ensures.memory, c.end_without_memory.ensures.line) in
    wants_described (serves_plant h) (λ x. EndsPlant h x s out out_new disk wire wire) ((wire ≡ wire) × (d ≡ d)) (g.F.Files.state c.args.files.now).held
    (length h.waves) (λ bytes x. serves_plant h (plant_of name listen bytes x)) name
    (Rose (g.F.Files.state c.args.files.now).faults (g.F.Files.state c.read_description.new.files).faults) s out out_new (refl, refl) wants
    (λ bytes x. plant_wanting g.D.Disk.contents g.D.Disk.may_leave g.D.Disk.moment g.D.Disk.left_since g.D.Disk.marked g.D.Disk.fault_count
    h (plant_of name listen bytes x) ((wire ≡ wire) × (d ≡ d)) d s out out_new wire (g.met.D.Disk.only_now d) wants)

pub returns-in-Ok-Err-clause-ends : goal.returns-in-Ok-Err-clause-ends
returns-in-Ok-Err-clause-ends g c =
    let h = serving (profile_of c.args.profile) (g.G.Sources.waves c.args.signals) c.args.store.now c.args.every in
    let name = c.args.description.now in
    let listen = c.args.listen.now in
    let d = c.args.disk.now in
    let disk = disk_used g.D.Disk.contents g.D.Disk.may_leave g.D.Disk.moment g.D.Disk.left_since g.D.Disk.marked g.D.Disk.fault_count d d in
    let out = g.S.Sink.state c.args.out.now in
    let out_new = g.S.Sink.state c.print_outcome.new.out in
    let wire = (g.W.Wire.state c.args.wire.now).history in
    ends_as_told (serves_plant h) (λ x. EndsPlant h x c.print_outcome.result out out_new disk wire wire) ((wire ≡ wire) × (d ≡ d))
    (g.F.Files.state c.args.files.now).held (λ files. verdict_on h name listen (bytes_of files name))
    (Rose (g.F.Files.state c.args.files.now).faults (g.F.Files.state c.read_description.new.files).faults) c.in-Ok-Err.told c.print_outcome.result
    out out_new (refl, refl) c.print_outcome.ensures
    (rw (c.in-Ok-Err.field-0-is, c.count.ensures) at (c.in-Ok-Err.ensures.told (λ bytes x. serves_plant h (plant_of name listen bytes x))))

pub returns-in-None-clause-ends : goal.returns-in-None-clause-ends
returns-in-None-clause-ends g c =
    let profile = profile_of c.args.profile in
    let waves = g.G.Sources.waves c.args.signals in
    let h = serving profile waves c.args.store.now c.args.every in
    let name = c.args.description.now in
    let listen = c.args.listen.now in
    let d = c.args.disk.now in
    let disk = disk_used g.D.Disk.contents g.D.Disk.may_leave g.D.Disk.moment g.D.Disk.left_since g.D.Disk.marked g.D.Disk.fault_count d d in
    let out = g.S.Sink.state c.args.out.now in
    let out_new = g.S.Sink.state c.serve_read.new.out in
    let wire = (g.W.Wire.state c.args.wire.now).history in
    let wire_new = (g.W.Wire.state c.serve_read.new.wire).history in
    let s = c.serve_read.result in
    let read = c.in-Ok-Ok.read in
    let x = description_of read.description in
    let plant = plant_of name listen read.bytes x in
    let Still : Type 0 = (wire_new ≡ wire) × (d ≡ d) in
    let found : IsRead (length waves) name (g.F.Files.state c.args.files.now).held read =
    rw (c.in-Ok-Ok.field-0-is, c.count.ensures) at c.in-Ok-Ok.ensures.found in
    ends_read (serves_plant h) (λ y. EndsPlant h y s out out_new disk wire wire_new) Still (g.F.Files.state c.args.files.now).held (length waves)
    (λ bytes y. serves_plant h (plant_of name listen bytes y)) name read.bytes x
    (Rose (g.F.Files.state c.args.files.now).faults (g.F.Files.state c.read_description.new.files).faults) s out out_new found.has found.is
    (plant_run h plant Still s out out_new disk wire wire_new
    (without_store profile waves c.args.store.now c.args.every plant s out out_new disk wire wire_new c.in-None.is c.serve_read.ensures.ends))

pub returns-in-Some-clause-ends : goal.returns-in-Some-clause-ends
returns-in-Some-clause-ends g c =
    let profile = profile_of c.args.profile in
    let waves = g.G.Sources.waves c.args.signals in
    let h = serving profile waves c.args.store.now c.args.every in
    let name = c.args.description.now in
    let listen = c.args.listen.now in
    let d = c.args.disk.now in
    let e = c.keep_read.new.disk in
    let disk = disk_used g.D.Disk.contents g.D.Disk.may_leave g.D.Disk.moment g.D.Disk.left_since g.D.Disk.marked g.D.Disk.fault_count d e in
    let out = g.S.Sink.state c.args.out.now in
    let out_new = g.S.Sink.state c.keep_read.new.out in
    let wire = (g.W.Wire.state c.args.wire.now).history in
    let wire_new = (g.W.Wire.state c.keep_read.new.wire).history in
    let s = c.keep_read.result in
    let read = c.in-Ok-Ok.read in
    let x = description_of read.description in
    let plant = plant_of name listen read.bytes x in
    let Still : Type 0 = (wire_new ≡ wire) × (e ≡ d) in
    let found : IsRead (length waves) name (g.F.Files.state c.args.files.now).held read =
    rw (c.in-Ok-Ok.field-0-is, c.count.ensures) at c.in-Ok-Ok.ensures.found in
    ends_read (serves_plant h) (λ y. EndsPlant h y s out out_new disk wire wire_new) Still (g.F.Files.state c.args.files.now).held (length waves)
    (λ bytes y. serves_plant h (plant_of name listen bytes y)) name read.bytes x
    (Rose (g.F.Files.state c.args.files.now).faults (g.F.Files.state c.read_description.new.files).faults) s out out_new found.has found.is
    (plant_run h plant Still s out out_new disk wire wire_new
    (with_store profile waves c.args.store.now c.in-Some.store c.args.every plant s out out_new disk wire wire_new c.in-Some.is c.keep_read.ensures.ends))

pub returns-in-None-clause-reads : goal.returns-in-None-clause-reads
returns-in-None-clause-reads g c = reads_one c.serve_read.result _ _ c.args.description.now c.in-Ok-Ok.ensures.reads

pub returns-in-Some-clause-reads : goal.returns-in-Some-clause-reads
returns-in-Some-clause-reads g c = reads_one c.keep_read.result _ _ c.args.description.now c.in-Ok-Ok.ensures.reads

pub returns-in-Ok-Err-clause-store_fault : goal.returns-in-Ok-Err-clause-store_fault
returns-in-Ok-Err-clause-store_fault g c = λ is.
    told_no_store (ending_in c.in-Ok-Err.told) c.print_outcome.result (g.S.Sink.state c.args.out.now) (g.S.Sink.state c.print_outcome.new.out)
    c.print_outcome.ensures (rw c.in-Ok-Err.field-0-is at c.in-Ok-Err.ensures.status) is

pub returns-in-None-clause-store_fault : goal.returns-in-None-clause-store_fault
returns-in-None-clause-store_fault g c = λ is. no_store_fault c.serve_read.result c.serve_read.ensures.status is

pub returns-in-None-clause-before_run : goal.returns-in-None-clause-before_run
returns-in-None-clause-before_run g c = λ before. not_before c.serve_read.result (of_service c.serve_read.result c.serve_read.ensures.status) before

pub returns-in-Some-clause-before_run : goal.returns-in-Some-clause-before_run
returns-in-Some-clause-before_run g c = λ before. not_before c.keep_read.result c.keep_read.ensures.status before

pub returns-in-Some-clause-disk_before_run : goal.returns-in-Some-clause-disk_before_run
returns-in-Some-clause-disk_before_run g c = λ before. not_before c.keep_read.result c.keep_read.ensures.status before

pub returns-in-Ok-Err-clause-reads : goal.returns-in-Ok-Err-clause-reads
returns-in-Ok-Err-clause-reads g c = reads_one c.print_outcome.result _ _ c.args.description.now c.in-Ok-Err.ensures.reads

pub returns-in-None-clause-done : goal.returns-in-None-clause-done
returns-in-None-clause-done g c =
    let h = serving (profile_of c.args.profile) (g.G.Sources.waves c.args.signals) c.args.store.now c.args.every in
    let d = c.args.disk.now in
    plant_done (g.F.Files.state c.args.files.now).held h (d ≡ d) c.args.description.now c.args.listen.now
    (Rose (g.F.Files.state c.args.files.now).faults (g.F.Files.state c.read_description.new.files).faults) c.serve_read.result
    (g.S.Sink.state c.args.out.now) (g.S.Sink.state c.serve_read.new.out)
    (disk_used g.D.Disk.contents g.D.Disk.may_leave g.D.Disk.moment g.D.Disk.left_since g.D.Disk.marked g.D.Disk.fault_count d d)
    (g.W.Wire.state c.args.wire.now).history (g.W.Wire.state c.serve_read.new.wire).history (returns-in-None-clause-ends g c)

pub returns-in-Some-clause-done : goal.returns-in-Some-clause-done
returns-in-Some-clause-done g c =
    let h = serving (profile_of c.args.profile) (g.G.Sources.waves c.args.signals) c.args.store.now c.args.every in
    let d = c.args.disk.now in
    let e = c.keep_read.new.disk in
    plant_done (g.F.Files.state c.args.files.now).held h (e ≡ d) c.args.description.now c.args.listen.now
    (Rose (g.F.Files.state c.args.files.now).faults (g.F.Files.state c.read_description.new.files).faults) c.keep_read.result
    (g.S.Sink.state c.args.out.now) (g.S.Sink.state c.keep_read.new.out)
    (disk_used g.D.Disk.contents g.D.Disk.may_leave g.D.Disk.moment g.D.Disk.left_since g.D.Disk.marked g.D.Disk.fault_count d e)
    (g.W.Wire.state c.args.wire.now).history (g.W.Wire.state c.keep_read.new.wire).history (returns-in-Some-clause-ends g c)

pub returns-in-Err-clause-opens : goal.returns-in-Err-clause-opens
returns-in-Err-clause-opens g c = only_not c.args.store.now _ _ refl

pub returns-in-Ok-Err-clause-opens : goal.returns-in-Ok-Err-clause-opens
returns-in-Ok-Err-clause-opens g c = only_not c.args.store.now _ _ refl

pub returns-in-None-clause-opens : goal.returns-in-None-clause-opens
returns-in-None-clause-opens g c = only_not c.args.store.now _ _ refl

pub returns-in-Some-clause-opens : goal.returns-in-Some-clause-opens
returns-in-Some-clause-opens g c =
    subst (λ name. IfSome name (OpensOnly (g.D.Disk.names c.args.disk.now) (g.D.Disk.names c.keep_read.new.disk))) (sym c.in-Some.is)
    c.keep_read.ensures.opens
