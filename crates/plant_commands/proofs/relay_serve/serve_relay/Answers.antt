-- The file gives no description that is accepted, or its relay is served.
use Rattle.std.proofs.Common.{◌≡◌, refl, length}
use Rattle.ads_outside.specs.Named.{bytes_of}
use Rattle.ads_outside.specs.Rose.{Rose}
use Rattle.type_layout.specs.Descriptions.{description_of}
use Rattle.spec_relay.specs.RelayState.{relay_start}
use Rattle.ams_relay.specs.Relays.{standing_at_start}
use Rattle.run_tasks.specs.Service.{OfRelay, relay_counts}
use Rattle.run_tasks.specs.Verdict.{Serves, verdict_of_file, verdict_of_service}
use Rattle.run_tasks.specs.EndsOr.{WantsMemory}
use Rattle.run_tasks.specs.Outcomes.{IsRead}
use Rattle.run_tasks.proofs.EndLemmas.{wants_described, ends_as_told, ends_read}
use Rattle.run_tasks.proofs.ReadLemmas.{reads_one}
use Rattle.plant_commands.specs.Serving.{EndsService}
use Rattle.plant_commands.proofs.ServiceLemmas.{relay_anew, relay_ends, service_begun, service_of, service_wanting, started_with}
use Rattle.plant_commands.proofs.relay_serve.serve_relay.Goals as goal

pub returns-in-Err-clause-ends : goal.returns-in-Err-clause-ends
returns-in-Err-clause-ends g c =
    let waves = g.G.Sources.waves c.args.signals in
    let out = g.S.Sink.state c.args.out.now in
    let out_new = g.S.Sink.state c.end_without_memory.new.out in
    let s = c.end_without_memory.result in
    let wire = (g.W.Wire.state c.args.wire.now).history in
    let wants : WantsMemory s out out_new = (c.end_without_memory.ensures.memory, c.end_without_memory.ensures.line) in
    wants_described Serves (λ x. EndsService x s out out_new wire wire) (wire ≡ wire) (g.F.Files.state c.args.files.now).held (length waves)
    (λ bytes d. Serves (service_of (OfRelay d) c.args.description.now c.args.listen.now bytes c.args.events)) c.args.description.now
    (Rose (g.F.Files.state c.args.files.now).faults (g.F.Files.state c.read_description.new.files).faults) s out out_new refl wants
    (λ bytes d. service_wanting (service_of (OfRelay d) c.args.description.now c.args.listen.now bytes c.args.events) s out out_new wire wants)

pub returns-in-Err-build-clause-ends : goal.returns-in-Err-build-clause-ends
returns-in-Err-build-clause-ends g c =
    let waves = g.G.Sources.waves c.args.signals in
    let out = g.S.Sink.state c.args.out.now in
    let out_new = g.S.Sink.state c.end_without_memory-in-Err-build.new.out in
    let s = c.end_without_memory-in-Err-build.result in
    let wire = (g.W.Wire.state c.args.wire.now).history in
    let wants : WantsMemory s out out_new = (c.end_without_memory-in-Err-build.ensures.memory, c.end_without_memory-in-Err-build.ensures.line) in
    wants_described Serves (λ x. EndsService x s out out_new wire wire) (wire ≡ wire) (g.F.Files.state c.args.files.now).held (length waves)
    (λ bytes d. Serves (service_of (OfRelay d) c.args.description.now c.args.listen.now bytes c.args.events)) c.args.description.now
    (Rose (g.F.Files.state c.args.files.now).faults (g.F.Files.state c.read_description.new.files).faults) s out out_new refl wants
    (λ bytes d. service_wanting (service_of (OfRelay d) c.args.description.now c.args.listen.now bytes c.args.events) s out out_new wire wants)

pub returns-in-Ok-Err-clause-ends : goal.returns-in-Ok-Err-clause-ends
returns-in-Ok-Err-clause-ends g c =
    let waves = g.G.Sources.waves c.args.signals in
    let out = g.S.Sink.state c.args.out.now in
    let out_new = g.S.Sink.state c.print_outcome.new.out in
    let wire = (g.W.Wire.state c.args.wire.now).history in
    ends_as_told Serves (λ x. EndsService x c.print_outcome.result out out_new wire wire) (wire ≡ wire) (g.F.Files.state c.args.files.now).held
    (λ files. verdict_of_file (verdict_of_service (length waves) OfRelay c.args.description.now c.args.listen.now c.args.events)
    (bytes_of files c.args.description.now))
    (Rose (g.F.Files.state c.args.files.now).faults (g.F.Files.state c.read_description.new.files).faults) c.in-Ok-Err.told c.print_outcome.result
    out out_new refl c.print_outcome.ensures
    (rw (c.in-Ok-Err.field-0-is, c.count.ensures) at
    (c.in-Ok-Err.ensures.told (λ bytes d. Serves (service_of (OfRelay d) c.args.description.now c.args.listen.now bytes c.args.events))))

pub returns-clause-ends : goal.returns-clause-ends
returns-clause-ends g c =
    let waves = g.G.Sources.waves c.args.signals in
    let out = g.S.Sink.state c.args.out.now in
    let out_new = g.S.Sink.state c.start_machine.new.out in
    let wire = (g.W.Wire.state c.args.wire.now).history in
    let wire_new = (g.W.Wire.state c.start_machine.new.wire).history in
    let s = c.start_machine.result in
    let name = c.args.description.now in
    let listen = c.args.listen.now in
    let read = c.in-Ok-Ok.read in
    let d = description_of read.description in
    let found : IsRead (length waves) c.args.description.now (g.F.Files.state c.args.files.now).held read =
    rw (c.in-Ok-Ok.field-0-is, c.count.ensures) at c.in-Ok-Ok.ensures.found in
    ends_read Serves (λ x. EndsService x s out out_new wire wire_new) (wire_new ≡ wire) (g.F.Files.state c.args.files.now).held (length waves)
    (λ bytes d. Serves (service_of (OfRelay d) name listen bytes c.args.events)) name read.bytes d
    (Rose (g.F.Files.state c.args.files.now).faults (g.F.Files.state c.read_description.new.files).faults) s out out_new found.has found.is
    (service_begun (service_of (OfRelay d) name listen read.bytes c.args.events) s out out_new wire wire_new
    (relay_ends _ d name listen read.bytes c.args.events s out out_new wire wire_new
    (started_with listen c.as_str.result.now name c.as_str-in-Ok.result.now read.bytes c.as_slice.result.now c.as_str.ensures c.as_str-in-Ok.ensures
    c.as_slice.ensures)
    (c.start_machine.ensures.ends relay_counts (λ relay line told. told) (standing_at_start (relay_start d))
    (relay_anew c.in-Ok.router d c.in-Ok.ensures))))

pub returns-in-Err-build-clause-reads : goal.returns-in-Err-build-clause-reads
returns-in-Err-build-clause-reads g c = reads_one c.end_without_memory-in-Err-build.result _ _ c.args.description.now c.in-Ok-Ok.ensures.reads

pub returns-clause-reads : goal.returns-clause-reads
returns-clause-reads g c = reads_one c.start_machine.result _ _ c.args.description.now c.in-Ok-Ok.ensures.reads
