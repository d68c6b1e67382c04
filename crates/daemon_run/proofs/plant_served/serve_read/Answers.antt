-- A core that was just built is served.
use Rattle.std.proofs.Common.{refl, inl, inr}
use Rattle.server_core.specs.Profiles.{profile_of}
use Rattle.type_layout.specs.Descriptions.{description_of}
use Rattle.plant_commands.specs.FileOutcomes.{at_start_in}
use Rattle.plant_commands.proofs.PlayLemmas.{stands_at_start}
use Rattle.plant_commands.proofs.ServiceLemmas.{core_anew, server_ends, started_with}
use Rattle.daemon_run.specs.Endless.{endless}
use Rattle.daemon_run.proofs.plant_served.serve_read.Goals as goal

pub returns-in-Err-clause-ends : goal.returns-in-Err-clause-ends
returns-in-Err-clause-ends g c = inl (inr (refl, c.end_without_memory.ensures.memory, c.end_without_memory.ensures.line))

pub returns-in-Ok-clause-ends : goal.returns-in-Ok-clause-ends
returns-in-Ok-clause-ends g c =
    let waves = g.G.Sources.waves c.args.signals in
    let profile = profile_of c.args.profile in
    let name = c.args.name.now in
    let listen = c.args.listen.now in
    let read = c.args.read in
    let d = description_of read.description in
    server_ends _ profile d waves name listen read.bytes endless c.serve_core.result (g.S.Sink.state c.args.out.now) (g.S.Sink.state c.serve_core.new.out)
    (g.W.Wire.state c.args.wire.now).history (g.W.Wire.state c.serve_core.new.wire).history
    (started_with listen c.as_str.result.now name c.as_str-in-Ok.result.now read.bytes c.as_slice.result.now c.as_str.ensures c.as_str-in-Ok.ensures
    c.as_slice.ensures)
    (c.serve_core.ensures.ends (at_start_in profile d waves)
    (core_anew c.in-Ok.built profile d waves (stands_at_start c.in-Ok.built profile d waves
    c.in-Ok.ensures.serves c.in-Ok.ensures.counted c.in-Ok.ensures.notes)))
