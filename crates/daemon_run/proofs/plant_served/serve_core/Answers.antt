-- The wire was started and that is told, or not.
use Rattle.ads_outside.specs.SinkState.{SinkState}
use Rattle.ads_outside.specs.WireState.{WireHistory}
use Rattle.server_core.specs.Served.{served_step}
use Rattle.run_tasks.specs.Service.{server_counts}
use Rattle.plant_commands.specs.Machine.{RunsMachine}
use Rattle.plant_commands.proofs.MachineLemmas.{started_so, not_started_so}
use Rattle.daemon_run.specs.Endless.{endless}
use Rattle.daemon_run.proofs.plant_served.serve_core.Goals as goal

pub returns-in-Ok-clause-ends : goal.returns-in-Ok-clause-ends
returns-in-Ok-clause-ends g c = λ x stands.
    let out_new = g.S.Sink.state c.run_core.new.out in
    let wire_new = (g.W.Wire.state c.run_core.new.wire).history in
    started_so _
    (λ (between : SinkState) (started : WireHistory). RunsMachine served_step server_counts x endless c.run_core.result between out_new started wire_new)
    c.run_core.result (g.S.Sink.state c.args.out.now) (g.S.Sink.state c.start_and_tell.new.out) out_new
    (g.W.Wire.state c.args.wire.now).history (g.W.Wire.state c.start_and_tell.new.wire).history wire_new
    c.in-Ok.ensures.ok (c.run_core.ensures.ends x stands)

pub returns-in-Err-clause-ends : goal.returns-in-Err-clause-ends
returns-in-Err-clause-ends g c = λ x stands.
    let out_new = g.S.Sink.state c.start_and_tell.new.out in
    let wire_new = (g.W.Wire.state c.start_and_tell.new.wire).history in
    not_started_so _
    (λ (between : SinkState) (started : WireHistory). RunsMachine served_step server_counts x endless c.in-Err.status between out_new started wire_new)
    c.in-Err.status (g.S.Sink.state c.args.out.now) out_new (g.W.Wire.state c.args.wire.now).history wire_new c.in-Err.ensures.err
