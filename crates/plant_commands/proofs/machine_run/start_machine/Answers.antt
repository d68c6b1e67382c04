-- The wire was started and that is told, or not.
use Rattle.ads_outside.specs.SinkState.{SinkState}
use Rattle.ads_outside.specs.WireState.{WireHistory}
use Rattle.plant_commands.specs.Machine.{RunsMachine}
use Rattle.plant_commands.proofs.MachineLemmas.{started_so, not_started_so}
use Rattle.plant_commands.proofs.machine_run.start_machine.Goals as goal

pub returns-in-Ok-clause-ends : goal.returns-in-Ok-clause-ends
returns-in-Ok-clause-ends g c = λ counts tells x stands.
    let out_new = g.S.Sink.state c.run_machine.new.out in
    let wire_new = (g.W.Wire.state c.run_machine.new.wire).history in
    started_so _
    (λ (between : SinkState) (started : WireHistory). RunsMachine g.M.Served.steps
    counts x c.args.events c.run_machine.result between out_new started wire_new)
    c.run_machine.result (g.S.Sink.state c.args.out.now) (g.S.Sink.state c.start_and_tell.new.out) out_new
    (g.W.Wire.state c.args.wire.now).history (g.W.Wire.state c.start_and_tell.new.wire).history wire_new
    c.in-Ok.ensures.ok (c.run_machine.ensures.ends counts tells x stands)

pub returns-in-Err-clause-ends : goal.returns-in-Err-clause-ends
returns-in-Err-clause-ends g c = λ counts tells x stands.
    let out_new = g.S.Sink.state c.start_and_tell.new.out in
    let wire_new = (g.W.Wire.state c.start_and_tell.new.wire).history in
    not_started_so _
    (λ (between : SinkState) (started : WireHistory).
    RunsMachine g.M.Served.steps counts x c.args.events c.in-Err.status between out_new started wire_new)
    c.in-Err.status (g.S.Sink.state c.args.out.now) out_new (g.W.Wire.state c.args.wire.now).history wire_new c.in-Err.ensures.err
