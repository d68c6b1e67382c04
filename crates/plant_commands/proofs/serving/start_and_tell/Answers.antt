-- The wire was started and that is told, or not.
use Rattle.std.proofs.Common.{inl, inr}
use Rattle.plant_commands.proofs.MachineLemmas.{start_failed, not_told}
use Rattle.plant_commands.proofs.serving.start_and_tell.Goals as goal

pub returns-in-Ok-clause-ok : goal.returns-in-Ok-clause-ok
returns-in-Ok-clause-ok g c = record { ready = c.in-Ready.ensures.starts; told = c.in-Ok.ensures.ok }

pub returns-in-Err-clause-err : goal.returns-in-Err-clause-err
returns-in-Err-clause-err g c =
    not_told _ c.in-Err.status (g.S.Sink.state c.args.out.now) (g.S.Sink.state c.tell_listening.new.out)
    (g.W.Wire.state c.args.wire.now).history (g.W.Wire.state c.start.new.self).history c.in-Ready.ensures.starts c.in-Err.ensures.err

pub returns-in-Failed-clause-err : goal.returns-in-Failed-clause-err
returns-in-Failed-clause-err g c =
    start_failed _ c.print_and_end.result (g.S.Sink.state c.args.out.now) (g.S.Sink.state c.print_and_end.new.out)
    (g.W.Wire.state c.args.wire.now) (g.W.Wire.state c.start.new.self) c.in-Failed.ensures.starts c.print_and_end.ensures

pub returns-in-Memory-clause-err : goal.returns-in-Memory-clause-err
returns-in-Memory-clause-err g c =
    inl (inr (c.in-Memory.ensures.starts.same, c.end_without_memory.ensures.memory, c.end_without_memory.ensures.line))
