-- What a loop leads to beside which someone is told.
use Rattle.std.proofs.Common.{refl, ap}
use Rattle.serve_loop.specs.declared.loop_end.LoopEnd.TheVariants as loop
use Rattle.serve_loop.proofs.EndLemmas.{served_alone}
use Rattle.keep_loop.proofs.tells.serve_telling.Goals as goal

pub returns-clause-serve : goal.returns-clause-serve
returns-clause-serve g c =
    served_alone _ _ _ _ _ (g.W.Wire.state c.args.wire.now) (g.W.Wire.state c.serve_beside.new.wire) _ (λ (kept : Unit {0}) looks. Unit {0}) _
    c.in-Ended.ensures.serve

pub returns-clause-memory : goal.returns-clause-memory
returns-clause-memory g c = λ is. c.in-Ended.ensures.memory (ap loop.Ended is)

pub unreachable-requires : goal.unreachable-requires
unreachable-requires g c = (c.in-Stopped.ensures.stopped refl).stops
