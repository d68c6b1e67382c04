-- `listening` was put, or not.
use Rattle.std.proofs.Common.{refl, inl, inr}
use Rattle.plant_commands.proofs.serving.tell_listening.Goals as goal

pub returns-in-All-clause-ok : goal.returns-in-All-clause-ok
returns-in-All-clause-ok g c = record { listening = c.in-All.ensures.put; later = c.in-All.ensures.later }

pub returns-in-Failed-clause-err : goal.returns-in-Failed-clause-err
returns-in-Failed-clause-err g c = inl (refl, c.in-Failed.ensures.put)

pub returns-in-Memory-clause-err : goal.returns-in-Memory-clause-err
returns-in-Memory-clause-err g c = inr (
  c.end_without_memory.ensures.memory,
  (g.S.Sink.state c.put.new.self, c.in-Memory.ensures.put, c.in-Memory.ensures.later, c.end_without_memory.ensures.line),
)
