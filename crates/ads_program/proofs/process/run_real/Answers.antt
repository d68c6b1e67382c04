use Rattle.std.proofs.Common.{inl, inr}
use Rattle.ads_program.proofs.process.run_real.Goals as goal

pub returns-in-Ok-clause-ends : goal.returns-in-Ok-clause-ends
returns-in-Ok-clause-ends g c = inr (c.in-Ok.outside, c.run_over.new.outside, c.run_over.ensures.ends)

pub returns-in-Err-clause-ends : goal.returns-in-Err-clause-ends
returns-in-Err-clause-ends g c = inl (c.end_without_memory.ensures.memory, c.end_without_memory.ensures.line)
