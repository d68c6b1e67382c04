use Rattle.ads_program.proofs.process.run_over.Goals as goal

pub returns-clause-ends : goal.returns-clause-ends
returns-clause-ends g c = record {
  ends = c.run_program.ensures.ends;
  read_fault = c.run_program.ensures.read_fault;
}
