-- An event was taken, and it was told what it came to.
use Rattle.serve_loop.proofs.turning.step_beside.Goals as goal

pub returns-clause-told : goal.returns-clause-told
returns-clause-told g c = record {
  came = _;
  is = c.in_ok-outcome.ensures.came;
  told = λ before old. c.came.ensures.told before (c.comes.ensures.told before old);
}
