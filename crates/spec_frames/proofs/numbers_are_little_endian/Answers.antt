use Rattle.spec_frames.proofs.NumberLemmas.{writes_back}
use Rattle.spec_frames.proofs.numbers_are_little_endian.Goals as goal

pub returns-clause-written_back : goal.returns-clause-written_back
returns-clause-written_back c = writes_back
