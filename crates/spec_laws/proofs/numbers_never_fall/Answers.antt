use Rattle.spec_laws.proofs.Numbers.{numbers_never_fall}
use Rattle.spec_laws.proofs.numbers_never_fall.Goals as goal

pub returns : goal.returns
returns c = numbers_never_fall
