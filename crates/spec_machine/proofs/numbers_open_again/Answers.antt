use Rattle.spec_machine.proofs.OpenedAgain.{numbers_open_again}
use Rattle.spec_machine.proofs.numbers_open_again.Goals as goal

pub returns : goal.returns
returns g c = numbers_open_again _ _
