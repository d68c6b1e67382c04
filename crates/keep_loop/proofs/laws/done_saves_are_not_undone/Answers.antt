use Rattle.keep_loop.proofs.BegunLemmas.{done_later}
use Rattle.keep_loop.proofs.laws.done_saves_are_not_undone.Goals as goal

pub returns : goal.returns
returns c = λ standing one before later body may. done_later before later standing one body may
