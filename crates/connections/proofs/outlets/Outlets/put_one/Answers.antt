use Rattle.connections.proofs.DueLemmas.{one_put}
use Rattle.connections.proofs.outlets.Outlets.put_one.Goals as goal

pub returns : goal.returns
returns c =
    one_put c.put_due.result c.args.self.now c.args.a c.args.numbers.now.items c.put_due.new.numbers.items c.requires.idle c.requires.none c.put_due.ensures
