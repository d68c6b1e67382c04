use Rattle.connections.proofs.DueLemmas.{two_put}
use Rattle.connections.proofs.outlets.Outlets.put_ordered.Goals as goal

pub returns : goal.returns
returns c =
    two_put c.put_due-2.result c.args.self.now c.args.a c.args.b c.args.numbers.now.items c.put_due.new.numbers.items c.put_due-2.new.numbers.items
    c.requires.order c.requires.idle c.requires.none c.in_ok-put_due.ensures c.put_due-2.ensures
