use Rattle.std.proofs.Common.{◌∙◌}
use Rattle.connections.proofs.DueLemmas.{no_number_due}
use Rattle.connections.proofs.outlets.Outlets.due.Goals as goal

pub returns-in-Nothing : goal.returns-in-Nothing
returns-in-Nothing c =
    c.clear.ensures.items ∙ no_number_due c.self.inside.touched c.self.inside.entries.entries c.args.self.now c.self.view_is c.self.invariant c.in-Nothing.is
