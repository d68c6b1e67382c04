use Rattle.std.proofs.Common.{◌∙◌, sym}
use Rattle.std.proofs.lemmas.Bool.{ne_eqb}
use Rattle.port_device.proofs.ReloadLemmas.{two_sizes}
use Rattle.port_device.proofs.kept.have_same_type.Goals as goal

pub returns-else-old-new-clause-same : goal.returns-else-old-new-clause-same
returns-else-old-new-clause-same c = λ before types compared a b.
    ne_eqb c.args.old.now.len c.args.new.now.len c.if-old-new.false ∙ sym (two_sizes before types c.args.old.now c.args.new.now a b c.if-old-new.false)
