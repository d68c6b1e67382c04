use Rattle.std.proofs.Common.{sym}
use Rattle.std.specs.Prelude.{◌==◌}
use Rattle.session.proofs.MeaningLemmas.{at_first, before_all}
use Rattle.session.proofs.meaning.up_to_nul.Goals as goal

pub returns-in-Some : goal.returns-in-Some
returns-in-Some c = at_first (λ x. x == 0) c.args.name.now c.in-Some.end (sym c.in-Some.ensures)

pub returns-in-None : goal.returns-in-None
returns-in-None c = before_all (λ x. x == 0) c.args.name.now (sym c.in-None.ensures)
