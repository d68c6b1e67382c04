use Rattle.client_core.proofs.Verdicts.{no_six, six_told}
use Rattle.client_core.proofs.client.Client.break_off.Goals as goal

pub returns-in_default-clause-ok : goal.returns-in_default-clause-ok
returns-in_default-clause-ok c = λ client at. absurd (no_six c.args.self.now _ c.self.view_is c.broken.result c.in_default.is c.broken.ensures client at)

pub returns-clause-ok : goal.returns-clause-ok
returns-clause-ok c =
    six_told c.args.self.now _ c.self.view_is c.in-Some.six c.in_ok-copy.copy c.in_ok-kept.kept c.in_ok-copy.ensures c.in_ok-kept.ensures c.in-Some.ensures
