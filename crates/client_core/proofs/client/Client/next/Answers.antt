use Rattle.client_core.proofs.HistoryLemmas.{next_ok, next_err}
use Rattle.client_core.proofs.PromiseLemmas.{promised}
use Rattle.client_core.proofs.client.Client.next.Goals as goal

pub returns-clause-stands : goal.returns-clause-stands
returns-clause-stands c = next_ok c.args.self.now c.hear.new.self c.hear.result c.hear.ensures

pub returns-clause-no_memory : goal.returns-clause-no_memory
returns-clause-no_memory c = next_err c.args.self.now c.hear.new.self c.hear.result c.hear.ensures

pub returns-clause-promised : goal.returns-clause-promised
returns-clause-promised c = promised c.args.self.now c.hear.new.self c.hear.result c.hear.ensures
