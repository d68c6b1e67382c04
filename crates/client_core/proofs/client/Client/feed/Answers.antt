use Rattle.client_core.proofs.HistoryLemmas.{fed_all}
use Rattle.client_core.proofs.client.Client.feed.Goals as goal

pub returns-clause-stands : goal.returns-clause-stands
returns-clause-stands c = fed_all c.args.self.now _ c.self.view_is c.feed.new.self c.args.piece.now c.feed.result c.feed.ensures.ok
