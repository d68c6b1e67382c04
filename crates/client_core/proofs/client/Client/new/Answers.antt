use Rattle.client_core.proofs.HistoryLemmas.{new_stands}
use Rattle.client_core.proofs.client.Client.new.Goals as goal

pub returns : goal.returns
returns c = new_stands _ _ c.in_ok-splitter.splitter c.new-2.result.items c.new-3.result.items
    c.in_ok-splitter.ensures.nothing c.new-2.ensures.items c.new-3.ensures.items
