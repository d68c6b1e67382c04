-- The net is the one that was read.
use Rattle.daemon_words.proofs.TextLemmas.{on_ok}
use Rattle.daemon_words.proofs.given.Given.put_net.Goals as goal

pub returns-in-Some : goal.returns-in-Some
returns-in-Some c = on_ok c.add_net.result (λ is. (c.in-Some.net, is)) c.add_net.ensures
