use Rattle.std.proofs.Common.{◌<◌, ◌^◌, rules}
use Rattle.session.proofs.RunLemmas.{ok-then}
use Rattle.session.proofs.PlainLemmas.{state-whole}
use Rattle.session.proofs.session.Session.state_whole.Goals as goal

pub returns-clause-whole : goal.returns-clause-whole
returns-clause-whole c =
    let ads : c.state-ads.result.0 < 2 ^ 16 = search rules in
    let device : c.state-ads.result.1 < 2 ^ 16 = search rules in
    ok-then c.put_answer.result _ _ (λ said a h is asks.
    state-whole a h c.args.port.now c.args.self.now c.state-ads.result.0 c.state-ads.result.1 c.state_payload.result c.args.out.now c.put_answer.new.out asks
    c.state-ads.ensures.ads c.state-ads.ensures.device ads device c.state_payload.ensures (said h is))
    c.put_answer.ensures.frame
