use Rattle.std.proofs.Common.{◌<◌, ◌^◌, ◌∙◌, rules}
use Rattle.ads_commands.specs.Reply.{facts_meant}
use Rattle.session.proofs.RunLemmas.{ok-then, info-runs}
use Rattle.session.proofs.session.Session.info.Goals as goal

pub returns-clause-runs : goal.returns-clause-runs
returns-clause-runs c =
    let build : c.facts-facts.result.build < 2 ^ 16 = search rules in
    ok-then c.put_reply.result _ _ (λ put a h.
    info-runs a c.args.port.now c.args.self.now (facts_meant c.facts-facts.result) _ _ h c.facts-facts.ensures build put)
    c.put_reply.ensures.ok
