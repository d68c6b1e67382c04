use Rattle.session.proofs.RunLemmas.{ok-then, control-runs}
use Rattle.session.proofs.session.Session.control.Goals as goal

pub returns-clause-runs : goal.returns-clause-runs
returns-clause-runs c = ok-then c.put_reply.result _ _ (λ put a source bytes h from.
    control-runs a c.args.ads c.args.device c.number_in.result bytes c.control-answer.result c.args.port.now _ c.args.self.now _ _ h
    (c.control-answer.ensures.answer a.world a.asker h.held from.rights_are) c.number_in.ensures put)
    c.put_reply.ensures.ok
