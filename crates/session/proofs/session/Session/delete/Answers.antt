use Rattle.std.proofs.Common.{sym, subst, ◌∙◌}
use Rattle.session.specs.Runs.{AsksSession}
use Rattle.session.specs.SessionState.{SessionState}
use Rattle.session.proofs.LookLemmas.{port-number}
use Rattle.session.proofs.RunLemmas.{ok-then, notes-of, deleted-runs}
use Rattle.session.proofs.session.Session.delete.Goals as goal

pub returns-clause-runs : goal.returns-clause-runs
returns-clause-runs c = ok-then c.put_reply.result _ _ (λ put a port number h.
    let S : SessionState → Type 0 = λ s. AsksSession a port s in
    let own = subst S (sym c.self.view_is) h in
    deleted-runs a c.args.handle c.number_in.result c.delete-answer.result port _ _ _ _ own
    (c.delete-answer.ensures a (notes-of a _ _ own) (number ∙ port-number a.world a.asker.port port own.held)) c.number_in.ensures put)
    c.put_reply.ensures.ok
