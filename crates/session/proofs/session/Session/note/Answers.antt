use Rattle.session.proofs.RunLemmas.{ok-then, note-runs}
use Rattle.session.proofs.session.Session.note.Goals as goal

pub returns-clause-runs : goal.returns-clause-runs
returns-clause-runs c = ok-then c.put_reply.result _ _ (λ put a port bytes h. note-runs a port c.args.self.now bytes _ _ h put) c.put_reply.ensures.ok
