use Rattle.std.proofs.Common.{sym, subst}
use Rattle.session.specs.Runs.{AsksSession}
use Rattle.session.specs.SessionState.{SessionState}
use Rattle.session.proofs.RunLemmas.{ok-then, asks-of, read-runs}
use Rattle.session.proofs.session.Session.read.Goals as goal

pub returns-clause-runs : goal.returns-clause-runs
returns-clause-runs c =
    let asked = c.args.asked.now in
    ok-then c.read_reply.result _ _ (λ said a h.
    let S : SessionState → Type 0 = λ s. AsksSession a c.args.port.now s in
    read-runs a asked.group asked.offset asked.len c.args.port.now c.args.self.now _ _ h (said a (asks-of a _ _ (subst S (sym c.self.view_is) h))))
    c.read_reply.ensures.reply
