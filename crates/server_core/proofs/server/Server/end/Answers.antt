use Rattle.std.proofs.Common.{refl, ap, ◌∙◌}
use Rattle.connections.specs.Outlets.{Outlets}
use Rattle.connections.proofs.OutletLemmas.{without_none}
use Rattle.server_core.specs.ServerView.{sessions_of, view_of}
use Rattle.server_core.proofs.PieceLemmas.{session_removed}
use Rattle.server_core.proofs.ServeLemmas.{ended_follows, ended_absent}
use Rattle.server_core.proofs.server.Server.end.Goals as goal

pub returns-in-Some-clause-follows : goal.returns-in-Some-clause-follows
returns-in-Some-clause-follows c = λ waves x s.
    let i = c.in-Some.i in
    ended_follows (view_of c.args.self.now) _ waves x c.args.connection i s c.in-Some.ensures.found refl refl c.in-Some.ensures.gone
    c.remove_at.ensures (ap sessions_of c.remove_at-in-Some.ensures ∙ session_removed c.args.self.now.clients.sessions.items i)

pub returns-in_default-clause-follows : goal.returns-in_default-clause-follows
returns-in_default-clause-follows c = λ waves x s.
    let v = view_of c.args.self.now in
    let n = c.args.connection in
    let same = c.in_default.ensures.gone ∙ without_none v.outlets n c.in_default.ensures.absent in
    ended_absent v _ waves x n s c.in_default.ensures.absent (ap (λ (es : Outlets). record v { outlets = es }) same)
