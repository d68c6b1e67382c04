use Rattle.std.proofs.Common.{◌∙◌, sym, subst}
use Rattle.server_core.specs.ServerView.{view_of}
use Rattle.server_core.specs.Serves.{CoreView, Serves}
use Rattle.connections.proofs.ReadLemmas.{due_are}
use Rattle.server_core.proofs.event_core.Core.due.Goals as goal

pub returns-in-Ok-clause-due : goal.returns-in-Ok-clause-due
returns-in-Ok-clause-due g c = λ x s.
    let here = subst (λ (v : CoreView). Serves v x) (sym c.self.view_is) s in
    c.in-Ok.ensures ∙ due_are (view_of c.self.inside.server).outlets x here.server.outlets
