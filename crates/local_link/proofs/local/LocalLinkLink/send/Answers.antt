use Rattle.std.proofs.Common.{sym, ap, ◌∙◌}
use Rattle.local_link.specs.Link.{LocalView}
use Rattle.local_link.proofs.Tells.{told_more}
use Rattle.local_link.proofs.local.LocalLinkLink.send.Goals as goal

pub returns-in-Ok-clause-told : goal.returns-in-Ok-clause-told
returns-in-Ok-clause-told g c = λ o log told.
    told_more c.args.self.now _ o log _ (ap (λ (l : LocalView). l.wanting) (sym c.self.view_is) ∙ c.if-self.false) c.in-Ok.ensures.follows told
