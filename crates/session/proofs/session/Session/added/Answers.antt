use Rattle.session.proofs.RunLemmas.{if_ok-then, asks-of, notes-of}
use Rattle.session.proofs.session.Session.added.Goals as goal

pub returns-clause-adds : goal.returns-clause-adds
returns-clause-adds c =
    rw (← c.self.view_is)
    (if_ok-then c.add.result _ _ (λ answer said a delay h address. said a delay (asks-of a _ _ h) (notes-of a _ _ h) address) c.add.ensures.adds)
