use Rattle.ams_relay.proofs.OwnLemmas.{owner_seated}
use Rattle.std.proofs.Common.{sym, ◌∙◌}
use Rattle.ams_relay.proofs.router.Router.owner_of.Goals as goal

pub returns-in_default-place_of-clause-entry : goal.returns-in_default-place_of-clause-entry
returns-in_default-place_of-clause-entry c = λ b s h. absurd
    (owner_seated c.args.net.bytes c.in-Some.number b c.args.self.now s h (sym c.owner_number.ensures ∙ c.in-Some.is) c.in_default-place_of.ensures.absent)
