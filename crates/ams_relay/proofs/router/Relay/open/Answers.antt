use Rattle.ams_relay.proofs.EndLemmas.{opened_again}
use Rattle.ams_relay.proofs.router.Relay.open.Goals as goal

pub returns-in-Some-clause-follows : goal.returns-in-Some-clause-follows
returns-in-Some-clause-follows c = λ b s h is_new.
    absurd (opened_again c.args.number c.in-Some.field-0 b c.args.self.now.router s h.holds c.in-Some.ensures.found is_new)
