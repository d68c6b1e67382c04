use Rattle.std.proofs.Common.{refl}
use Rattle.ams_relay.proofs.EndLemmas.{opens}
use Rattle.ams_relay.proofs.router.Router.open.Goals as goal

pub returns-clause-follows : goal.returns-clause-follows
returns-clause-follows c = λ b s h is_new.
    opens c.args.number b c.fresh.result c.args.self.now _ s h is_new c.requires c.fresh.ensures.owned c.fresh.ensures.asked refl refl
    c.in_ok-open.ensures.ok c.in_ok-push.ensures.items c.count_connection.ensures
