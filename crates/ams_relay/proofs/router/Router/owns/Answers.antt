use Rattle.std.proofs.Common.{sym, ◌∙◌}
use Rattle.ams_relay.proofs.OwnLemmas.{value_at, owned_is}
use Rattle.ams_relay.proofs.router.Router.owns.Goals as goal

pub returns : goal.returns
returns c = λ b s k h heard same.
    let r = c.args.self.now in
    let seat = c.args.from in
    let p = c.index.result.now in
    let value = value_at r.peers.items seat.place p c.requires.within c.index.ensures in
    sym (owned_is seat.number seat.place b k p r s h c.requires.entry value heard) ∙ c.owns.ensures same
