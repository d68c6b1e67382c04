use Rattle.std.proofs.Common.{sym, ap, ◌∙◌}
use Rattle.std.specs.Prelude.{is_some}
use Rattle.spec_relay.specs.RelayState.{owner_of}
use Rattle.ams_relay.specs.Peers.{net_of}
use Rattle.ams_relay.specs.Taking.{number_of}
use Rattle.ams_relay.proofs.OwnLemmas.{value_at, owned_is, taken_from_owned, taken_from_none, is_some-option_map}
use Rattle.ams_relay.proofs.OwnerLemmas.{owner_is}
use Rattle.ams_relay.proofs.router.Router.is_taken.Goals as goal

pub returns-in-Some : goal.returns-in-Some
returns-in-Some c = λ b s k h heard.
    let r = c.args.self.now in
    let seat = c.args.from in
    let p = c.index.result.now in
    let value = value_at r.peers.items seat.place p c.requires.within c.index.ensures in
    c.is_other.ensures ∙ taken_from_owned c.args.net.bytes c.in-Some.owned k s.connections
    (sym (ap net_of c.in-Some.is) ∙ owned_is seat.number seat.place b k p r s h c.requires.entry value heard)

pub returns-in-None : goal.returns-in-None
returns-in-None c = λ b s k h heard.
    let r = c.args.self.now in
    let seat = c.args.from in
    let p = c.index.result.now in
    let value = value_at r.peers.items seat.place p c.requires.within c.index.ensures in
    c.is_some.ensures
    ∙ ap is_some (c.owner_number.ensures ∙ owner_is c.args.net.bytes r.owners.entries s.connections h.outlets.apart h.known.owners)
    ∙ is_some-option_map number_of (owner_of c.args.net.bytes s.connections)
    ∙ taken_from_none c.args.net.bytes k s.connections
    (sym (ap net_of c.in-None.is) ∙ owned_is seat.number seat.place b k p r s h c.requires.entry value heard)
