use Rattle.std.proofs.Common.{length, refl, sym, ap, ◌∙◌, subst}
use Rattle.std.specs.Map.{keys_of}
use Rattle.spec_machine.specs.Connection.{with_closing}
use Rattle.spec_relay.specs.Routing.{at_connection}
use Rattle.connections.specs.Carries.{Carries}
use Rattle.connections.specs.Outlets.{closed}
use Rattle.connections.proofs.OutletLemmas.{keys_changed}
use Rattle.ams_relay.specs.Peers.{places_of}
use Rattle.ams_relay.proofs.CarryLemmas.{carry_closed}
use Rattle.ams_relay.proofs.EndLemmas.{closed_already, closes_at}
use Rattle.ams_relay.proofs.OwnLemmas.{value_at}
use Rattle.ams_relay.proofs.router.Router.close.Goals as goal

pub returns-then-is_closing-clause-follows : goal.returns-then-is_closing-clause-follows
returns-then-is_closing-clause-follows c = λ b s h.
    closed_already c.args.at.number c.args.at.place b c.args.self.now s h c.requires.entry (sym c.is_closing.ensures ∙ c.if-is_closing.true)

pub returns-clause-follows : goal.returns-clause-follows
returns-clause-follows c = λ b s h.
    let old = c.args.self.now in
    let seat = c.args.at in
    let p = c.index.result.now in
    let mid = record old { outlets = c.close.new.self } in
    let value = value_at old.peers.items seat.place p c.requires.within c.index.ensures in
    closes_at seat.number seat.place b p old mid c.disown.new.self s h c.requires.entry value (sym c.is_closing.ensures ∙ c.if-is_closing.false) refl
    (ap keys_of c.close.ensures ∙ keys_changed closed old.outlets seat.place)
    (subst (λ es. Carries es b (at_connection seat.number with_closing s).connections) (sym c.close.ensures)
    (carry_closed seat.number seat.place b old.outlets s c.requires.entry h.outlets)) c.disown.ensures

pub returns-clause-places : goal.returns-clause-places
returns-clause-places c =
    let old = c.args.self.now in
    ap places_of c.disown.ensures.same
    ∙ (λ j. ((ap keys_of c.close.ensures ∙ keys_changed closed old.outlets c.args.at.place) j, length old.peers.items))
