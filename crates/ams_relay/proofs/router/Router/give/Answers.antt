use Rattle.std.proofs.Common.{◌≡◌, List, ℕ, ◌++◌, length, refl, sym, ap, ◌∙◌}
use Rattle.std.specs.Map.{keys_of}
use Rattle.spec_frames.specs.Frame.{frame_bytes}
use Rattle.connections.specs.Outlets.{change_at, given, is_fitting, test_in, outlet_at}
use Rattle.connections.proofs.OutletLemmas.{keys_changed}
use Rattle.ams_relay.specs.Peers.{places_of}
use Rattle.ams_relay.proofs.GiveLemmas.{given_closing, given_fits, given_over, room_fits}
use Rattle.ams_relay.proofs.OwnLemmas.{value_at}
use Rattle.ams_relay.proofs.router.Router.give.Goals as goal

pub returns-then-is_closing-clause-follows : goal.returns-then-is_closing-clause-follows
returns-then-is_closing-clause-follows c = λ b s h.
    given_closing c.args.to.number c.args.to.place c.args.packet.now b c.args.self.now s h c.requires.seat.entry
    (sym c.is_closing.ensures ∙ c.if-is_closing.true)

pub returns-then-fitted-clause-follows : goal.returns-then-fitted-clause-follows
returns-then-fitted-clause-follows c = λ b s h.
    let old = c.args.self.now in
    let seat = c.args.to in
    let packet = c.args.packet.now in
    let frame : c.frame_header-header.result ++ packet ≡ frame_bytes packet = ap (λ (x : List ℕ). x ++ packet) c.frame_header-header.ensures in
    let fitted = c.in_ok-fitted.ensures.fitted ∙ ap (λ (f : List ℕ). test_in (is_fitting f) (outlet_at old.outlets seat.place)) frame in
    let given_to = c.in_ok-fitted.ensures.given ∙ ap (λ (f : List ℕ). change_at (given f) seat.place old.outlets) frame in (
      sym c.if-fitted.true ∙ fitted ∙ room_fits seat.number seat.place packet b old s h c.requires.seat.entry,
      given_fits seat.number seat.place packet b c.give_parts.new.self old c.note_near.new.self s h c.requires.seat.entry (sym fitted ∙ c.if-fitted.true)
          c.note_near.ensures given_to,
    )

pub returns-then-fitted-clause-places : goal.returns-then-fitted-clause-places
returns-then-fitted-clause-places c =
    let old = c.args.self.now in
    let numbers = ap keys_of c.in_ok-fitted.ensures.given
    ∙ keys_changed (given (c.frame_header-header.result ++ c.args.packet.now)) old.outlets c.args.to.place in
    ap places_of c.note_near.ensures ∙ (λ j. (numbers j, length old.peers.items))

pub returns-clause-follows : goal.returns-clause-follows
returns-clause-follows c = λ b s h.
    let old = c.args.self.now in
    let seat = c.args.to in
    let packet = c.args.packet.now in
    let p = c.index.result.now in
    let frame : c.frame_header-header.result ++ packet ≡ frame_bytes packet = ap (λ (x : List ℕ). x ++ packet) c.frame_header-header.ensures in
    let fitted = c.in_ok-fitted.ensures.fitted ∙ ap (λ (f : List ℕ). test_in (is_fitting f) (outlet_at old.outlets seat.place)) frame in
    let given_to = c.in_ok-fitted.ensures.given ∙ ap (λ (f : List ℕ). change_at (given f) seat.place old.outlets) frame in
    let mid = record old { outlets = c.give_parts.new.self } in
    let value = value_at old.peers.items seat.place p c.requires.seat.within c.index.ensures in (
      sym c.if-fitted.false ∙ fitted ∙ room_fits seat.number seat.place packet b old s h c.requires.seat.entry,
      given_over seat.number seat.place packet b p old mid c.disown.new.self s h c.requires.seat.entry value (sym c.is_closing.ensures ∙ c.if-is_closing.false)
          (sym fitted ∙ c.if-fitted.false) refl given_to c.disown.ensures,
    )

pub returns-clause-places : goal.returns-clause-places
returns-clause-places c =
    let old = c.args.self.now in
    let numbers = ap keys_of c.in_ok-fitted.ensures.given
    ∙ keys_changed (given (c.frame_header-header.result ++ c.args.packet.now)) old.outlets c.args.to.place in
    ap places_of c.disown.ensures.same ∙ (λ j. (numbers j, length old.peers.items))
