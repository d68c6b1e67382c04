use Rattle.std.proofs.Common.{◌≡◌, refl, sym, ap, ◌∙◌}
use Rattle.std.specs.Prelude.{Some, None}
use Rattle.ams_relay.specs.declared.peer.Peer.{Peer}
use Rattle.ams_relay.specs.Holds.{owner_in}
use Rattle.ams_relay.proofs.OwnLemmas.{value_at, owned_some, owned_already, owns_now}
use Rattle.ams_relay.proofs.OwnerLemmas.{some_same, none_of, owner_kept}
use Rattle.ams_relay.proofs.router.Router.own.Goals as goal

pub returns-then-is_some-clause-follows : goal.returns-then-is_some-clause-follows
returns-then-is_some-clause-follows c = λ b s k h heard free has.
    let r = c.args.self.now in
    let seat = c.args.from in
    let p = c.index.result.now in
    let value = value_at r.peers.items seat.place p c.requires.within c.index.ensures in
    let owned = owned_some p.owned (sym c.is_some.ensures ∙ c.if-is_some.true) in
    owned_already seat.number seat.place b c.args.net.bytes owned.0 k p r s h c.requires.entry value heard owned.1 free

pub returns-clause-follows : goal.returns-clause-follows
returns-clause-follows c = λ b s k h heard free has.
    let old = c.args.self.now in
    let seat = c.args.from in
    let net = c.args.net in
    let p = c.index_mut.result.now in
    let first = value_at old.peers.items seat.place c.index.result.now c.requires.within c.index.ensures in
    let value = value_at old.peers.items seat.place p c.requires.within c.index_mut.ensures.value in
    let same = some_same c.index.result.now p (sym first ∙ value) in
    let nothing : p.owned ≡ None = sym (ap (λ (x : Peer). x.owned) same) ∙ none_of c.index.result.now.owned (sym c.is_some.ensures ∙ c.if-is_some.false) in
    let key = c.in_ok-key.ensures.items_if_clones_equal (λ x y e. e) in
    let os = old.owners.entries in
    let ps = c.insert.new.self.entries in
    let now : owner_in net.bytes ps ≡ Some seat.number = ap (λ x. owner_in x ps) (sym key) ∙ c.in_ok-insert.ensures.updates.1 in
    owns_now seat.number seat.place b net k p (record p { owned = Some net }) old _ s h c.requires.entry value heard nothing free has refl refl
    refl refl refl refl now (λ other ne. owner_kept c.in_ok-key.key.items os ps c.in_ok-insert.ensures.updates.3 other (λ e. ne (e ∙ key)))
