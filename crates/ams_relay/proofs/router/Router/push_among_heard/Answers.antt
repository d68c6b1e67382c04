use Rattle.std.proofs.Common.{◌++◌, ◌∷◌, [], List, sym, ap, refl, inr, ◌∙◌}
use Rattle.std.specs.Prelude.{filter}
use Rattle.ams_header.specs.Header.{ams_header_of}
use Rattle.spec_relay.specs.RelayState.{Request}
use Rattle.ams_relay.specs.declared.asked.Asked.{Asked}
use Rattle.ams_relay.specs.declared.peer.Peer.{Peer}
use Rattle.ams_relay.specs.Asking.{with_room}
use Rattle.ams_relay.specs.Taking.{is_asked_heard}
use Rattle.ams_relay.proofs.OwnLemmas.{value_at}
use Rattle.ams_relay.proofs.OwnerLemmas.{some_same}
use Rattle.ams_relay.proofs.RememberLemmas.{remembers}
use Rattle.ams_relay.proofs.router.Router.push_among_heard.Goals as goal

pub returns-clause-follows : goal.returns-clause-follows
returns-clause-follows c = λ b s k h heard swept client opened asks.
    let old = c.args.self.now in
    let seat = c.args.from in
    let p = c.index_mut.result.now in
    let first = value_at old.peers.items seat.place c.index.result.now c.requires.within c.index.ensures in
    let value = value_at old.peers.items seat.place p c.requires.within c.index_mut.ensures.value in
    let same = some_same c.index.result.now p (sym first ∙ value) in
    let q : Peer = record p { asked = c.push_back.new.self } in
    let a = c.asked_by.result in
    let left : List Asked = with_room (filter (is_asked_heard old.outlets) p.asked.items) in
    let is = c.drop_oldest.ensures ∙ ap with_room (c.in_ok-kept.ensures ∙ ap (λ (x : Peer). filter (is_asked_heard old.outlets) x.asked.items) same) in
    remembers seat.place old _ b s seat.number c.args.target k (ams_header_of c.args.h.now) p q left a
    h swept heard opened client asks c.requires.entry value refl refl refl refl refl refl
    (c.in_ok-push_back.ensures.items ∙ ap (λ (xs : List Asked). xs ++ a ∷ []) is) (c.asked_by.ensures seat.number)
    (ap (λ (r : Request). r.asked) (c.asked_by.ensures seat.number)) (ap (λ (r : Request). r.source.net) (c.asked_by.ensures seat.number))
    (inr refl)
