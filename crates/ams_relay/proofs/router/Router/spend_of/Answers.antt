use Rattle.std.proofs.Common.{refl, sym, ap, ◌∙◌}
use Rattle.ams_header.specs.Header.{ams_header_of}
use Rattle.spec_relay.specs.Requests.{is_answered_by}
use Rattle.ams_relay.specs.declared.asked.Asked.{Asked}
use Rattle.ams_relay.specs.declared.peer.Peer.{Peer}
use Rattle.ams_relay.specs.Asking.{request_of}
use Rattle.ams_relay.proofs.OwnLemmas.{value_at, peer_at}
use Rattle.ams_relay.proofs.OwnerLemmas.{some_same}
use Rattle.ams_relay.proofs.SpendLemmas.{position_in, place_within, none_waits, spends}
use Rattle.ams_relay.proofs.router.Router.spend_of.Goals as goal

pub returns-in_default-clause-spends : goal.returns-in_default-clause-spends
returns-in_default-clause-spends c = λ b s k h heard swept owned.
    let old = c.args.self.now in
    let seat = c.args.asker in
    let p = c.index.result.now in
    let value = value_at old.peers.items seat.place p c.requires.within c.index.ensures in
    record {
      none = none_waits old b s h swept c.args.conn k heard (ams_header_of c.args.h.now)
          seat.number owned p (peer_at seat.number seat.place b p old s h c.requires.entry value) (sym c.answered_at.ensures ∙ c.in_default.is);
      holds = h;
    }

pub returns-clause-spends : goal.returns-clause-spends
returns-clause-spends c = λ b s k h heard swept owned.
    let old = c.args.self.now in
    let seat = c.args.asker in
    let p = c.index_mut.result.now in
    let first = value_at old.peers.items seat.place c.index.result.now c.requires.within c.index.ensures in
    let value = value_at old.peers.items seat.place p c.requires.within c.index_mut.ensures.value in
    let same = some_same c.index.result.now p (sym first ∙ value) in
    let at = ap (λ (x : Peer). position_in (ams_header_of c.args.h.now) c.args.conn x.asked.items) (sym same) ∙ sym c.answered_at.ensures ∙ c.in-Some.is in
    let within = place_within (λ (a : Asked). is_answered_by c.args.conn (ams_header_of c.args.h.now) (request_of 0 a)) p.asked.items c.in-Some.at at in
    spends old b s h swept c.args.conn k heard (ams_header_of c.args.h.now) seat.number owned seat.place _ p (record p { asked = c.take_at.new.asked })
    c.in-Some.at c.requires.entry value refl refl refl refl refl refl (c.take_at.ensures within) at
