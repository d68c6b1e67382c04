use Rattle.std.proofs.Common.{ap, refl, inl}
use Rattle.ams_header.specs.Header.{ams_header_of}
use Rattle.spec_relay.specs.RelayState.{Request}
use Rattle.ams_relay.specs.declared.peer.Peer.{Peer}
use Rattle.ams_relay.proofs.OwnLemmas.{value_at}
use Rattle.ams_relay.proofs.RememberLemmas.{remembers}
use Rattle.ams_relay.proofs.router.Router.push_asked.Goals as goal

pub returns-clause-follows : goal.returns-clause-follows
returns-clause-follows c = λ b s k h heard swept client opened asks room.
    let old = c.args.self.now in
    let seat = c.args.from in
    let p = c.index_mut.result.now in
    let value = value_at old.peers.items seat.place p c.requires.within c.index_mut.ensures.value in
    let q : Peer = record p { asked = c.push_back.new.self } in
    let a = c.asked_by.result in
    remembers seat.place old _ b s seat.number c.args.target k (ams_header_of c.args.h.now) p q p.asked.items a
    h swept heard opened client asks c.requires.entry value refl refl refl refl refl refl
    c.in_ok-push_back.ensures.items (c.asked_by.ensures seat.number)
    (ap (λ (r : Request). r.asked) (c.asked_by.ensures seat.number)) (ap (λ (r : Request). r.source.net) (c.asked_by.ensures seat.number))
    (inl (room p value, refl))
