use Rattle.std.proofs.Common.{ℕ, sym, ap, subst, List}
use Rattle.std.specs.Prelude.{set}
use Rattle.ads_outside.specs.declared.event.Event.TheVariants as event
use Rattle.spec_relay.specs.RelayMoves.{relay_after_event}
use Rattle.connections.specs.Carries.{IsStreamOf}
use Rattle.ams_relay.specs.Holds.{AreBeside, Holds}
use Rattle.ams_relay.specs.Relays.{StandsFor}
use Rattle.ams_relay.proofs.OwnLemmas.{value_at}
use Rattle.ams_relay.proofs.PromiseLemmas.{on_ok}
use Rattle.ams_relay.proofs.TakingLemmas.{piece_unheard, piece_taken}
use Rattle.ams_relay.proofs.router.Relay.piece.Goals as goal

pub returns-in_default-clause-follows : goal.returns-in_default-clause-follows
returns-in_default-clause-follows c = λ b s h.
    subst (StandsFor c.args.self.now b) (sym (piece_unheard c.args.number c.args.bytes.now s (c.in_default.ensures.absent b s h))) h

pub returns-clause-follows : goal.returns-clause-follows
returns-clause-follows c = on_ok c.take_fed.result (λ takes b s h.
    let old = c.args.self.now in
    let found = c.in-Some.ensures.found in
    let seat = c.in-Some.from in
    let bytes = c.args.bytes.now in
    let held = c.index_mut.result.now in
    let value = value_at old.streams.items seat.place held found.stream c.index_mut.ensures.value in
    let both = piece_taken seat.number seat.place bytes b held c.take_fed.new.stream old.router c.take_fed.new.self old.streams.items s h.holds h.streams
    found.seat.entry found.open_ value (ap (λ (x : List ℕ × ℕ). x.0) c.take_fed.ensures.places) (takes b s) in
    record {
      holds = subst (λ m. Holds c.take_fed.new.self b (relay_after_event s (event.Piece m bytes))) found.number both.0;
      streams = subst (λ m. AreBeside IsStreamOf c.take_fed.new.self.outlets (set old.streams.items seat.place c.take_fed.new.stream)
          (relay_after_event s (event.Piece m bytes)).connections) found.number both.1;
    })
    c.take_fed.ensures.takes
