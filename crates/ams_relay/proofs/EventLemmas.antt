-- What a relay keeps stands for the machine after an event.
use Rattle.std.proofs.Common.{◌≡◌, ℕ, List, sym, subst}
use Rattle.ads_outside.specs.declared.event.Event.{Event}
use Rattle.ads_outside.specs.declared.event.Event.TheVariants as event
use Rattle.ads_outside.specs.declared.moves.Move.TheVariants as move
use Rattle.spec_machine.specs.Connection.{connection_of}
use Rattle.spec_machine.specs.MachineState.{after_exchange}
use Rattle.spec_machine.specs.Moves.{with_gone, state_after_move}
use Rattle.spec_machine.specs.Offers.{blocked_after_move}
use Rattle.spec_relay.specs.RelayState.{RelayState}
use Rattle.spec_relay.specs.RelayMoves.{relay_after_event}
use Rattle.connections.specs.Outlets.{Outlets}
use Rattle.ams_relay.specs.declared.router.Relay.{Relay}
use Rattle.ams_relay.specs.Relays.{RelayRunning, StandsFor}

-- outlets that are settled are the same
pub settled : (old : Relay) (es : Outlets) (b : List ℕ) (s : RelayState) → es ≡ old.router.outlets → StandsFor old b s
    → StandsFor (record old { router = record old.router { outlets = es } }) b s
settled old es b s same h = subst (λ fs. StandsFor (record old { router = record old.router { outlets = fs } }) b s) (sym same) h

-- an event was taken
abbrev pub Taken : Relay → RelayRunning → Event → Type 0
Taken new x e = StandsFor new (blocked_after_move x.blocked (move.Event e)) (state_after_move relay_after_event x.state (move.Event e))

pub opened_taken : (new : Relay) (x : RelayRunning) (n : ℕ)
    → StandsFor new x.blocked (relay_after_event x.state (event.Opened n)) → Taken new x (event.Opened n)
unfolding state_after_move
opened_taken new x n h = h

pub piece_done : (new : Relay) (x : RelayRunning) (n : ℕ) (bytes : List ℕ)
    → StandsFor new x.blocked (relay_after_event x.state (event.Piece n bytes)) → Taken new x (event.Piece n bytes)
unfolding state_after_move
piece_done new x n bytes h = h

pub closed_taken : (new : Relay) (x : RelayRunning) (n : ℕ)
    → StandsFor new x.blocked (after_exchange (connection_of n x.state.connections) with_gone x.state) → Taken new x (event.Closed n)
unfolding state_after_move relay_after_event
closed_taken new x n h = h

pub writable_taken : (new : Relay) (x : RelayRunning) (n : ℕ)
    → StandsFor new (blocked_after_move x.blocked (move.Event (event.Writable n))) x.state → Taken new x (event.Writable n)
unfolding state_after_move relay_after_event
writable_taken new x n h = h

pub tick_taken : (new : Relay) (x : RelayRunning) (t : ℕ) → StandsFor new x.blocked x.state → Taken new x (event.Tick t)
unfolding state_after_move relay_after_event
tick_taken new x t h = h

pub reload_taken : (new : Relay) (x : RelayRunning) (bytes : List ℕ) → StandsFor new x.blocked x.state → Taken new x (event.Reload bytes)
unfolding state_after_move relay_after_event
reload_taken new x bytes h = h
