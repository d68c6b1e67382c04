-- A machine moves: six events, and what becomes of the bytes that it offers. How an event changes the
-- state is an argument, so that any machine over connections moves, is offered and is played alike.
use Rattle.std.specs.Prelude.{ℕ, ◌+◌, List, [], ◌∷◌, length, true, if◌then◌else◌}
use Rattle.ads_outside.specs.declared.event.Event.{Event}
use Rattle.ads_outside.specs.declared.moves.Move.{Move}
use Rattle.ads_outside.specs.declared.moves.Move.TheVariants as move
use Rattle.spec_machine.specs.Connection.{connection_of}
use Rattle.spec_machine.specs.MachineState.{MachineState, Exchange, after_exchange}

-- the state after an event
abbrev pub EventStep : (W C : Type 0) → Type 0
EventStep W C = MachineState W C → Event → MachineState W C

-- a connection is closed, lost or shut
abbrev pub with_gone : {W C : Type 0} → Exchange W C → Exchange W C
with_gone x = record x { connection = record x.connection { gone = true } }

-- so many more of the produced bytes are taken
abbrev pub with_took : {W C : Type 0} → ℕ → Exchange W C → Exchange W C
with_took n x =
    if x.connection.gone then x
    else record x { connection = record x.connection { bytes_taken = x.connection.bytes_taken + n } }

unfoldable pub state_after_move : {W C : Type 0} → EventStep W C → MachineState W C → Move
    → MachineState W C
state_after_move step s (move.Event e) = step s e
state_after_move step s (move.Took c offered bytes) =
    after_exchange (connection_of c s.connections) (with_took (length bytes)) s
state_after_move step s (move.Lost c) = after_exchange (connection_of c s.connections) with_gone s
state_after_move step s (move.Shut c) = after_exchange (connection_of c s.connections) with_gone s

-- a log is the moves in their order
unfoldable pub state_after : {W C : Type 0} → EventStep W C → MachineState W C → List Move
    → MachineState W C
state_after step s [] = s
state_after step s (m ∷ ms) = state_after step (state_after_move step s m) ms
