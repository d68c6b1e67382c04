-- The state of the machine: the device's world, the last moment, the reloads, the connections.
use Rattle.std.specs.Prelude.{ℕ, List, [], map, filter, not, Option, Some, None}
use Rattle.spec_machine.specs.Connection.{Connection, connection_of, put_back, bytes_of_all}

pub record MachineState (W C : Type 0) : Type 0 where
  pub world : W
  -- in 100 ns since 1 January 1601
  pub moment : ℕ
  -- the accepted and the refused reloads
  pub accepted : ℕ
  pub refused : ℕ
  -- in the order of their opening
  pub connections : List (Connection C)

-- a machine over a world, before any move
abbrev pub start_of : {W C : Type 0} → W → MachineState W C
start_of world = record { world = world; moment = 0; accepted = 0; refused = 0; connections = [] }

-- the numbers of the connections that are there, in the order of their opening
abbrev pub present_numbers : {W C : Type 0} → MachineState W C → List ℕ
present_numbers {W} {C} s =
    map (λ (k : Connection C). k.number) (filter (λ (k : Connection C). not k.gone) s.connections)

-- a state that has forgotten the connections that are gone: whatever is still there is found in it as before
abbrev pub without_gone : {W C : Type 0} → MachineState W C → MachineState W C
without_gone {W} {C} s =
    record s { connections = filter (λ (k : Connection C). not k.gone) s.connections }

-- an exchange: one connection, and the world that its frames may change
pub record Exchange (W C : Type 0) : Type 0 where
  pub world : W
  pub connection : Connection C

abbrev pub exchange_of : {W C : Type 0} → MachineState W C → Connection C → Exchange W C
exchange_of s k = record { world = s.world; connection = k }

abbrev pub with_exchange : {W C : Type 0} → Exchange W C → MachineState W C → MachineState W C
with_exchange x s =
    record s { world = x.world; connections = put_back x.connection s.connections }

-- an exchange with a connection, if there is one
abbrev pub after_exchange : {W C : Type 0} → Option (Connection C) → (Exchange W C → Exchange W C)
    → MachineState W C → MachineState W C
after_exchange None change s = s
after_exchange (Some k) change s = with_exchange (change (exchange_of s k)) s

-- all bytes that a connection was given
abbrev pub output_of_connection : {C : Type 0} → Option (Connection C) → List ℕ
output_of_connection None = []
output_of_connection (Some k) = bytes_of_all k.produced

abbrev pub output_of : {W C : Type 0} → ℕ → MachineState W C → List ℕ
output_of number s = output_of_connection (connection_of number s.connections)
