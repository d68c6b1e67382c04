-- The state of the relay: who owns which NetId, the requests whose responses it waits for, and its counts.
-- This project's own choice: a connection owns the NetId of the frames that it sends.
use Rattle.std.specs.Prelude.{ℕ, List, [], Bool, false, ◌&&◌, not, find, Option, Some, None, bytes_eq}
use Rattle.spec_plant.specs.Description.{Route, Description}
use Rattle.spec_formats.specs.Header.{AmsAddress}
use Rattle.spec_machine.specs.Connection.{Connection, connection_of, is_deaf}
use Rattle.spec_machine.specs.MachineState.{MachineState, start_of}

-- what is remembered of a request that was passed on: who asked, who was asked, and what a response must say
pub record Request : Type 0 where
  pub asker : ℕ
  pub asked : ℕ
  pub source : AmsAddress
  pub target : AmsAddress
  pub command : ℕ
  pub id : ℕ

pub record RelayWorld : Type 0 where
  pub routes : List Route
  -- the oldest first
  pub requests : List Request
  -- the frames that were given to a connection, and those whose target nobody owns
  pub passed : ℕ
  pub unknown : ℕ

-- the NetId that a connection owns
abbrev pub Owned : Type 0
Owned = Option (List ℕ)

abbrev pub RelayConnection : Type 0
RelayConnection = Connection Owned

abbrev pub RelayState : Type 0
RelayState = MachineState RelayWorld Owned

-- of a description the routes alone are looked at
abbrev pub relay_start : Description → RelayState
relay_start d = start_of (record { routes = d.routes; requests = []; passed = 0; unknown = 0 })

-- a connection that is there and not closing
abbrev pub is_heard : RelayConnection → Bool
is_heard k = not (is_deaf k)

abbrev pub is_heard_among : ℕ → List RelayConnection → Bool
is_heard_among c ks = is_found_heard (connection_of c ks)
  where
    is_found_heard : Option RelayConnection → Bool
    is_found_heard None = false
    is_found_heard (Some k) = is_heard k

abbrev pub owns : List ℕ → Owned → Bool
owns net None = false
owns net (Some owned) = bytes_eq owned net

-- the connection that is there, is not closing and owns a NetId
abbrev pub owner_of : List ℕ → List RelayConnection → Option RelayConnection
owner_of net ks = find (λ (k : RelayConnection). is_heard k && owns net k.client) ks
