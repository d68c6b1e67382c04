-- What every state that a log leads to keeps: all bytes are there, live handles lie within their
-- symbols, and each byte of a notification is there.
use Rattle.std.specs.Prelude.{◌≡◌, ◌≢◌, ℕ, ◌+◌, ◌<◌, ◌≤◌, List, length, false, Some, None}
use Rattle.signals.specs.Wave.{Wave}
use Rattle.spec_plant.specs.Description.{Area, size_in, Description}
use Rattle.spec_plant.specs.Accepted.{IsAccepted}
use Rattle.spec_plant.specs.World.{Plant, PlantPort, PlantSymbol, symbol_size, Block, byte_at}
use Rattle.ads_outside.specs.declared.moves.Move.{Move}
use Rattle.spec_machine.specs.Connection.{Connection, is_deaf}
use Rattle.spec_machine.specs.MachineState.{MachineState}
use Rattle.spec_machine.specs.Moves.{state_after}
use Rattle.spec_machine.specs.Profile.{Profile}
use Rattle.spec_machine.specs.World.{World, port_numbered, name_at}
use Rattle.spec_machine.specs.Access.{Addressed, addressed_name}
use Rattle.spec_machine.specs.Handles.{HandleStatus, Never, Released, Outdated, Live, Handle}
use Rattle.spec_machine.specs.Watches.{Watch}
use Rattle.spec_machine.specs.Client.{Place, Client}
use Rattle.spec_machine.specs.Writes.{symbol_named}
use Rattle.spec_machine.specs.AdsDevice.{DescriptionReading, server_step}
use Rattle.spec_laws.specs.Isolation.{start_in}
use Rattle.spec_laws.specs.Soundness.{Each, ReadsAccepted}

-- each byte of each area of each port is there
abbrev pub AllBytesAreThere : World → Type 0
AllBytesAreThere w = (p : PlantPort) (area : Area) (i : ℕ)
    → port_numbered p.number w.plant.ports ≡ Some p → i < size_in p.sizes area
    → byte_at w.memory (name_at p area i) ≢ None

-- a place lies within a symbol of a port
pub record IsPlaced (plant : Plant) (port : ℕ) (place : Place) : Type 0 where
  pub asked : PlantPort
  pub port_found : port_numbered port plant.ports ≡ Some asked
  pub symbol : PlantSymbol
  pub symbol_found : symbol_named place.symbol asked.symbols ≡ Some symbol
  pub ends : place.first + place.len ≤ symbol_size symbol

abbrev pub IsPlacedStatus : Plant → ℕ → HandleStatus Place → Type 0
IsPlacedStatus plant port Never = Unit {0}
IsPlacedStatus plant port Released = Unit {0}
IsPlacedStatus plant port Outdated = Unit {0}
IsPlacedStatus plant port (Live place) = IsPlaced plant port place

abbrev pub IsPlacedHandle : Plant → Handle Place → Type 0
IsPlacedHandle plant h = IsPlacedStatus plant h.port h.status

-- each byte that a notification watches is there
abbrev pub IsThereAt : List Block → Addressed → Type 0
IsThereAt memory a = byte_at memory (addressed_name a) ≢ None

abbrev pub IsWatchThere : List Block → Watch (List Addressed) → Type 0
IsWatchThere memory v = Each (IsThereAt memory) v.watched

-- what a client keeps fits the world
pub record FitsWorld (w : World) (c : Client) : Type 0 where
  pub handles : Each (IsPlacedHandle w.plant) c.handles
  pub watches : Each (IsWatchThere w.memory) c.watches

-- a connection that is closing or gone is not moved by a reload, and is not heard any more
abbrev pub ConnectionFits : World → Connection Client → Type 0
ConnectionFits w k = is_deaf k ≡ false → FitsWorld w k.client

pub record AllFits (s : MachineState World Client) : Type 0 where
  pub bytes : AllBytesAreThere s.world
  pub connections : Each (ConnectionFits s.world) s.connections

-- This holds after every log, where the first description is accepted and the reading gives accepted
-- ones alone.
abbrev pub EveryStateFits : Type 0
EveryStateFits = (reading : DescriptionReading) → ReadsAccepted reading
    → (profile : Profile) (d : Description) (signals : List Wave) → IsAccepted d (length signals) → (log : List Move)
    → AllFits (state_after (server_step reading) (start_in profile d signals) log)
