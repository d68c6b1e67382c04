-- A port as its device holds it: what the description says of it, the manner of its server, and its bytes, with the symbol
-- version; and all ports of a plant.
use Rattle.std.specs.Prelude.{ℕ, List, [], ◌∷◌, ◌==◌, if◌then◌else◌, find, Option}
use Rattle.spec_plant.specs.Listed.{NamedType}
use Rattle.spec_plant.specs.Description.{Facts}
use Rattle.spec_machine.specs.Manner.{Manner}
use Rattle.spec_machine.specs.PortBytes.{PortBytes}
use Rattle.symbol_table.specs.Tables.{SymbolTable}

pub record PortMemory : Type 0 where
  pub types : List NamedType
  pub number : ℕ
  pub facts : Facts
  pub table : SymbolTable
  pub manner : Manner
  pub bytes : PortBytes

-- all ports of a plant, in the order of the description, with the types, the symbol version and the manner that they share
pub record PortsMemory : Type 0 where
  pub types : List NamedType
  pub version : ℕ
  pub manner : Manner
  pub ports : List PortMemory

-- the port with a number
abbrev pub memory_numbered : ℕ → List PortMemory → Option PortMemory
memory_numbered number ports = find (λ (m : PortMemory). m.number == number) ports

-- the ports with another in the place of the one with a number
abbrev pub with_numbered : ℕ → PortMemory → List PortMemory → List PortMemory
with_numbered number new [] = []
with_numbered number new (m ∷ ms) = if m.number == number then new ∷ ms else m ∷ with_numbered number new ms

-- a plant with another port in the place of the one with a number
abbrev pub with_port : PortsMemory → ℕ → PortMemory → PortsMemory
with_port m number new = record m { ports = with_numbered number new m.ports }
