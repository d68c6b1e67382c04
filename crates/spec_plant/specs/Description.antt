-- The description of a plant: the machine's NetId, routes, types, and ports with their symbols.
use Rattle.std.specs.Prelude.{ℕ, List, Bool, Option}
use Rattle.spec_plant.specs.Listed.{Shape, NamedType}

-- what a client may do, each right with the ones before it
pub data Rights : Type 0 where
  Read : Rights
  Write : Rights
  Control : Rights

-- the rights of a machine, by the six bytes of its NetId
pub record Route : Type 0 where
  pub net : List ℕ
  pub rights : Rights

-- inputs, outputs, memory (flags), and the data area
pub data Area : Type 0 where
  Inputs : Area
  Outputs : Area
  Memory : Area
  Process : Area

-- the size of each area in bytes
pub record Sizes : Type 0 where
  pub inputs : ℕ
  pub outputs : ℕ
  pub memory : ℕ
  pub process : ℕ

abbrev pub size_in : Sizes → Area → ℕ
size_in sizes Inputs = sizes.inputs
size_in sizes Outputs = sizes.outputs
size_in sizes Memory = sizes.memory
size_in sizes Process = sizes.process

-- what ReadDeviceInfo tells: the version, and the name's 16 bytes, filled with NULs
pub record Facts : Type 0 where
  pub major : ℕ
  pub minor : ℕ
  pub build : ℕ
  pub name : List ℕ

-- a symbol: its name, type and place; its flags; the bytes that it begins with; the number of the signal that writes
-- it; and the NetIds that may write it, where there are any
pub record Symbol : Type 0 where
  pub name : List ℕ
  pub shape : Shape
  pub area : Area
  pub offset : ℕ
  pub comment : List ℕ
  pub persistent : Bool
  pub read_only : Bool
  pub initial : List ℕ
  pub signal : Option ℕ
  pub writers : List (List ℕ)

-- a port: its number, facts, sizes and symbols
pub record Port : Type 0 where
  pub number : ℕ
  pub facts : Facts
  pub sizes : Sizes
  pub symbols : List Symbol

pub record Description : Type 0 where
  pub net : List ℕ
  pub routes : List Route
  pub types : List NamedType
  pub ports : List Port
