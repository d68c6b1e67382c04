-- For private contracts, and cited by no public clause: the ports of an accepted description as they begin.
use Rattle.std.specs.Prelude.{◌≡◌, ℕ, ◌+◌, ◌≤◌, List, [], ◌∷◌, length, slice_get, Some}
use Rattle.spec_plant.specs.Listed.{NamedType}
use Rattle.spec_plant.specs.Description.{Sizes, size_in, Port, Description}
use Rattle.spec_plant.specs.Accepted.{IsAccepted}
use Rattle.spec_plant.specs.World.{plant_port}
use Rattle.spec_persistent.specs.Otherwise.{PortBeginsOtherwise}
use Rattle.symbol_table.specs.Rows.{symbol_of_row}
use Rattle.symbol_table.specs.Tables.{TableSymbol, IsTableOf}
use Rattle.symbol_table.specs.declared.row.SymbolRow.{SymbolRow}
use Rattle.spec_machine.specs.Manner.{Manner}
use Rattle.spec_machine.specs.World.{RUN}
use Rattle.spec_machine.specs.PortLaws.{IsFirstImage}
use Rattle.port_device.specs.PortMemory.{PortMemory}

-- a port that begins as one of an accepted description with these types does, or otherwise
pub record IsOfAccepted (types : List NamedType) (port : Port) : Type 0 where
  pub description : Description
  pub signals : ℕ
  pub accepted : IsAccepted description signals
  pub types_are : description.types ≡ types
  pub place : ℕ
  pub before : Port
  pub there : slice_get description.ports place ≡ Some before
  pub otherwise : PortBeginsOtherwise before port

-- its initial bytes lie in its area
abbrev pub FitsSymbol : Sizes → TableSymbol → Type 0
FitsSymbol sizes s = s.offset + length s.initial ≤ size_in sizes s.area

abbrev pub FitsRow : Sizes → SymbolRow → Type 0
FitsRow sizes r = FitsSymbol sizes (symbol_of_row r)

-- a port as it begins, with this symbol version and manner: it has its first bytes, and runs
pub record IsFirstPort (types : List NamedType) (port : Port) (version : ℕ) (manner : Manner) (m : PortMemory) : Type 0 where
  pub types_are : m.types ≡ types
  pub number : m.number ≡ port.number
  pub facts : m.facts ≡ port.facts
  pub version_is : m.bytes.version ≡ version
  pub manner_is : m.manner ≡ manner
  pub table : IsTableOf types port m.table
  pub ads : m.bytes.ads ≡ RUN
  pub device : m.bytes.device ≡ 0
  pub image : IsFirstImage (plant_port types port) m.bytes.image

-- each port of a list as it begins, in the same order
abbrev pub AreFirstPorts : List NamedType → ℕ → Manner → List Port → List PortMemory → Type 0
AreFirstPorts types version manner [] [] = Unit {0}
AreFirstPorts types version manner (p ∷ ps) (m ∷ ms) = IsFirstPort types p version manner m × AreFirstPorts types version manner ps ms
AreFirstPorts types version manner ps ms = ⊥
