-- Descriptions that differ only in the bytes that persistent symbols begin with, and what a device may begin with.
-- This project's own choice.
use Rattle.std.specs.Prelude.{◌≡◌, ℕ, List, length, false}
use Rattle.std.specs.List.{AllZip}
use Rattle.spec_plant.specs.Description.{Symbol, Port, Description}
use Rattle.spec_plant.specs.Accepted.{IsAccepted}

-- the first symbol with as many initial bytes, which are the same unless it is persistent
pub record SymbolBeginsOtherwise (first s : Symbol) : Type 0 where
  pub bytes : List ℕ
  pub same : s ≡ record first { initial = bytes }
  pub as_long : length bytes ≡ length first.initial
  pub not_persistent : first.persistent ≡ false → bytes ≡ first.initial

-- the first port, in which symbols begin otherwise
pub record PortBeginsOtherwise (first p : Port) : Type 0 where
  pub symbols : List Symbol
  pub same : p ≡ record first { symbols = symbols }
  pub each : AllZip SymbolBeginsOtherwise first.symbols symbols

-- the first description, in which persistent symbols begin with other bytes, each with as many
pub record BeginsOtherwise (first d : Description) : Type 0 where
  pub ports : List Port
  pub same : d ≡ record first { ports = ports }
  pub each : AllZip PortBeginsOtherwise first.ports ports

-- what a device with so many signals may begin with: an accepted description, but that its persistent symbols may begin
-- with other bytes than it says
pub record MayBegin (d : Description) (signals : ℕ) : Type 0 where
  pub first : Description
  pub accepted : IsAccepted first signals
  pub otherwise : BeginsOtherwise first d
