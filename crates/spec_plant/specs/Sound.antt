-- What an accepted description gives: ports and symbols are found by their numbers and names; each symbol lies in its
-- area, and begins with as many bytes as it has; and no two symbols of a port have a name or a byte in common.
use Rattle.std.specs.Prelude.{◌≡◌, ℕ, ◌+◌, ◌≤◌, List, [], ◌∷◌, length, true, false, Some}
use Rattle.spec_plant.specs.Description.{Description, Area, size_in}
use Rattle.spec_plant.specs.World.{Plant, PlantPort, PlantSymbol, plant_of, symbol_size, lower_name}
use Rattle.spec_plant.specs.Accepted.{IsAccepted}
use Rattle.spec_plant.specs.Covering.{covers}
use Rattle.spec_plant.specs.Named.{port_numbered, symbol_named, AreNamedApart, AreNumberedApart}

-- something holds of each of a list
abbrev pub Each : {X : Type 0} → (X → Type 0) → List X → Type 0
Each P [] = Unit {0}
Each P (x ∷ xs) = P x × Each P xs

pub record IsSoundSymbol (p : PlantPort) (s : PlantSymbol) : Type 0 where
  pub found : symbol_named (lower_name s) p.symbols ≡ Some s
  pub initial : length s.initial ≡ symbol_size s
  pub within : s.offset + symbol_size s ≤ size_in p.sizes s.area

-- no byte of an area belongs to both
abbrev pub HaveNoByteInCommon : PlantSymbol → PlantSymbol → Type 0
HaveNoByteInCommon s t = (area : Area) (offset : ℕ) → covers area offset s ≡ true → covers area offset t ≡ false

-- no byte of an area belongs to two of these symbols
abbrev pub AreApart : List PlantSymbol → Type 0
AreApart [] = Unit {0}
AreApart (s ∷ ss) = Each (HaveNoByteInCommon s) ss × AreApart ss

pub record IsSoundPort (ports : List PlantPort) (p : PlantPort) : Type 0 where
  pub found : port_numbered p.number ports ≡ Some p
  pub symbols : Each (IsSoundSymbol p) p.symbols
  pub names : AreNamedApart p.symbols
  pub bytes : AreApart p.symbols

abbrev pub IsSoundPlant : Plant → Type 0
IsSoundPlant plant = Each (IsSoundPort plant.ports) plant.ports

-- Each accepted description is sound, for whatever number of signals.
abbrev pub AcceptedAreSound : Type 0
AcceptedAreSound = (d : Description) (signals : ℕ) → IsAccepted d signals → IsSoundPlant (plant_of d)

-- No two ports of an accepted description have one number.
abbrev pub AcceptedAreNumberedApart : Type 0
AcceptedAreNumberedApart = (d : Description) (signals : ℕ) → IsAccepted d signals → AreNumberedApart (plant_of d).ports
