-- Ports by their numbers, symbols by their names, and when two names of bytes are one.
use Rattle.std.specs.Prelude.{ℕ, List, [], ◌∷◌, ◌≢◌, Bool, ◌&&◌, ◌==◌, Option, find, bytes_eq}
use Rattle.spec_plant.specs.World.{PlantPort, PlantSymbol, lower_name, ByteName, is_same_part}

-- the port of a number
abbrev pub port_numbered : ℕ → List PlantPort → Option PlantPort
port_numbered number ports = find (λ (p : PlantPort). p.number == number) ports

-- the symbol of a name in lower case
abbrev pub symbol_named : List ℕ → List PlantSymbol → Option PlantSymbol
symbol_named name symbols = find (λ (s : PlantSymbol). bytes_eq (lower_name s) name) symbols

-- no symbol of the list has this name in lower case
abbrev pub NotNamed : List ℕ → List PlantSymbol → Type 0
NotNamed name [] = Unit {0}
NotNamed name (s ∷ ss) = (lower_name s ≢ name) × NotNamed name ss

-- no two symbols of the list have one name in lower case
abbrev pub AreNamedApart : List PlantSymbol → Type 0
AreNamedApart [] = Unit {0}
AreNamedApart (s ∷ ss) = NotNamed (lower_name s) ss × AreNamedApart ss

-- no port of the list has this number
abbrev pub NotNumbered : ℕ → List PlantPort → Type 0
NotNumbered number [] = Unit {0}
NotNumbered number (p ∷ ps) = (p.number ≢ number) × NotNumbered number ps

-- no two ports of the list have one number
abbrev pub AreNumberedApart : List PlantPort → Type 0
AreNumberedApart [] = Unit {0}
AreNumberedApart (p ∷ ps) = NotNumbered p.number ps × AreNumberedApart ps

-- whether two names are those of one byte
abbrev pub is_same_name : ByteName → ByteName → Bool
is_same_name a b = (a.port == b.port) && is_same_part a.part b.part && (a.index == b.index)
