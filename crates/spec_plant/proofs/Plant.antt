-- The plant of the worked examples.
use Rattle.std.specs.Prelude.{ℕ, List, [], ◌∷◌, ◌++◌, codes, replicate, true, false, Some, None, pos}
use Rattle.spec_plant.specs.Plain.{BOOL, DINT, INT, UINT, BYTE}
use Rattle.spec_plant.specs.Listed.{Plain, Text, Struct, Shape, One, Array, NamedType, Structure}
use Rattle.spec_plant.specs.Description.{Read, Control, Area, Memory, Process, Symbol, Port, Description}

abbrev pub NET : List ℕ
NET = 5 ∷ 1 ∷ 2 ∷ 3 ∷ 1 ∷ 1 ∷ []

-- a machine that may control, and one that may read
abbrev pub ENGINEER : List ℕ
ENGINEER = 192 ∷ 168 ∷ 0 ∷ 9 ∷ 1 ∷ 1 ∷ []

abbrev pub VIEWER : List ℕ
VIEWER = 192 ∷ 168 ∷ 0 ∷ 10 ∷ 1 ∷ 1 ∷ []

abbrev pub axis_type : NamedType
axis_type = Structure (codes "Axis") (
    record { name = codes "active"; shape = One (Plain BOOL); comment = [] }
    ∷ record { name = codes "pos"; shape = One (Plain DINT); comment = [] }
    ∷ record { name = codes "label"; shape = One (Text 5); comment = [] } ∷ [])

abbrev pub plain_symbol : List ℕ → Shape → Area → ℕ → List ℕ → Symbol
plain_symbol name shape area offset initial = record {
  name = name;
  shape = shape;
  area = area;
  offset = offset;
  comment = [];
  persistent = false;
  read_only = false;
  initial = initial;
  signal = None;
  writers = [];
}

abbrev pub count_symbol : ℕ → Symbol
count_symbol offset = plain_symbol (codes "Main.count") (One (Plain DINT)) Process offset (42 ∷ 0 ∷ 0 ∷ 0 ∷ [])

abbrev pub title_symbol : ℕ → List ℕ → Symbol
title_symbol len initial = record (plain_symbol (codes "Main.title") (One (Text len)) Process 72 initial) { persistent = true }

abbrev pub symbols_with : Symbol → Symbol → List Symbol
symbols_with count title =
    count
    ∷ plain_symbol (codes "Main.axis") (Array (record { low = pos 1; count = 3 } ∷ []) (Struct 0)) Process 8 (replicate 48 0)
    ∷ record (plain_symbol (codes "Main.limit") (One (Plain INT)) Process 60 (232 ∷ 3 ∷ [])) { read_only = true }
    ∷ record (plain_symbol (codes "Main.wave") (One (Plain UINT)) Process 64 (replicate 2 0)) { signal = Some 2 }
    ∷ title
    ∷ plain_symbol (codes "Flags.bits") (One (Plain BYTE)) Memory 0 (0 ∷ [])
    ∷ []

abbrev pub port_with : List Symbol → Port
port_with symbols = record {
  number = 851;
  facts = record { major = 3; minor = 1; build = 1711; name = codes "Plc30 App" ++ replicate 7 0 };
  sizes = record { inputs = 16; outputs = 16; memory = 32; process = 128 };
  symbols = symbols;
}

abbrev pub description_with : List Symbol → Description
description_with symbols = record {
  net = NET;
  routes = record { net = ENGINEER; rights = Control } ∷ record { net = VIEWER; rights = Read } ∷ [];
  types = axis_type ∷ [];
  ports = port_with symbols ∷ [];
}

abbrev pub plant : Description
plant = description_with (symbols_with (count_symbol 0) (title_symbol 7 (codes "Mix" ++ replicate 5 0)))

-- the same, with Main.count at 100 and Main.title of another type
abbrev pub plant2 : Description
plant2 = description_with (symbols_with (count_symbol 100) (title_symbol 8 (replicate 9 0)))

-- the same of a machine with another NetId
abbrev pub plant3 : Description
plant3 = record plant2 { net = 5 ∷ 1 ∷ 2 ∷ 3 ∷ 1 ∷ 9 ∷ [] }
