-- For private contracts, and cited by no public clause: parts of a symbol's and of a port's table.
use Rattle.std.specs.Prelude.{ℕ, List, [], Bool, false, Option, Some, codes, ℤ, pos}
use Rattle.toml.specs.Data.{Members, as_str, as_integer, as_bool}
use Rattle.spec_rules.specs.Fields.{◌>>=◌, required, optional}

-- name, type, area and offset of a symbol
abbrev pub place_in : Members → Option (List ℕ × List ℕ × List ℕ × ℤ)
place_in t = do
  name ← required as_str (codes "name") t
  type ← required as_str (codes "type") t
  area ← required as_str (codes "area") t
  offset ← required as_integer (codes "offset") t
  Some (name, type, area, offset)

-- comment and flags of a symbol
abbrev pub flags_in : Members → Option (List ℕ × Bool × Bool)
flags_in t = do
  comment ← optional as_str [] (codes "comment") t
  persistent ← optional as_bool false (codes "persistent") t
  read_only ← optional as_bool false (codes "read_only") t
  Some (comment, persistent, read_only)

-- number, name and version of a port
abbrev pub facts_in : Members → Option (ℤ × List ℕ × ℤ × ℤ × ℤ)
facts_in t = do
  number ← required as_integer (codes "port") t
  name ← required as_str (codes "name") t
  major ← required as_integer (codes "major") t
  minor ← required as_integer (codes "minor") t
  build ← required as_integer (codes "build") t
  Some (number, name, major, minor, build)

-- the sizes of a port's areas
abbrev pub sizes_in : Members → Option (ℤ × ℤ × ℤ × ℤ)
sizes_in t = do
  inputs ← optional as_integer (pos 0) (codes "inputs") t
  outputs ← optional as_integer (pos 0) (codes "outputs") t
  memory ← optional as_integer (pos 0) (codes "memory") t
  process ← optional as_integer (pos 0) (codes "data") t
  Some (inputs, outputs, memory, process)
