-- Which lines a script may have: a line that is not among them is off the grammar.
use Rattle.std.specs.Prelude.{ℕ, ◌^◌, Bool, true}

-- the lines of a script
pub data LineKind : Type 0 where
  -- an empty line, or one that begins with `#`
  Blank : LineKind
  Open : LineKind
  Bytes : LineKind
  Close : LineKind
  Tick : LineKind
  Reload : LineKind
  Room : LineKind
  Fail : LineKind

-- the lines that are taken, and how many connections a script may open
pub record BuiltLines : Type 0 where
  pub is_built : LineKind → Bool
  pub most_opened : ℕ

-- every line of the grammar, and as many connections as there are numbers
abbrev pub all_lines : BuiltLines
all_lines = record { is_built = λ kind. true; most_opened = 2 ^ 32 }
