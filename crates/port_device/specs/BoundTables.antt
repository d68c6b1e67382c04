-- For private contracts: a table of bound symbols, and one with one symbol more.
use Rattle.std.specs.Prelude.{◌≡◌, ℕ, ◌+◌, ◌≤◌, ◌==◌, if◌then◌else◌, List, [], ◌∷◌, length, max, Option, Some, None}
use Rattle.symbol_table.specs.Tables.{TableSymbol}
use Rattle.port_device.specs.Signals.{AreBound, bound_at}

-- the first one, and where there is none the other
abbrev pub first_of : Option ℕ → ℕ → Option ℕ
first_of (Some k) other = Some k
first_of None other = Some other

-- what the table has at a number, after one symbol more that this signal writes, if any does
abbrev pub bound_with : Option ℕ → ℕ → Option ℕ → ℕ → Option ℕ
bound_with None number before n = before
bound_with (Some signal) number before n = if signal == n then first_of before number else before

-- so many entries a signal's number needs
abbrev pub entries_for : Option ℕ → ℕ
entries_for None = 0
entries_for (Some signal) = signal + 1

-- so many entries all signals that write these symbols need
abbrev pub entry_count : List TableSymbol → ℕ
entry_count [] = 0
entry_count (s ∷ ss) = max (entries_for s.signal) (entry_count ss)

-- the table has the first symbol that each signal writes, and no entry beyond the last signal that writes one
pub record IsBoundTable (bound : List (Option ℕ)) (symbols : List TableSymbol) : Type 0 where
  pub bound_are : AreBound bound symbols
  pub short : length bound ≡ entry_count symbols

-- a table with more entries that are of no symbol, up to so many
pub record IsLengthened (old new : List (Option ℕ)) (count : ℕ) : Type 0 where
  pub same : (n : ℕ) → bound_at new n ≡ bound_at old n
  pub grows : length old ≤ length new
  pub short : length new ≤ max (length old) count
