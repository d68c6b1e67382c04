-- For private contracts, and cited by no public clause: the symbols that new ports keep of old ones, as their tables tell.
use Rattle.std.specs.Prelude.{◌≡◌, ℕ, ◌+◌, ◌≤◌, List, [], ◌∷◌, ◌++◌, slice_get, Option, Some, None, if◌then◌else◌}
use Rattle.spec_plant.specs.Listed.{NamedType}
use Rattle.spec_machine.specs.NumberedPlaces.{NumberedPlace, KeptSymbol}
use Rattle.symbol_table.specs.Tables.{TableSymbol, number_called}
use Rattle.symbol_table.specs.declared.row.SymbolRow.{SymbolRow}
use Rattle.port_device.specs.PortMemory.{PortMemory, memory_numbered}
use Rattle.port_device.specs.Reloaded.{are_of_one_type}

-- the whole place of a symbol of a table
abbrev pub whole_symbol : ℕ → TableSymbol → NumberedPlace
whole_symbol n s = record { symbol = n; area = s.area; first = s.offset; len = s.size }

-- the entry of an old symbol, where a new one has its name; none, where the types differ
abbrev pub entry_with : List NamedType → PortMemory → ℕ → ℕ → TableSymbol → ℕ → Option TableSymbol → Option KeptSymbol
entry_with before now port n s k None = None
entry_with before now port n s k (Some t) =
    if are_of_one_type before now.types s t
    then Some (record { port = port; before = whole_symbol n s; after = whole_symbol k t })
    else None

abbrev pub entry_at : List NamedType → PortMemory → ℕ → ℕ → TableSymbol → Option ℕ → Option KeptSymbol
entry_at before now port n s None = None
entry_at before now port n s (Some k) = entry_with before now port n s k (slice_get now.table.symbols k)

-- the entry of the n-th symbol of a port, where the new port keeps it
abbrev pub entry_of : List NamedType → PortMemory → ℕ → ℕ → TableSymbol → Option KeptSymbol
entry_of before now port n s = entry_at before now port n s (number_called s.name now.table.symbols)

abbrev pub with_entry : Option KeptSymbol → List KeptSymbol → List KeptSymbol
with_entry None entries = entries
with_entry (Some e) entries = e ∷ entries

-- the entries of symbols, of which the first has this number
abbrev pub entries_from : List NamedType → PortMemory → ℕ → ℕ → List TableSymbol → List KeptSymbol
entries_from before now port n [] = []
entries_from before now port n (s ∷ ss) = with_entry (entry_of before now port n s) (entries_from before now port (n + 1) ss)

-- the entries of a port's symbols, where it is among the new ports
abbrev pub entries_of : PortMemory → Option PortMemory → List KeptSymbol
entries_of m None = []
entries_of m (Some now) = entries_from m.types now m.number 0 m.table.symbols

-- the entries of all ports
abbrev pub entries_between : List PortMemory → List PortMemory → List KeptSymbol
entries_between [] new = []
entries_between (m ∷ ms) new = entries_of m (memory_numbered m.number new) ++ entries_between ms new

-- a row that ends before byte 4,294,967,296
abbrev pub EndsInReach : SymbolRow → Type 0
EndsInReach r = r.«at» + r.len ≤ 4294967295

abbrev pub HasTypes : List NamedType → PortMemory → Type 0
HasTypes types m = m.types ≡ types
