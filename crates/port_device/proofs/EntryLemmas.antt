-- The entry of one symbol that a reload may keep.
use Rattle.std.proofs.Common.{◌≡◌, ℕ, suc, ◌≤◌, List, [], ◌∷◌, get_or, sym, ◌∙◌, ap, inl, inr, arith}
use Rattle.std.specs.Prelude.{Bool, Some, None, slice_get, ◌==◌, if◌then◌else◌}
use Rattle.std.specs.List.{All}
use Rattle.std.proofs.lemmas.Bool.{cases_Bool}
use Rattle.std.proofs.lemmas.Option.{slice_get-get_or}
use Rattle.spec_plant.specs.Listed.{NamedType}
use Rattle.spec_plant.specs.Accepted.{image_size, IMAGE_LIMIT}
use Rattle.spec_machine.proofs.ImageLemmas.{area_within}
use Rattle.symbol_table.specs.Tables.{TableSymbol, SymbolTable, IsTableWith, number_called}
use Rattle.symbol_table.specs.Rows.{symbol_of_row, symbols_of_rows}
use Rattle.symbol_table.specs.declared.row.SymbolRow.{SymbolRow}
use Rattle.port_device.specs.PortMemory.{PortMemory, memory_numbered}
use Rattle.port_device.specs.Reloaded.{are_of_one_type}
use Rattle.port_device.specs.Moved.{whole_symbol, entry_with, entry_at, entry_of, EndsInReach, HasTypes}
use Rattle.port_device.proofs.ReloadLemmas.{row_within}

pub entry-none : (before : List NamedType) (now : PortMemory) (port n : ℕ) (s : TableSymbol) → number_called s.name now.table.symbols ≡ None
    → entry_of before now port n s ≡ None
entry-none before now port n s e = ap (entry_at before now port n s) e

pub entry-some : (before : List NamedType) (now : PortMemory) (port n : ℕ) (s : TableSymbol) (k : ℕ) (t : TableSymbol) (same : Bool)
    → number_called s.name now.table.symbols ≡ Some k → slice_get now.table.symbols k ≡ Some t → are_of_one_type before now.types s t ≡ same
    → entry_of before now port n s
    ≡ (if same then Some (record { port = port; before = whole_symbol n s; after = whole_symbol k t }) else None)
entry-some before now port n s k t same called there f =
    ap (entry_at before now port n s) called ∙ ap (entry_with before now port n s k) there
    ∙ ap (λ b. if b then Some (record { port = port; before = whole_symbol n s; after = whole_symbol k t }) else None) f

-- a row of a table within its limit ends before byte 4,294,967,296
pub ends_in_reach : (types : List NamedType) (table : SymbolTable) (rows : List SymbolRow) (n : ℕ) (r : SymbolRow) → IsTableWith types table
    → image_size table.sizes ≤ IMAGE_LIMIT → symbols_of_rows rows ≡ table.symbols → slice_get rows n ≡ Some r → EndsInReach r
ends_in_reach types table rows n r with_ few same e =
    let within = row_within types table rows n r with_ same e in
    let whole = area_within table.sizes (symbol_of_row r).area in
    omega (arith, within, whole, few)

pub all_end_in_reach : (types : List NamedType) (table : SymbolTable) (rows : List SymbolRow) → IsTableWith types table → image_size table.sizes ≤ IMAGE_LIMIT
    → symbols_of_rows rows ≡ table.symbols → All EndsInReach rows
all_end_in_reach types table rows with_ few same k d below = ends_in_reach types table rows k (get_or rows k d) with_ few same (slice_get-get_or rows k d below)

-- what holds of all ports holds of the one with a number
pub numbered_has : (types : List NamedType) (number : ℕ) (ms : List PortMemory) (m : PortMemory) → All (HasTypes types) ms → memory_numbered number ms ≡ Some m
    → m.types ≡ types
numbered_has types number [] m all e = cc
numbered_has types number (x ∷ ms) m all e =
    elim (cases_Bool (x.number == number)) [
      | inl t ↦
          let f : Some x ≡ Some m = rw t at e in
          let same : x ≡ m = cc in
          sym (ap (λ (y : PortMemory). y.types) same) ∙ all 0 x (omega arith)
      | inr t ↦
          let f : memory_numbered number ms ≡ Some m = rw t at e in
          numbered_has types number ms m (λ k d below. all (suc k) d (omega (arith, below))) f
    ]
