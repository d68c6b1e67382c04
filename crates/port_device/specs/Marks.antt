-- For private contracts, and cited by no public clause: marks of the image, one for each 64 bytes, set where a symbol stands
-- that not everybody may write.
use Rattle.std.specs.Prelude.{◌≡◌, ℕ, ◌+◌, ◌*◌, ◌/◌, ◌<◌, ◌≤◌, ◌||◌, nat_lt, List, length, get_or, Bool, true, false}
use Rattle.spec_plant.specs.Accepted.{image_size}
use Rattle.spec_plant.specs.Description.{Sizes, size_in}
use Rattle.spec_plant.specs.Sound.{Each}
use Rattle.spec_machine.specs.PortBytes.{start_in}
use Rattle.symbol_table.specs.Rows.{symbol_of_row}
use Rattle.symbol_table.specs.Tables.{TableSymbol}
use Rattle.symbol_table.specs.declared.row.SymbolRow.{SymbolRow}

-- whether a symbol is read-only, or has writers
abbrev pub is_guarded : TableSymbol → Bool
is_guarded s = s.read_only || nat_lt 0 (length s.writers)

abbrev pub is_guarded_row : SymbolRow → Bool
is_guarded_row r = r.read_only || nat_lt 0 (length r.writers)

-- whether the mark of a byte of the image is set
abbrev pub is_marked : List Bool → ℕ → Bool
is_marked marks i = get_or marks (i / 64) false

-- all marks that were set still are
abbrev pub KeepsMarks : List Bool → List Bool → Type 0
KeepsMarks old new = (k : ℕ) → get_or old k false ≡ true → get_or new k false ≡ true

-- the marks from one on up to another are set, those that were set still are, and there are as many
pub record SetsMarks (old new : List Bool) (first until : ℕ) : Type 0 where
  pub set : (k : ℕ) → first ≤ k → k < until → get_or new k false ≡ true
  pub keeps : KeepsMarks old new
  pub long : length new ≡ length old

-- a symbol that not everybody may write has the marks of all its bytes
abbrev pub IsMarked : Sizes → List Bool → TableSymbol → Type 0
IsMarked sizes marks s = is_guarded s ≡ true → (i : ℕ) → s.offset ≤ i → i < s.offset + s.size
    → is_marked marks (start_in sizes s.area + i) ≡ true

-- the marks of an image with these symbols
pub record AreMarks (sizes : Sizes) (marks : List Bool) (symbols : List TableSymbol) : Type 0 where
  pub long : image_size sizes ≤ 64 * length marks
  pub each : Each (IsMarked sizes marks) symbols

-- a row whose bytes lie in its area
abbrev pub IsWithinRow : Sizes → SymbolRow → Type 0
IsWithinRow sizes r = (symbol_of_row r).offset + r.len ≤ size_in sizes (symbol_of_row r).area
