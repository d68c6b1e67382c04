-- The parts of a symbol entry's text. No public clause cites them.
use Rattle.std.specs.Prelude.{ℕ, List, ◌++◌, length}
use Rattle.std.specs.Int.{w16, w32, to_le_bytes}
use Rattle.spec_formats.specs.SymbolEntry.{SymbolEntry}

-- three numbers of 4 bytes
abbrev pub words : ℕ → ℕ → ℕ → List ℕ
words a b c = to_le_bytes w32 a ++ to_le_bytes w32 b ++ to_le_bytes w32 c

-- name length 2, type length 2, comment length 2
abbrev pub lengths : SymbolEntry → List ℕ
lengths e = to_le_bytes w16 (length e.name) ++ to_le_bytes w16 (length e.type_name) ++ to_le_bytes w16 (length e.comment)
