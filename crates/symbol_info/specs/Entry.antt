-- Which symbol entry a value of `Entry` is.
use Rattle.std.specs.Prelude.{ℕ, ◌<◌, ◌^◌, List, length}
use Rattle.symbol_info.specs.declared.entry.Entry.{Entry}
use Rattle.spec_formats.specs.SymbolEntry.{SymbolEntry, BeginsWithEntry}

abbrev pub entry_meant : Entry → SymbolEntry
entry_meant e = record {
  group = e.group;
  offset = e.offset;
  size = e.size;
  type_id = e.type_id;
  flags = e.flags;
  name = e.name.now;
  type_name = e.kind.now;
  comment = e.comment.now;
}

-- each text is short enough for its length's two bytes
pub record HasShortTexts (e : Entry) : Type 0 where
  pub name : length e.name.now < 2 ^ 16
  pub kind : length e.kind.now < 2 ^ 16
  pub comment : length e.comment.now < 2 ^ 16

-- the bytes begin with no entry
abbrev pub BeginsWithNone : List ℕ → Type 0
BeginsWithNone bytes = (e : SymbolEntry) (rest : List ℕ) → ¬ (BeginsWithEntry bytes e rest)
