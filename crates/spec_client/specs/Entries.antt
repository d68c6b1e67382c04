-- Answers that are whole entries of symbols and types, as a call takes them.
use Rattle.std.specs.Prelude.{ℕ, zero, suc, List, [], ◌∷◌, length, Bool, ◌==◌, nat_le, if◌then◌else◌, Option, Some, None, option_map, option_and_then}
use Rattle.std.specs.Prelude.{take, codes}
use Rattle.spec_formats.specs.SymbolEntry.{SymbolEntry, entry_of}
use Rattle.spec_formats.specs.TypeEntry.{TypeEntry}
use Rattle.spec_formats.specs.TypeEntryReading.{type_entry_of}
use Rattle.spec_plant.specs.TypeTexts.{is_same_word}
use Rattle.spec_client.specs.Calls.{MAX_SIZE}

-- the symbol is not too big
abbrev pub is_taken : SymbolEntry → Bool
is_taken e = nat_le e.size MAX_SIZE

-- so many entries, and nothing behind them
unfoldable pub entries_in : ℕ → List ℕ → Option (List SymbolEntry)
entries_in zero bytes = if length bytes == 0 then Some [] else None
entries_in (suc n) bytes =
    option_and_then (λ first. if is_taken first.0 then option_map (λ es. first.0 ∷ es) (entries_in n first.1) else None)
    (entry_of bytes)

-- the type id that a value is written and read by. TwinCAT tells the id of an array's element; an array is one value of bytes, and
-- so it has the id 65 of what is neither a plain type nor a text
abbrev pub value_id : SymbolEntry → ℕ
value_id e = if is_same_word (take 7 e.type_name) (codes "ARRAY [") then 65 else e.type_id

abbrev pub with_value_id : SymbolEntry → SymbolEntry
with_value_id e = record {
  group = e.group;
  offset = e.offset;
  size = e.size;
  type_id = value_id e;
  flags = e.flags;
  name = e.name;
  type_name = e.type_name;
  comment = e.comment;
}

abbrev pub first_of : List SymbolEntry → Option SymbolEntry
first_of [] = None
first_of (e ∷ es) = Some (with_value_id e)

-- one entry, and nothing behind it, as the one who asked for it takes it
abbrev pub one_entry_in : List ℕ → Option SymbolEntry
one_entry_in bytes = option_and_then first_of (entries_in 1 bytes)

-- so many type entries, and nothing behind them
unfoldable pub types_in : ℕ → List ℕ → Option (List TypeEntry)
types_in zero bytes = if length bytes == 0 then Some [] else None
types_in (suc n) bytes =
    option_and_then (λ first. option_map (λ ts. first.0 ∷ ts) (types_in n first.1)) (type_entry_of bytes)
