-- Symbol entries, which the symbol upload and the extended info by name give.
-- Every number is little-endian. Beckhoff Information System, "AdsSymbolEntry".
use Rattle.std.specs.Prelude.{◌≡◌, ℕ, ◌+◌, ◌<◌, ◌^◌, List, [], ◌∷◌, ◌++◌, length, take, drop, slice_index, Bool, Option, Some, None, nat_le, ◌==◌, ◌&&◌}
use Rattle.std.specs.Prelude.{if◌then◌else◌}
use Rattle.std.specs.List.{flat_map}
use Rattle.std.specs.Int.{w16, w32, to_le_bytes}
use Rattle.spec_formats.specs.Numbers.{number16, number32}

pub record SymbolEntry : Type 0 where
  pub group : ℕ
  pub offset : ℕ
  pub size : ℕ
  pub type_id : ℕ
  pub flags : ℕ
  pub name : List ℕ
  pub type_name : List ℕ
  pub comment : List ℕ

-- a text and the NUL behind it, which its length does not count
abbrev pub text_bytes : List ℕ → List ℕ
text_bytes text = text ++ 0 ∷ []

-- the length of an entry with nothing behind its last NUL: 33 plus the three texts
abbrev pub entry_len : SymbolEntry → ℕ
entry_len e = 33 + length e.name + length e.type_name + length e.comment

-- group 4, offset 4, size 4, type id 4, flags 4, name length 2, type length 2, comment length 2,
-- and the three texts, each with its NUL
abbrev pub entry_fields : SymbolEntry → List ℕ
entry_fields e = to_le_bytes w32 e.group ++ to_le_bytes w32 e.offset ++ to_le_bytes w32 e.size
    ++ to_le_bytes w32 e.type_id ++ to_le_bytes w32 e.flags
    ++ to_le_bytes w16 (length e.name) ++ to_le_bytes w16 (length e.type_name)
    ++ to_le_bytes w16 (length e.comment)
    ++ text_bytes e.name ++ text_bytes e.type_name ++ text_bytes e.comment

-- entry length 4, fields
abbrev pub entry_bytes : SymbolEntry → List ℕ
entry_bytes e = to_le_bytes w32 (entry_len e) ++ entry_fields e

-- each number fits its field
pub record FitsEntry (e : SymbolEntry) : Type 0 where
  pub group : e.group < 2 ^ 32
  pub offset : e.offset < 2 ^ 32
  pub size : e.size < 2 ^ 32
  pub type_id : e.type_id < 2 ^ 32
  pub flags : e.flags < 2 ^ 32
  pub name : length e.name < 2 ^ 16
  pub type_name : length e.type_name < 2 ^ 16
  pub comment : length e.comment < 2 ^ 16

-- the bytes begin with a text of the entry, whose length may count further bytes at its end, and the rest follows
pub record BeginsWithEntry (bytes : List ℕ) (e : SymbolEntry) (rest : List ℕ) : Type 0 where
  pub fits : FitsEntry e
  pub further : List ℕ
  pub length_fits : entry_len e + length further < 2 ^ 32
  pub whole : bytes ≡ to_le_bytes w32 (entry_len e + length further) ++ entry_fields e ++ further ++ rest

-- the upload: the entries one after another
abbrev pub upload_bytes : List SymbolEntry → List ℕ
upload_bytes entries = flat_map entry_bytes entries

-- a text of this length ends in NUL
abbrev pub ends_in_nul : ℕ → List ℕ → Bool
ends_in_nul len bytes = slice_index bytes len == 0

-- what follows a text of this length and its NUL
abbrev pub after_text : ℕ → List ℕ → List ℕ
after_text len bytes = drop (len + 1) bytes

-- where the three texts begin: behind the fields of fixed width
abbrev pub name_place : List ℕ → List ℕ
name_place bytes = drop 30 bytes

abbrev pub type_place : List ℕ → List ℕ
type_place bytes = after_text (number16 24 bytes) (name_place bytes)

abbrev pub comment_place : List ℕ → List ℕ
comment_place bytes = after_text (number16 26 bytes) (type_place bytes)

-- the entry whose fields stand in front
abbrev pub entry_at : List ℕ → SymbolEntry
entry_at bytes = record {
  group = number32 4 bytes;
  offset = number32 8 bytes;
  size = number32 12 bytes;
  type_id = number32 16 bytes;
  flags = number32 20 bytes;
  name = take (number16 24 bytes) (name_place bytes);
  type_name = take (number16 26 bytes) (type_place bytes);
  comment = take (number16 28 bytes) (comment_place bytes);
}

-- the entry's length covers the three texts and does not go past the bytes, and each text ends in NUL
unfoldable pub is_entry : List ℕ → Bool
is_entry bytes =
    nat_le (33 + number16 24 bytes + number16 26 bytes + number16 28 bytes) (number32 0 bytes)
    && nat_le (number32 0 bytes) (length bytes)
    && ends_in_nul (number16 24 bytes) (name_place bytes)
    && ends_in_nul (number16 26 bytes) (type_place bytes)
    && ends_in_nul (number16 28 bytes) (comment_place bytes)

-- the first entry, and the bytes after it
unfoldable pub entry_of : List ℕ → Option (SymbolEntry × List ℕ)
entry_of bytes = if is_entry bytes then Some (entry_at bytes, drop (number32 0 bytes) bytes) else None
