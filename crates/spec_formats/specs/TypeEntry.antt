-- Type entries, which the type upload gives. Beckhoff Information System, "AdsDatatypeEntry".
-- The fields, ids and flags are this project's own profile of it. Every number is little-endian.
use Rattle.std.specs.Prelude.{◌≡◌, ℕ, ◌+◌, ◌*◌, ◌<◌, ◌^◌, List, ◌++◌, length}
use Rattle.std.specs.List.{flat_map, AllByRecursion, AllZip}
use Rattle.std.specs.Int.{w16, w32, to_le_bytes}
use Rattle.spec_formats.specs.SymbolEntry.{text_bytes}

-- a dimension of an array: its lower bound as two's complement of 32 bits, and its number of elements
pub record Dimension : Type 0 where
  pub low : ℕ
  pub count : ℕ

-- what an entry says of a type, or a sub entry of a member
pub record TypeFields : Type 0 where
  pub size : ℕ
  pub offset : ℕ
  pub type_id : ℕ
  pub flags : ℕ
  pub name : List ℕ
  pub type_name : List ℕ
  pub comment : List ℕ
  pub dimensions : List Dimension

-- the version and the two hashes, which the writer sets to 1, 0 and 0 and the reader leaves free
pub record Stamps : Type 0 where
  pub version : ℕ
  pub hash : ℕ
  pub type_hash : ℕ

abbrev pub written_stamps : Stamps
written_stamps = record { version = 1; hash = 0; type_hash = 0 }

-- lower bound 4, elements 4
abbrev pub dimension_bytes : Dimension → List ℕ
dimension_bytes d = to_le_bytes w32 d.low ++ to_le_bytes w32 d.count

-- the length up to the last dimension: 45 plus the three texts and 8 a dimension
abbrev pub fields_len : TypeFields → ℕ
fields_len f = 45 + length f.name + length f.type_name + length f.comment + 8 * length f.dimensions

-- version 4, hash 4, type hash 4, size 4, offset 4, type id 4, flags 4, name length 2, type length 2, comment length 2,
-- dimensions 2, sub items 2, then the three texts, each with its NUL, and the dimensions
abbrev pub fields_bytes : Stamps → TypeFields → ℕ → List ℕ
fields_bytes s f subs = to_le_bytes w32 s.version ++ to_le_bytes w32 s.hash ++ to_le_bytes w32 s.type_hash
    ++ to_le_bytes w32 f.size ++ to_le_bytes w32 f.offset ++ to_le_bytes w32 f.type_id ++ to_le_bytes w32 f.flags
    ++ to_le_bytes w16 (length f.name) ++ to_le_bytes w16 (length f.type_name) ++ to_le_bytes w16 (length f.comment)
    ++ to_le_bytes w16 (length f.dimensions) ++ to_le_bytes w16 subs
    ++ text_bytes f.name ++ text_bytes f.type_name ++ text_bytes f.comment
    ++ flat_map dimension_bytes f.dimensions

-- each number fits its field
pub record FitsFields (f : TypeFields) : Type 0 where
  pub size : f.size < 2 ^ 32
  pub offset : f.offset < 2 ^ 32
  pub type_id : f.type_id < 2 ^ 32
  pub flags : f.flags < 2 ^ 32
  pub name : length f.name < 2 ^ 16
  pub type_name : length f.type_name < 2 ^ 16
  pub comment : length f.comment < 2 ^ 16
  pub dimensions : length f.dimensions < 2 ^ 16
  pub each : AllByRecursion (λ d. (d.low < 2 ^ 32) × (d.count < 2 ^ 32)) f.dimensions

-- a type with its members as sub entries
pub record TypeEntry : Type 0 where
  pub fields : TypeFields
  pub subs : List TypeFields

-- a sub entry: entry length 4, fields, no sub items
abbrev pub sub_bytes : TypeFields → List ℕ
sub_bytes f = to_le_bytes w32 (fields_len f) ++ fields_bytes written_stamps f 0

-- an entry: entry length 4, fields, sub entries
abbrev pub type_bytes : TypeEntry → List ℕ
type_bytes e =
    let subs = flat_map sub_bytes e.subs in
    to_le_bytes w32 (fields_len e.fields + length subs)
    ++ fields_bytes written_stamps e.fields (length e.subs) ++ subs

-- the upload: the entries one after another
abbrev pub type_upload_bytes : List TypeEntry → List ℕ
type_upload_bytes entries = flat_map type_bytes entries

-- the text is a sub entry of a member: any version and hashes, no sub items, and further bytes behind the dimensions
pub record IsSubEntry (text : List ℕ) (f : TypeFields) : Type 0 where
  pub fits : FitsFields f
  pub stamps : Stamps
  pub further : List ℕ
  pub length_fits : fields_len f + length further < 2 ^ 32
  pub whole : text ≡ to_le_bytes w32 (fields_len f + length further) ++ fields_bytes stamps f 0 ++ further

-- the bytes begin with a text of the entry: any version and hashes, its sub entries, and further bytes behind the last;
-- and the rest follows
pub record BeginsWithTypeEntry (bytes : List ℕ) (e : TypeEntry) (rest : List ℕ) : Type 0 where
  pub fits : FitsFields e.fields
  pub count : length e.subs < 2 ^ 16
  pub stamps : Stamps
  pub sub_texts : List (List ℕ)
  pub subs : AllZip IsSubEntry sub_texts e.subs
  pub further : List ℕ
  pub stated : ℕ
  pub stated_is : stated ≡ fields_len e.fields + length (flat_map (λ text. text) sub_texts) + length further
  pub stated_fits : stated < 2 ^ 32
  pub whole : bytes ≡ to_le_bytes w32 stated ++ fields_bytes stamps e.fields (length e.subs)
      ++ flat_map (λ text. text) sub_texts ++ further ++ rest
