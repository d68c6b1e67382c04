-- Which type entry a value of `TypeEntry` is.
use Rattle.std.specs.Prelude.{◌≡◌, ℕ, ◌/◌, List, length}
use Rattle.std.specs.List.{flat_map}
use Rattle.type_upload.specs.declared.entry.TypeEntry.{TypeEntry}
use Rattle.spec_formats.specs.TypeEntry as formats
use Rattle.spec_formats.specs.TypeEntryReading.{dimensions_in, subs_in}

-- the entry that a value is, with the dimensions and sub entries that stand in its bytes
abbrev pub entry_meant : TypeEntry → formats.TypeEntry
entry_meant e = record {
  fields = record {
    size = e.size;
    offset = e.offset;
    type_id = e.type_id;
    flags = e.flags;
    name = e.name.now;
    type_name = e.kind.now;
    comment = e.comment.now;
    dimensions = dimensions_in (length e.dims.now / 8) e.dims.now;
  };
  subs = subs_in e.subs e.sub_bytes.now;
}

-- the value says what the entry says; the dimensions stand in it as their bytes
pub record SaysEntry (e : TypeEntry) (entry : formats.TypeEntry) : Type 0 where
  pub size : e.size ≡ entry.fields.size
  pub offset : e.offset ≡ entry.fields.offset
  pub type_id : e.type_id ≡ entry.fields.type_id
  pub flags : e.flags ≡ entry.fields.flags
  pub name : e.name.now ≡ entry.fields.name
  pub kind : e.kind.now ≡ entry.fields.type_name
  pub comment : e.comment.now ≡ entry.fields.comment
  pub dims : e.dims.now ≡ flat_map formats.dimension_bytes entry.fields.dimensions
  pub subs : e.subs ≡ length entry.subs

-- the bytes begin with a text of an entry, which the value says, with the texts of its sub entries one after another,
-- and the rest follows
pub record IsRead (bytes : List ℕ) (e : TypeEntry) (rest : List ℕ) : Type 0 where
  pub entry : formats.TypeEntry
  pub begins : formats.BeginsWithTypeEntry bytes entry rest
  pub says : SaysEntry e entry
  pub sub_bytes : e.sub_bytes.now ≡ flat_map (λ text. text) begins.sub_texts

-- the bytes begin with no entry
abbrev pub BeginsWithNone : List ℕ → Type 0
BeginsWithNone bytes =
    (entry : formats.TypeEntry) (rest : List ℕ) → ¬ (formats.BeginsWithTypeEntry bytes entry rest)
