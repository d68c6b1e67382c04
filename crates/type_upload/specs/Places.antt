-- Where the parts of an entry stand, as the code finds them. No public clause cites this file.
use Rattle.std.specs.Prelude.{◌≡◌, ℕ, ◌+◌, ◌*◌, ◌≤◌, List, length, take, drop, slice_index}
use Rattle.spec_formats.specs.Numbers.{number16, number32}
use Rattle.type_upload.specs.declared.entry.TypeEntry.{TypeEntry}
use Rattle.type_upload.specs.declared.places.Places.{Places}
use Rattle.spec_formats.specs.TypeEntryReading.{end_of_name, end_of_type, end_of_comment, end_of_fields}

-- the length covers the fields and does not go past the bytes, and each text ends in NUL
pub record HasFields (bytes : List ℕ) : Type 0 where
  pub covers : end_of_fields bytes ≤ number32 0 bytes
  pub within : number32 0 bytes ≤ length bytes
  pub name : slice_index bytes (end_of_name bytes) ≡ 0
  pub kind : slice_index bytes (end_of_type bytes) ≡ 0
  pub comment : slice_index bytes (end_of_comment bytes) ≡ 0

-- the places that were found are those of these bytes
pub record HasPlaces (bytes : List ℕ) (places : Places) : Type 0 where
  pub fields : HasFields bytes
  pub name_is : places.name_end ≡ end_of_name bytes
  pub kind_is : places.kind_end ≡ end_of_type bytes
  pub comment_is : places.comment_end ≡ end_of_comment bytes
  pub fields_is : places.fields_end ≡ end_of_fields bytes
  pub len_is : places.len ≡ number32 0 bytes

-- a value with what stands at these places
pub record ReadsAs (bytes : List ℕ) (subs_text : List ℕ) (e : TypeEntry) : Type 0 where
  pub size : e.size ≡ number32 16 bytes
  pub offset : e.offset ≡ number32 20 bytes
  pub type_id : e.type_id ≡ number32 24 bytes
  pub flags : e.flags ≡ number32 28 bytes
  pub name : e.name.now ≡ take (number16 32 bytes) (drop 42 bytes)
  pub kind : e.kind.now ≡ take (number16 34 bytes) (drop (end_of_name bytes + 1) bytes)
  pub comment : e.comment.now ≡ take (number16 36 bytes) (drop (end_of_type bytes + 1) bytes)
  pub dims : e.dims.now ≡ take (8 * number16 38 bytes) (drop (end_of_comment bytes + 1) bytes)
  pub subs : e.subs ≡ number16 40 bytes
  pub sub_bytes : e.sub_bytes.now ≡ subs_text
