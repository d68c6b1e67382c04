-- What the code writes of a type or a member, in parts. No public clause cites this file.
use Rattle.std.specs.Prelude.{ℕ, ◌+◌, ◌≤◌, List, ◌++◌, length, map}
use Rattle.std.specs.Int.{w16, w32, to_le_bytes}
use Rattle.spec_formats.specs.SymbolEntry.{text_bytes}
use Rattle.spec_formats.specs.TypeEntry.{TypeFields, written_stamps, dimension_bytes, fields_len, fields_bytes}
use Rattle.spec_formats.specs.TypeUpload.{dimension_of}
use Rattle.type_layout.specs.Shapes.{bound_of, bounds_of}
use Rattle.type_layout.specs.declared.shape.Bound.{Bound}
use Rattle.type_upload.specs.declared.fields.Fields.{Fields}

abbrev pub fields_meant : Fields → TypeFields
fields_meant f = record {
  size = f.size;
  offset = f.offset;
  type_id = f.type_id;
  flags = f.flags;
  name = f.name.now;
  type_name = f.kind.now;
  comment = f.comment.now;
  dimensions = map dimension_of (bounds_of f.dims.now);
}

-- as short as the texts and dimensions of an accepted type are
pub record IsShort (f : Fields) : Type 0 where
  pub name : length f.name.now ≤ 400
  pub kind : length f.kind.now ≤ 400
  pub comment : length f.comment.now ≤ 255
  pub dims : length f.dims.now ≤ 3

-- an entry up to its sub entries, which have so many bytes and are so many
abbrev pub front_bytes : TypeFields → ℕ → ℕ → List ℕ
front_bytes f behind subs = to_le_bytes w32 (fields_len f + behind) ++ fields_bytes written_stamps f subs

-- three numbers of 4 bytes
abbrev pub words : ℕ → ℕ → ℕ → List ℕ
words a b c = to_le_bytes w32 a ++ to_le_bytes w32 b ++ to_le_bytes w32 c

-- entry length, version 1, hash 0, type hash 0, size, offset, type id, flags
abbrev pub numbers : ℕ → TypeFields → List ℕ
numbers len f = words len 1 0 ++ words 0 f.size f.offset ++ to_le_bytes w32 f.type_id ++ to_le_bytes w32 f.flags

-- name length, type length, comment length, dimensions, sub items
abbrev pub lengths : ℕ → ℕ → ℕ → ℕ → ℕ → List ℕ
lengths name kind comment dims subs = to_le_bytes w16 name ++ to_le_bytes w16 kind ++ to_le_bytes w16 comment
    ++ to_le_bytes w16 dims ++ to_le_bytes w16 subs

-- name, type and comment, each with its NUL
abbrev pub texts : TypeFields → List ℕ
texts f = text_bytes f.name ++ text_bytes f.type_name ++ text_bytes f.comment

-- lower bound and elements
abbrev pub bound_bytes : Bound → List ℕ
bound_bytes b = dimension_bytes (dimension_of (bound_of b))
