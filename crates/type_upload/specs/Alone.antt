-- An entry of a type without members, told by what it is given.
use Rattle.std.specs.Prelude.{ℕ, List, []}
use Rattle.spec_plant.specs.Trees.{TypeTree}
use Rattle.spec_plant.specs.Sizes.{type_size}
use Rattle.spec_plant.specs.Spelling.{type_text}
use Rattle.spec_formats.specs.TypeEntry.{TypeEntry}
use Rattle.spec_formats.specs.TypeUpload.{DATA_TYPE, dimensions_of}

-- the size, canonical text and dimensions of a type, with this id and this text of a type
abbrev pub entry_alone : TypeTree → ℕ → List ℕ → TypeEntry
entry_alone tree id type_name = record {
  fields = record {
    size = type_size tree;
    offset = 0;
    type_id = id;
    flags = DATA_TYPE;
    name = type_text tree;
    type_name = type_name;
    comment = [];
    dimensions = dimensions_of tree;
  };
  subs = [];
}
