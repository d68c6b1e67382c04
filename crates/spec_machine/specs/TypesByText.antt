-- The type that a text names among those of a plant, as in a description, and the entry that tells it.
-- Beckhoff Information System, "AdsDatatypeEntry"; which fields an entry has is this project's own choice.
use Rattle.std.specs.Prelude.{ℕ, List, [], ◌∷◌, Bool, true, ◌&&◌, nat_le, if◌then◌else◌, Option, Some, None, option_map, option_and_then}
use Rattle.spec_plant.specs.Listed.{NamedType}
use Rattle.spec_plant.specs.Trees.{TypeTree, ArrayTree, tree_of}
use Rattle.spec_plant.specs.Sizes.{type_size, element_count}
use Rattle.spec_plant.specs.Spelling.{type_text}
use Rattle.spec_plant.specs.Shapes.{shape_of_text}
use Rattle.spec_plant.specs.AcceptedTypes.{LIMIT}
use Rattle.spec_formats.specs.TypeEntry.{TypeFields, TypeEntry}
use Rattle.spec_formats.specs.TypeUpload.{DATA_TYPE, dimensions_of, named_fields, entry_of_type}
use Rattle.spec_machine.specs.Entries.{id_of_element}

-- an array has at most as many elements and bytes as one of a description
abbrev pub is_small_tree : TypeTree → Bool
is_small_tree (ArrayTree bounds element) = nat_le (element_count bounds) LIMIT && nat_le (type_size (ArrayTree bounds element)) LIMIT
is_small_tree tree = true

abbrev pub if_small : TypeTree → Option TypeTree
if_small tree = if is_small_tree tree then Some tree else None

-- the type that a text names
unfoldable pub tree_of_text : List NamedType → List ℕ → Option TypeTree
tree_of_text types text = option_and_then if_small (option_map (tree_of types) (shape_of_text types text))

-- what is told of a type that the upload does not list: an array has its element's id, its element's text and its dimensions;
-- others have no text of a type
abbrev pub fields_of_unlisted : TypeTree → TypeFields
fields_of_unlisted (ArrayTree bounds element) = record {
  size = type_size (ArrayTree bounds element);
  offset = 0;
  type_id = id_of_element (ArrayTree bounds element);
  flags = DATA_TYPE;
  name = type_text (ArrayTree bounds element);
  type_name = type_text element;
  comment = [];
  dimensions = dimensions_of (ArrayTree bounds element);
}
fields_of_unlisted tree = named_fields tree (type_text tree) []

abbrev pub first_or_unlisted : List TypeEntry → TypeTree → TypeEntry
first_or_unlisted [] tree = record { fields = fields_of_unlisted tree; subs = [] }
first_or_unlisted (e ∷ es) tree = e

-- the entry of a type: of a named one that of the upload
abbrev pub entry_by_type : TypeTree → TypeEntry
entry_by_type tree = first_or_unlisted (entry_of_type tree) tree
