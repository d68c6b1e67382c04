-- The type upload: an entry for each named type of the description, in its order. Beckhoff Information
-- System, "AdsDatatypeEntry"; which fields are set is this project's own profile.
use Rattle.std.specs.Prelude.{ℕ, ◌+◌, ◌-◌, ◌^◌, List, [], ◌∷◌, ◌++◌, map, ℤ, pos, negsuc}
use Rattle.spec_plant.specs.Plain.{kind_name}
use Rattle.spec_plant.specs.Listed.{Bound}
use Rattle.spec_plant.specs.Trees.{TypeTree, PlainTree, TextTree, EnumTree, ArrayTree, StructTree}
use Rattle.spec_plant.specs.Trees.{MemberTrees, NoMember, MemberTree}
use Rattle.spec_plant.specs.Sizes.{type_size, member_start}
use Rattle.spec_plant.specs.Spelling.{type_text}
use Rattle.spec_plant.specs.Entries.{type_id}
use Rattle.spec_formats.specs.TypeEntry.{Dimension, TypeFields, TypeEntry}

-- the flags of a type, and of a member of a structure
abbrev pub DATA_TYPE : ℕ
DATA_TYPE = 1

abbrev pub DATA_ITEM : ℕ
DATA_ITEM = 2

-- a lower bound as two's complement of 32 bits
abbrev pub low_number : ℤ → ℕ
low_number (pos n) = n
low_number (negsuc n) = 2 ^ 32 - (n + 1)

abbrev pub dimension_of : Bound → Dimension
dimension_of b = record { low = low_number b.low; count = b.count }

-- the dimensions of an array
abbrev pub dimensions_of : TypeTree → List Dimension
dimensions_of (PlainTree kind) = []
dimensions_of (TextTree n) = []
dimensions_of (EnumTree name base) = []
dimensions_of (ArrayTree bounds element) = map dimension_of bounds
dimensions_of (StructTree name members) = []

-- a member that stands at a place: its size, place, id, name, type, comment and dimensions
abbrev pub member_fields : ℕ → List ℕ → TypeTree → List ℕ → TypeFields
member_fields at name type comment = record {
  size = type_size type;
  offset = at;
  type_id = type_id type;
  flags = DATA_ITEM;
  name = name;
  type_name = type_text type;
  comment = comment;
  dimensions = dimensions_of type;
}

-- the members, when those before them end at `at`
abbrev pub members_fields : ℕ → MemberTrees → List TypeFields
members_fields at NoMember = []
members_fields at (MemberTree name type comment members) =
    member_fields (member_start at type) name type comment
    ∷ members_fields (member_start at type + type_size type) members

-- a named type has no offset, comment and dimension; an enumeration has its base's word as its type
abbrev pub named_fields : TypeTree → List ℕ → List ℕ → TypeFields
named_fields tree name type_name = record {
  size = type_size tree;
  offset = 0;
  type_id = type_id tree;
  flags = DATA_TYPE;
  name = name;
  type_name = type_name;
  comment = [];
  dimensions = [];
}

-- only structures and enumerations are named types
abbrev pub entry_of_type : TypeTree → List TypeEntry
entry_of_type (StructTree name members) =
    record { fields = named_fields (StructTree name members) name []; subs = members_fields 0 members } ∷ []
entry_of_type (EnumTree name base) =
    record { fields = named_fields (EnumTree name base) name (kind_name base); subs = [] } ∷ []
entry_of_type (PlainTree kind) = []
entry_of_type (TextTree n) = []
entry_of_type (ArrayTree bounds element) = []

abbrev pub entries_of_types : List TypeTree → List TypeEntry
entries_of_types [] = []
entries_of_types (t ∷ ts) = entry_of_type t ++ entries_of_types ts
