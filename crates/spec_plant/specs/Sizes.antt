-- Size and alignment of a type, in bytes. Topic: alignment of data types and structures.
use Rattle.std.specs.Prelude.{ℕ, ◌+◌, ◌-◌, ◌*◌, ◌%◌, min, max, List, [], ◌∷◌}
use Rattle.spec_plant.specs.Plain.{kind_size, kind_align}
use Rattle.spec_plant.specs.Listed.{Bound}
use Rattle.spec_plant.specs.Trees.{TypeTree, PlainTree, TextTree, EnumTree, ArrayTree, StructTree, MemberTrees, NoMember, MemberTree}

-- the number of elements of an array
abbrev pub element_count : List Bound → ℕ
element_count [] = 1
element_count (b ∷ bs) = b.count * element_count bs

-- the least multiple of `unit` from `at` on
abbrev pub aligned : ℕ → ℕ → ℕ
aligned at unit = at + (unit - at % unit) % unit

unfoldable mutual
  -- an array has the alignment of its elements, a structure the greatest of its members'
  pub type_align : TypeTree → ℕ
  type_align (PlainTree kind) = kind_align kind
  type_align (TextTree n) = 1
  type_align (EnumTree name base) = kind_align base
  type_align (ArrayTree bounds element) = type_align element
  type_align (StructTree name members) = greatest_align members

  pub greatest_align : MemberTrees → ℕ
  greatest_align NoMember = 1
  greatest_align (MemberTree name type comment members) = max (type_align type) (greatest_align members)

-- where a member stands whose type is this, when the members before it end at `at`
abbrev pub member_start : ℕ → TypeTree → ℕ
member_start at type = aligned at (min (type_align type) 8)

unfoldable mutual
  -- a text has one byte more than characters; a structure is filled up to a multiple of its alignment
  pub type_size : TypeTree → ℕ
  type_size (PlainTree kind) = kind_size kind
  type_size (TextTree n) = n + 1
  type_size (EnumTree name base) = kind_size base
  type_size (ArrayTree bounds element) = element_count bounds * type_size element
  type_size (StructTree name members) = aligned (members_end 0 members) (greatest_align members)

  -- where these members end, when those before them end at `at`
  pub members_end : ℕ → MemberTrees → ℕ
  members_end at NoMember = at
  members_end at (MemberTree name type comment members) =
      members_end (member_start at type + type_size type) members

unfoldable mutual
  -- how deep structures are nested: a structure of plain types alone is 1 deep
  pub type_depth : TypeTree → ℕ
  type_depth (PlainTree kind) = 0
  type_depth (TextTree n) = 0
  type_depth (EnumTree name base) = 0
  type_depth (ArrayTree bounds element) = type_depth element
  type_depth (StructTree name members) = 1 + greatest_depth members

  pub greatest_depth : MemberTrees → ℕ
  greatest_depth NoMember = 0
  greatest_depth (MemberTree name type comment members) = max (type_depth type) (greatest_depth members)
