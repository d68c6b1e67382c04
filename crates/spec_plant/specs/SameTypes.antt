-- When a symbol's type in a new description is the one that it was: the canonical texts are equal byte for byte, and
-- each type named in them is in both a structure with members of the same names (ASCII case aside), places and types,
-- or in both an enumeration with the same base.
use Rattle.std.specs.Prelude.{ℕ, ◌+◌, Bool, true, false, ◌&&◌, ◌==◌, bytes_eq}
use Rattle.name_paths.specs.Identifier.{lower}
use Rattle.spec_plant.specs.Plain.{Kind, kind_name}
use Rattle.spec_plant.specs.Trees.{TypeTree, PlainTree, TextTree, EnumTree, ArrayTree, StructTree, MemberTrees, NoMember, MemberTree}
use Rattle.spec_plant.specs.Sizes.{element_count, type_size, member_start}
use Rattle.spec_plant.specs.Spelling.{type_text}

-- the same plain type
abbrev pub is_same_kind : Kind → Kind → Bool
is_same_kind k l = bytes_eq (kind_name k) (kind_name l)

unfoldable mutual
  -- what is compared beside the texts: the types that they name. (Equal texts have the same plain type, length and number
  -- of elements; that these are compared too spares a proof of it.)
  pub has_same_parts : TypeTree → TypeTree → Bool
  has_same_parts (PlainTree k) (PlainTree l) = is_same_kind k l
  has_same_parts (TextTree m) (TextTree n) = m == n
  has_same_parts (EnumTree name k) (EnumTree other l) = is_same_kind k l
  has_same_parts (ArrayTree bounds t) (ArrayTree others u) =
      (element_count bounds == element_count others) && has_same_parts t u
  has_same_parts (StructTree name ms) (StructTree other ns) = has_same_members 0 ms 0 ns
  has_same_parts t u = false

  -- members at the same places, when those before them end at `at` and `by`
  pub has_same_members : ℕ → MemberTrees → ℕ → MemberTrees → Bool
  has_same_members at NoMember by NoMember = true
  has_same_members at (MemberTree m t comment ms) by (MemberTree n u remark ns) =
      bytes_eq (lower m) (lower n) && (member_start at t == member_start by u)
      && (bytes_eq (type_text t) (type_text u) && has_same_parts t u)
      && has_same_members (member_start at t + type_size t) ms (member_start by u + type_size u) ns
  has_same_members at ms by ns = false

-- the same type
abbrev pub is_same_type : TypeTree → TypeTree → Bool
is_same_type t u = bytes_eq (type_text t) (type_text u) && has_same_parts t u
