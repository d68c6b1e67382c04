-- Parts of a type: the members of structures and the elements of arrays, and where steps lead.
use Rattle.std.specs.Prelude.{ℕ, ◌+◌, ◌*◌, List, [], ◌∷◌, nat_lt, if◌then◌else◌, Option, Some, None}
use Rattle.std.specs.Prelude.{option_map, option_and_then, bytes_eq, ℤ, pos, negsuc, ◌-ℤ◌}
use Rattle.name_paths.specs.Identifier.{lower}
use Rattle.name_paths.specs.Path.{Step, name_step, index_step}
use Rattle.spec_plant.specs.Listed.{Bound}
use Rattle.spec_plant.specs.Trees.{TypeTree, ArrayTree, StructTree, MemberTrees, NoMember, MemberTree}
use Rattle.spec_plant.specs.Sizes.{type_size, member_start}

-- a part: its first byte within the whole, and its type
pub record TypePart : Type 0 where
  pub first : ℕ
  pub type : TypeTree

-- a member: its declared name, its place and type, and its comment
pub record MemberPart : Type 0 where
  pub name : List ℕ
  pub first : ℕ
  pub type : TypeTree
  pub comment : List ℕ

-- the first of these members with a name, ASCII case aside, when those before them end at `at`
abbrev pub member_from : ℕ → MemberTrees → List ℕ → Option MemberPart
member_from at NoMember name = None
member_from at (MemberTree n type comment members) name =
    if bytes_eq (lower n) (lower name)
    then Some (record { name = n; first = member_start at type; type = type; comment = comment })
    else member_from (member_start at type + type_size type) members name

-- the member of a structure with this name
abbrev pub member_of : TypeTree → List ℕ → Option MemberPart
member_of (StructTree n members) name = member_from 0 members name
member_of type name = None

-- a distance, where it is from 0 to below the count
abbrev pub below : ℕ → ℤ → Option ℕ
below count (pos k) = if nat_lt k count then Some k else None
below count (negsuc k) = None

-- an index less the least one, where it lies within the bound
abbrev pub within : Bound → ℤ → Option ℕ
within bound index = below bound.count (index -ℤ bound.low)

-- the place of an element among all, the last index moving fastest; `before` is that of the indexes before these
abbrev pub element_from : ℕ → List Bound → List ℤ → Option ℕ
element_from before [] [] = Some before
element_from before (b ∷ bs) (i ∷ others) =
    option_and_then (λ k. element_from (before * b.count + k) bs others) (within b i)
element_from before bounds indexes = None

-- the element of an array with these indexes
abbrev pub element_of : TypeTree → List ℤ → Option TypePart
element_of (ArrayTree bounds element) indexes =
    option_map (λ k. record { first = k * type_size element; type = element }) (element_from 0 bounds indexes)
element_of type indexes = None

-- a member as a part
abbrev pub part_of_member : MemberPart → TypePart
part_of_member m = record { first = m.first; type = m.type }

-- the part that a step leads to
abbrev pub part_of : TypeTree → Step → Option TypePart
part_of type (name_step name) = option_map part_of_member (member_of type name)
part_of type (index_step indexes) = element_of type indexes

-- a part of a part, in terms of the whole
abbrev pub within_part : TypePart → TypePart → TypePart
within_part outer inner = record { first = outer.first + inner.first; type = inner.type }

-- the part that some steps lead to, one after another
unfoldable pub part_behind : TypePart → List Step → Option TypePart
part_behind part [] = Some part
part_behind part (step ∷ steps) =
    option_and_then (λ inner. part_behind (within_part part inner) steps) (part_of part.type step)
