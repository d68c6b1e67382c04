-- Types as trees, and the trees that the types of a list stand for.
use Rattle.std.specs.Prelude.{ℕ, List, [], ◌∷◌, ◌++◌, slice_get, unwrap_or}
use Rattle.spec_plant.specs.Plain.{Kind}
use Rattle.spec_plant.specs.Listed.{Bound, Elem, Plain, Text, Struct, Enum, Shape, One, Array, Member, NamedType, Structure, Enumeration}

mutual
  -- a plain type; a text of at most n bytes; an enumeration by its name and base; an array; a structure
  pub data TypeTree : Type 0 where
    PlainTree : Kind → TypeTree
    TextTree : ℕ → TypeTree
    EnumTree : List ℕ → Kind → TypeTree
    ArrayTree : List Bound → TypeTree → TypeTree
    StructTree : List ℕ → MemberTrees → TypeTree

  -- the members of a structure, each by its name, type and comment
  pub data MemberTrees : Type 0 where
    NoMember : MemberTrees
    MemberTree : List ℕ → TypeTree → List ℕ → MemberTrees → MemberTrees

-- the tree at a place; a place that is not in the list stands for a structure of no members
abbrev pub tree_at : List TypeTree → ℕ → TypeTree
tree_at known place = unwrap_or (slice_get known place) (StructTree [] NoMember)

-- the tree of an element, where these are the trees of the list
abbrev pub elem_tree : List TypeTree → Elem → TypeTree
elem_tree known (Plain kind) = PlainTree kind
elem_tree known (Text n) = TextTree n
elem_tree known (Struct place) = tree_at known place
elem_tree known (Enum place) = tree_at known place

abbrev pub shape_tree : List TypeTree → Shape → TypeTree
shape_tree known (One elem) = elem_tree known elem
shape_tree known (Array bounds elem) = ArrayTree bounds (elem_tree known elem)

abbrev pub member_trees : List TypeTree → List Member → MemberTrees
member_trees known [] = NoMember
member_trees known (m ∷ ms) =
    MemberTree m.name (shape_tree known m.shape) m.comment (member_trees known ms)

-- the tree of a named type, where these are the trees of the types before it
abbrev pub named_tree : List TypeTree → NamedType → TypeTree
named_tree known (Structure name members) = StructTree name (member_trees known members)
named_tree known (Enumeration name base values) = EnumTree name base

-- the known trees, and those of further types, each in terms of the ones before it
unfoldable pub trees_behind : List TypeTree → List NamedType → List TypeTree
trees_behind known [] = known
trees_behind known (t ∷ ts) = trees_behind (known ++ named_tree known t ∷ []) ts

-- the trees of a list of types
unfoldable pub trees_of : List NamedType → List TypeTree
trees_of types = trees_behind [] types

-- the tree of a type that names types of this list
abbrev pub tree_of : List NamedType → Shape → TypeTree
tree_of types shape = shape_tree (trees_of types) shape
