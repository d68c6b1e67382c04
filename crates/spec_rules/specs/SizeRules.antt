-- Description rule 8: the size of types.
use Rattle.std.specs.Prelude.{ℕ, List, [], Bool, ◌&&◌, Option}
use Rattle.std.specs.List.{list_all}
use Rattle.spec_plant.specs.Listed.{Member, NamedType, Structure, Enumeration}
use Rattle.spec_plant.specs.Trees.{trees_of, named_tree}
use Rattle.spec_plant.specs.AcceptedTypes.{is_small_shape, is_small_type}
use Rattle.spec_rules.specs.Places.{first_wrong}

-- the members of a type; an enumeration has none
abbrev pub members_of : NamedType → List Member
members_of (Structure name members) = members
members_of (Enumeration name base values) = []

-- no array of too many elements, not too many bytes, and not too deep, where these types stand before it
abbrev pub is_right_size : List NamedType → NamedType → Bool
is_right_size before t =
    list_all (λ (m : Member). is_small_shape m.shape) (members_of t) && is_small_type (named_tree (trees_of before) t)

-- rule 8: arrays of at most 1,048,576 elements, structures of at most 1,048,576 bytes, nested at most 16 deep
unfoldable pub wrong_size : List NamedType → Option ℕ
wrong_size types = first_wrong is_right_size [] types
