-- What is built of a document's types, where no array in it has too many elements.
use Rattle.std.specs.Prelude.{◌≡◌, Bool, true, false, Option, Some, None, List, map}
use Rattle.std.specs.List.{list_all}
use Rattle.spec_plant.specs.Listed as listed
use Rattle.spec_plant.specs.AcceptedTypes.{is_small_shape}
use Rattle.spec_rules.specs.SizeRules.{members_of}
use Rattle.type_layout.specs.Shapes.{shape_of}
use Rattle.type_layout.specs.NamedTypes.{member_of, named_type_of}
use Rattle.type_layout.specs.declared.shape.Shape.{Shape}
use Rattle.type_layout.specs.declared.structures.Member.{Member}
use Rattle.type_layout.specs.declared.named_type.NamedType.{NamedType}

-- whether a member is no array of too many elements
abbrev pub is_small_member : listed.Member → Bool
is_small_member m = is_small_shape m.shape

abbrev pub are_small_members : List listed.Member → Bool
are_small_members = list_all is_small_member

-- the shape, which has not too many elements; or None, where it has too many
abbrev pub IsShapeOrLarge : listed.Shape → Option Shape → Type 0
IsShapeOrLarge shape None = is_small_shape shape ≡ false
IsShapeOrLarge shape (Some s) = (shape_of s ≡ shape) × (is_small_shape shape ≡ true)

abbrev pub IsMemberOrLarge : listed.Member → Option Member → Type 0
IsMemberOrLarge member None = is_small_member member ≡ false
IsMemberOrLarge member (Some m) = (member_of m ≡ member) × (is_small_member member ≡ true)

abbrev pub AreMembersOrLarge : List listed.Member → Option (List Member) → Type 0
AreMembersOrLarge members None = are_small_members members ≡ false
AreMembersOrLarge members (Some ms) = (map member_of ms ≡ members) × (are_small_members members ≡ true)

abbrev pub IsTypeOrLarge : listed.NamedType → Option NamedType → Type 0
IsTypeOrLarge type None = are_small_members (members_of type) ≡ false
IsTypeOrLarge type (Some t) = (named_type_of t ≡ type) × (are_small_members (members_of type) ≡ true)
