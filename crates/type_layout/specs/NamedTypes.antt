-- The members, values and named types that the code's values are.
use Rattle.std.specs.Prelude.{List, map}
use Rattle.spec_plant.specs.Listed as listed
use Rattle.type_layout.specs.Shapes.{kind_of, shape_of}
use Rattle.type_layout.specs.declared.structures.Member.{Member}
use Rattle.type_layout.specs.declared.structures.StructType.{StructType}
use Rattle.type_layout.specs.declared.enumerations.EnumValue.{EnumValue}
use Rattle.type_layout.specs.declared.enumerations.EnumType.{EnumType}
use Rattle.type_layout.specs.declared.named_type.NamedType.{NamedType}
use Rattle.type_layout.specs.declared.named_type.NamedType.TheVariants as named

abbrev pub member_of : Member → listed.Member
member_of m = record { name = m.name; shape = shape_of m.kind; comment = m.comment }

abbrev pub value_of : EnumValue → listed.EnumValue
value_of v = record { name = v.name; number = v.number }

abbrev pub structure_of : StructType → listed.NamedType
structure_of s = listed.Structure s.name (map member_of s.members)

abbrev pub enumeration_of : EnumType → listed.NamedType
enumeration_of e = listed.Enumeration e.name (kind_of e.base) (map value_of e.values)

abbrev pub named_type_of : NamedType → listed.NamedType
named_type_of (named.Struct s) = structure_of s
named_type_of (named.Enum e) = enumeration_of e

abbrev pub types_of : List NamedType → List listed.NamedType
types_of types = map named_type_of types
