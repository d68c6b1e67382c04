-- The plain kinds, elements, bounds and shapes that the code's values are.
use Rattle.std.specs.Prelude.{List, map}
use Rattle.spec_plant.specs.Plain as plain
use Rattle.spec_plant.specs.Listed as listed
use Rattle.type_layout.specs.declared.kind.Kind.{Kind}
use Rattle.type_layout.specs.declared.kind.Kind.TheVariants as kind
use Rattle.type_layout.specs.declared.shape.Elem.{Elem}
use Rattle.type_layout.specs.declared.shape.Elem.TheVariants as elem
use Rattle.type_layout.specs.declared.shape.Bound.{Bound}
use Rattle.type_layout.specs.declared.shape.Shape.{Shape}
use Rattle.type_layout.specs.declared.shape.Shape.TheVariants as shape
use Rattle.type_layout.specs.declared.shape.TypeRef.{TypeRef}
use Rattle.type_layout.specs.declared.shape.TypeRef.TheVariants as type_ref

abbrev pub kind_of : Kind → plain.Kind
kind_of kind.Bool = plain.BOOL
kind_of kind.Sint = plain.SINT
kind_of kind.Usint = plain.USINT
kind_of kind.Byte = plain.BYTE
kind_of kind.Int = plain.INT
kind_of kind.Uint = plain.UINT
kind_of kind.Word = plain.WORD
kind_of kind.Dint = plain.DINT
kind_of kind.Udint = plain.UDINT
kind_of kind.Dword = plain.DWORD
kind_of kind.Time = plain.TIME
kind_of kind.Lint = plain.LINT
kind_of kind.Ulint = plain.ULINT
kind_of kind.Lword = plain.LWORD
kind_of kind.Real = plain.REAL
kind_of kind.Lreal = plain.LREAL

abbrev pub elem_of : Elem → listed.Elem
elem_of (elem.Plain k) = listed.Plain (kind_of k)
elem_of (elem.Text n) = listed.Text n
elem_of (elem.Struct place) = listed.Struct place
elem_of (elem.Enum place) = listed.Enum place

abbrev pub bound_of : Bound → listed.Bound
bound_of b = record { low = b.low; count = b.count }

abbrev pub bounds_of : List Bound → List listed.Bound
bounds_of bounds = map bound_of bounds

abbrev pub shape_of : Shape → listed.Shape
shape_of (shape.One e) = listed.One (elem_of e)
shape_of (shape.Array bounds e) = listed.Array (bounds_of bounds) (elem_of e)

-- the shape that a type with borrowed bounds has
abbrev pub shape_of_ref : TypeRef → listed.Shape
shape_of_ref (type_ref.One e) = listed.One (elem_of e)
shape_of_ref (type_ref.Array bounds e) = listed.Array (bounds_of bounds.now) (elem_of e)
