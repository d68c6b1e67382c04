-- For private contracts, and cited by no public clause: the shape that a text names, as the code reads it.
use Rattle.std.specs.Prelude.{List}
use Rattle.spec_plant.specs.Listed.{Shape}
use Rattle.spec_plant.specs.TypeTexts.{Ends}
use Rattle.spec_plant.specs.Shapes.{shape_with}
use Rattle.type_layout.specs.Shapes.{elem_of}
use Rattle.type_layout.specs.ReadTexts.{ends_among}
use Rattle.description_rules.specs.declared.named_shapes.NamedShape.{NamedShape}

abbrev pub ends_read : NamedShape → List Ends
ends_read s = ends_among s.count s.first s.second s.third

abbrev pub shape_read : NamedShape → Shape
shape_read s = shape_with (ends_read s) (elem_of s.elem)
