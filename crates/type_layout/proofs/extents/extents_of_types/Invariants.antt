-- Those of the types before this one.
use Rattle.std.proofs.Common.{◌≡◌, take}
use Rattle.type_layout.specs.NamedTypes.{types_of}
use Rattle.type_layout.specs.Extents.{extents_of}
use Rattle.type_layout.proofs.extents.extents_of_types.Given as goal

abbrev pub invariant-loop-place : goal.invariant-loop-place
invariant-loop-place l = l.each.items ≡ take l.place (extents_of (types_of l.types))
