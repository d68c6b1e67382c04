-- It is told of the types before this one.
use Rattle.type_layout.specs.NamedTypes.{types_of}
use Rattle.type_layout.specs.SameShapes.{ArePartners}
use Rattle.type_layout.proofs.same_types.partners_of.Given as goal

abbrev pub invariant-loop-named : goal.invariant-loop-named
invariant-loop-named l = ArePartners (types_of l.old) (types_of l.new) l.named-index l.partners.items
