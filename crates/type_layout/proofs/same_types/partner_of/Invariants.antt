-- No type before this one is the same.
use Rattle.std.proofs.Common.{◌≡◌, ℕ, ◌<◌, false}
use Rattle.std.specs.Prelude.{Some, slice_get}
use Rattle.spec_plant.specs.Listed as plain
use Rattle.type_layout.specs.NamedTypes.{types_of, named_type_of}
use Rattle.type_layout.specs.SameShapes.{same_named}
use Rattle.type_layout.proofs.same_types.partner_of.Given as goal

abbrev pub invariant-loop-place : goal.invariant-loop-place
invariant-loop-place l = (k : ℕ) (u : plain.NamedType) → k < l.place
    → slice_get (types_of l.others) k ≡ Some u → same_named l.partners (named_type_of l.named) u ≡ false
