-- The layouts of the types before this one are known.
use Rattle.std.proofs.Common.{◌≡◌, length}
use Rattle.type_layout.specs.NamedTypes.{types_of}
use Rattle.type_upload.specs.Layouts.{AreKnown}
use Rattle.type_upload.proofs.alone.layouts_before.Given as goal

abbrev pub invariant-loop-place : goal.invariant-loop-place
invariant-loop-place l = record {
  known : AreKnown (types_of l.types) l.known;
  count : length l.known ≡ l.place;
}
