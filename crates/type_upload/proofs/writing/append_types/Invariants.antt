-- The entries of the types before this one are written, and their layouts are known.
use Rattle.std.proofs.Common.{◌≡◌, ◌++◌, length, take}
use Rattle.std.specs.Prelude.{flat_map}
use Rattle.spec_plant.specs.Trees.{trees_of}
use Rattle.type_layout.specs.NamedTypes.{types_of}
use Rattle.type_upload.specs.Layouts.{AreKnown}
use Rattle.type_upload.specs.NextMembers.{tree_bytes}
use Rattle.type_upload.proofs.writing.append_types.Given as goal

abbrev pub invariant-loop-named : goal.invariant-loop-named
invariant-loop-named l = record {
  written : l.out ≡ l.fn.out ++ flat_map tree_bytes (take l.named-index (trees_of (types_of l.types)));
  known : AreKnown (types_of l.types) l.known;
  count : length l.known ≡ l.named-index;
}
