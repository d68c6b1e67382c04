-- The dimensions before this one are written.
use Rattle.std.proofs.Common.{◌≡◌, ◌++◌, take}
use Rattle.std.specs.Prelude.{flat_map}
use Rattle.type_upload.specs.WrittenFields.{bound_bytes}
use Rattle.type_upload.proofs.fields.append_dimensions.Given as goal

abbrev pub invariant-loop-bound : goal.invariant-loop-bound
invariant-loop-bound l = l.out ≡ l.initial.out ++ flat_map bound_bytes (take l.bound-index l.dims)
