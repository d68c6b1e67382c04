use Rattle.std.proofs.Common.{take}
use Rattle.std.specs.Prelude.{flat_map}
use Rattle.type_upload.specs.WrittenFields.{bound_bytes}
use Rattle.type_upload.proofs.Appends.{on_err, extends_behind}
use Rattle.type_upload.proofs.fields.append_dimensions.Goals as goal

pub returns-in_err-append_dimension-clause-no_memory : goal.returns-in_err-append_dimension-clause-no_memory
returns-in_err-append_dimension-clause-no_memory c =
    on_err c.from_residual.result _
    (extends_behind c.args.out.now (flat_map bound_bytes (take c.loop-bound.bound-index c.args.dims.now)) c.loop-bound.out c.append_dimension.new.out
    c.loop-bound.invariant c.in_err-append_dimension.ensures.no_memory)
