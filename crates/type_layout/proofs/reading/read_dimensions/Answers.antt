-- Four dimensions are too many.
use Rattle.std.proofs.Common.{sym}
use Rattle.type_layout.proofs.ManyDimensions.{dimensions_of_four}
use Rattle.type_layout.proofs.reading.read_dimensions.Goals as goal

pub returns-in_default-rest-2-clause-value : goal.returns-in_default-rest-2-clause-value
returns-in_default-rest-2-clause-value c =
    sym (dimensions_of_four c.args.text.now c.before_comma.result.0.now c.before_comma-2.result.0.now c.before_comma-3.result.0.now
    c.in-Some.text.now c.in-Some-rest.text.now c.in_default-rest-2.field-0.now (rw c.in-Some.is at c.before_comma.ensures)
    (rw c.in-Some-rest.is at c.before_comma-2.ensures) (rw c.in_default-rest-2.is at c.before_comma-3.ensures))
