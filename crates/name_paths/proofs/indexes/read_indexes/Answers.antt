use Rattle.std.proofs.Common.{sym}
use Rattle.name_paths.proofs.SplitLemmas.{indexes_of_four}
use Rattle.name_paths.proofs.indexes.read_indexes.Goals as goal

pub returns-in_default-rest-2-clause-value : goal.returns-in_default-rest-2-clause-value
returns-in_default-rest-2-clause-value c =
    sym (indexes_of_four c.args.text.now c.before_comma.result.0.now c.before_comma-2.result.0.now c.before_comma-3.result.0.now
    c.in-Some.text.now c.in-Some-rest.text.now c.in_default-rest-2.field-0.now (rw c.in-Some.is at c.before_comma.ensures)
    (rw c.in-Some-rest.is at c.before_comma-2.ensures) (rw c.in_default-rest-2.is at c.before_comma-3.ensures))
