use Rattle.spec_samples.proofs.CountLemmas.{rows_are_counted, newest_is_last}
use Rattle.spec_samples.proofs.rows_are_counted.Goals as goal

pub returns-clause-numbers : goal.returns-clause-numbers
returns-clause-numbers c = rows_are_counted

pub returns-clause-newest : goal.returns-clause-newest
returns-clause-newest c = newest_is_last
