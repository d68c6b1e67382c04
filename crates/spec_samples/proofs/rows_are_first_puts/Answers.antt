use Rattle.spec_samples.proofs.RowLemmas.{put_again_changes_nothing, keeps_first_puts, rows_rise}
use Rattle.spec_samples.proofs.rows_are_first_puts.Goals as goal

pub returns-clause-again : goal.returns-clause-again
returns-clause-again c = put_again_changes_nothing

pub returns-clause-first : goal.returns-clause-first
returns-clause-first c = keeps_first_puts

pub returns-clause-rising : goal.returns-clause-rising
returns-clause-rising c = rows_rise
