use Rattle.std.proofs.Common.{[], ◌∷◌}
use Rattle.std.proofs.lemmas.List.Sums.{fold-append}
use Rattle.notify_table.specs.Table.{table_after, no_watches}
use Rattle.notify_table.proofs.laws.histories_determine_notifications.Goals as goal

pub returns-clause-more : goal.returns-clause-more
returns-clause-more c = λ history event. fold-append table_after no_watches history (event ∷ [])
