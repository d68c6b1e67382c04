use Rattle.description_migration.proofs.MigratedLemmas.{fault_seen}
use Rattle.description_migration.proofs.migration.fault_of.Goals as goal

pub returns : goal.returns
returns c = fault_seen c.args.signals c.args.bytes.now c.in_ok-answer.answer c.err.result c.in_ok-answer.ensures.verdict c.err.ensures.value
