use Rattle.spec_plant.proofs.BlockLemmas.{changes_are_exact, stands_within_part, tells_names_apart}
use Rattle.spec_plant.proofs.bytes_stand_under_names.Goals as goal

pub returns-clause-changes : goal.returns-clause-changes
returns-clause-changes c = changes_are_exact

pub returns-clause-stands : goal.returns-clause-stands
returns-clause-stands c = stands_within_part

pub returns-clause-names : goal.returns-clause-names
returns-clause-names c = tells_names_apart
