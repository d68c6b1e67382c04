use Rattle.spec_machine.proofs.AreaNames.{tiles_give_names, spans_give_names, names_are_one_to_one, names_are_of_areas}
use Rattle.spec_machine.proofs.areas.bytes_have_names.Goals as goal

pub returns-clause-tiles : goal.returns-clause-tiles
returns-clause-tiles c = tiles_give_names

pub returns-clause-spans : goal.returns-clause-spans
returns-clause-spans c = spans_give_names

pub returns-clause-one_to_one : goal.returns-clause-one_to_one
returns-clause-one_to_one c = names_are_one_to_one

pub returns-clause-areas : goal.returns-clause-areas
returns-clause-areas c = names_are_of_areas
