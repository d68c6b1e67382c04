use Rattle.value_text.proofs.ValuesFound.{values_found}
use Rattle.value_text.proofs.laws.values_are_found.Goals as goal

pub returns : goal.returns
returns c = values_found
