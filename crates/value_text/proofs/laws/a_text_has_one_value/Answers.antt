use Rattle.value_text.proofs.LawLemmas.{has_one_value}
use Rattle.value_text.proofs.laws.a_text_has_one_value.Goals as goal

pub returns : goal.returns
returns c = has_one_value
