use Rattle.value_text.proofs.LawLemmas.{is_read_again}
use Rattle.value_text.proofs.laws.a_value_is_read_again.Goals as goal

pub returns : goal.returns
returns c = is_read_again
