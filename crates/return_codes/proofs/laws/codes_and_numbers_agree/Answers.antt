use Rattle.return_codes.proofs.CodeLemmas.{inverse, table}
use Rattle.return_codes.proofs.laws.codes_and_numbers_agree.Goals as goal

pub returns-clause-inverse : goal.returns-clause-inverse
returns-clause-inverse c = inverse

pub returns-clause-table : goal.returns-clause-table
returns-clause-table c = table
