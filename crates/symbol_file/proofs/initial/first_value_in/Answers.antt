use Rattle.symbol_file.proofs.InitialLemmas.{first_value-found}
use Rattle.symbol_file.proofs.initial.first_value_in.Goals as goal

pub returns : goal.returns
returns c = first_value-found c.args.e.now c.as_slice.result.now c.first_value_among.result c.as_slice.ensures c.first_value_among.ensures
