use Rattle.spec_server.proofs.TypeProofs.{named_types_are_listed}
use Rattle.spec_server.proofs.types_are_found_by_texts.Goals as goal

pub returns : goal.returns
returns c = named_types_are_listed
