-- The law is spec_plant's lemma.
use Rattle.spec_plant.proofs.ReadBack.{read_back}
use Rattle.type_layout.proofs.laws.canonical_texts_are_read_back.Goals as goal

pub returns : goal.returns
returns c = read_back
