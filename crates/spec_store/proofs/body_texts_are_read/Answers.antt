use Rattle.spec_store.proofs.BodyLemmas.{body_texts_are_read}
use Rattle.spec_store.proofs.body_texts_are_read.Goals as goal

pub returns : goal.returns
returns c = body_texts_are_read
