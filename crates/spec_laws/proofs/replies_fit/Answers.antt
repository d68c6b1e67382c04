use Rattle.spec_laws.proofs.ShortActs.{no_more_than_asked}
use Rattle.spec_laws.proofs.RepliesFit.{replies_fit}
use Rattle.spec_laws.proofs.replies_fit.Goals as goal

pub returns-clause-asked : goal.returns-clause-asked
returns-clause-asked c = no_more_than_asked

pub returns-clause-replies : goal.returns-clause-replies
returns-clause-replies c = replies_fit
