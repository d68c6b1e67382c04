use Rattle.ads_commands.proofs.LawLemmas.{requests, replies}
use Rattle.ads_commands.proofs.laws.what_is_written_is_read.Goals as goal

pub returns-clause-requests : goal.returns-clause-requests
returns-clause-requests c = requests

pub returns-clause-replies : goal.returns-clause-replies
returns-clause-replies c = replies
