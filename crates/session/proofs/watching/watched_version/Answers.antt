use Rattle.session.proofs.WatchedReach.{version_watched, version_refused}
use Rattle.session.proofs.watching.watched_version.Goals as goal

pub returns-then-len-eq1-clause-watched : goal.returns-then-len-eq1-clause-watched
returns-then-len-eq1-clause-watched c = λ ports p found. version_watched ports p c.args.len found c.if-len-eq1.true

pub returns-clause-watched : goal.returns-clause-watched
returns-clause-watched c = λ ports p found. version_refused ports p c.args.len c.if-len-eq1.false
