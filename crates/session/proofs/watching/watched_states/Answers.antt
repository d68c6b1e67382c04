use Rattle.session.proofs.WatchedReach.{states_watched, states_refused}
use Rattle.session.proofs.watching.watched_states.Goals as goal

pub returns-in-Ok-clause-watched : goal.returns-in-Ok-clause-watched
returns-in-Ok-clause-watched c = λ ports p found.
    states_watched ports p c.args.offset c.args.len found c.in-Ok.ensures.within (c.in-Ok.ensures.reach p.number)

pub returns-in-Err-clause-watched : goal.returns-in-Err-clause-watched
returns-in-Err-clause-watched c = λ ports p found.
    states_refused ports p c.args.offset c.args.len c.in-Err.code (c.in-Err.ensures.reach p.number)
