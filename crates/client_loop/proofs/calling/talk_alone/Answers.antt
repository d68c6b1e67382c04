-- With the keeper of no rows, which never fails.
use Rattle.client_loop.proofs.ReadyLemmas.{ready_untold}
use Rattle.client_loop.proofs.calling.talk_alone.Goals as goal

pub talk_by-requires : goal.talk_by-requires
talk_by-requires g c = ready_untold c.args.runner.now c.requires.0 c.requires.1

pub returns-in-Ok-Loop-clause-talks : goal.returns-in-Ok-Loop-clause-talks
returns-in-Ok-Loop-clause-talks g c = λ me peer call stands.
    (c.talk_by.new.runner, (rw c.in-Ok-Loop.field-0-is at c.in-Ok-Loop.ensures.talks) me peer call stands)

pub returns-in-Ok-Loop-clause-out_later : goal.returns-in-Ok-Loop-clause-out_later
returns-in-Ok-Loop-clause-out_later g c = c.talk_by.ensures.out_later.sink

pub returns-in-Ok-KeeperFault-clause-talks : goal.returns-in-Ok-KeeperFault-clause-talks
returns-in-Ok-KeeperFault-clause-talks g c = λ me peer call stands.
    ((rw c.in-Ok-KeeperFault.field-0-is at c.in-Ok-KeeperFault.ensures.talks) me peer call stands).1

pub returns-in-Ok-KeeperFault-clause-out_later : goal.returns-in-Ok-KeeperFault-clause-out_later
returns-in-Ok-KeeperFault-clause-out_later g c = c.talk_by.ensures.out_later.sink

pub returns-in-Err-clause-talks : goal.returns-in-Err-clause-talks
returns-in-Err-clause-talks g c = λ me peer call stands. c.in-Err.ensures.talks me peer call stands

pub returns-in-Err-clause-out_later : goal.returns-in-Err-clause-out_later
returns-in-Err-clause-out_later g c = c.talk_by.ensures.out_later.sink
