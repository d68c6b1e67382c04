-- The first turns, by how they ended.
use Rattle.client_loop.specs.Due.{first_steps}
use Rattle.client_loop.specs.Outlets.{outlets}
use Rattle.client_loop.proofs.LaterLemmas.{link_then, out_then}
use Rattle.spec_client.specs.Conversation.{conversation_begun}
use Rattle.spec_client.specs.Runner.{new_runner}
use Rattle.client_loop.proofs.TalkLemmas.{begins, gives_begun, text_begun, ends_from, over_first, link_first, write_first, keeper_first, memory_first}
use Rattle.client_loop.proofs.calling.talk_by.Goals as goal

pub take_turns-requires : goal.take_turns-requires
take_turns-requires g c = c.requires

pub hear_all-requires : goal.hear_all-requires
hear_all-requires g c = rw c.in-Ok-Waits.field-0-is at c.in-Ok-Waits.ensures.ready

pub returns-in-Ok-Waits-clause-talks : goal.returns-in-Ok-Waits-clause-talks
returns-in-Ok-Waits-clause-talks g c = λ me peer call stands.
    let link = g.L.Link.state c.args.link.now in
    let mid_link = g.L.Link.state c.take_turns.new.link in
    let out = outlets (g.S.Sink.state c.args.out.now) (g.K.Keeper.state c.args.keeper.now) in
    let mid = outlets (g.S.Sink.state c.take_turns.new.out) (g.K.Keeper.state c.take_turns.new.keeper) in
    let k = c.take_turns.new.runner in
    let first = g.L.Link.tells c.args.link.now in
    let second = g.L.Link.tells c.take_turns.new.link in
    let t = (rw c.in-Ok-Waits.field-0-is at c.in-Ok-Waits.ensures.turns) (new_runner me peer call) 1 stands in
    ends_from c.hear_all.result (first_steps me peer call c.args.now) (conversation_begun me peer call c.args.now) c.hear_all.new.runner
    first second (g.L.Link.tells c.hear_all.new.link)
    link mid_link (g.L.Link.state c.hear_all.new.link) out mid (outlets (g.S.Sink.state c.hear_all.new.out) (g.K.Keeper.state c.hear_all.new.keeper))
    c.take_turns.ensures.same c.take_turns.ensures.link_later.faults c.take_turns.ensures.out_later (text_begun me peer call c.args.now)
    (gives_begun me peer call c.args.now k first second link mid_link out mid t)
    (c.hear_all.ensures.ends (conversation_begun me peer call c.args.now) (begins me peer call c.args.now k first second link mid_link out mid t))

pub returns-in-Ok-Waits-clause-link_later : goal.returns-in-Ok-Waits-clause-link_later
returns-in-Ok-Waits-clause-link_later g c = link_then _ _ _ c.take_turns.ensures.link_later c.hear_all.ensures.link_later

pub returns-in-Ok-Waits-clause-out_later : goal.returns-in-Ok-Waits-clause-out_later
returns-in-Ok-Waits-clause-out_later g c = out_then _ _ _ c.take_turns.ensures.out_later c.hear_all.ensures.out_later

pub returns-in-Ok-Over-clause-talks : goal.returns-in-Ok-Over-clause-talks
returns-in-Ok-Over-clause-talks g c = λ me peer call stands.
    over_first c.in-Ok-Over.end me peer call c.args.now c.take_turns.new.runner (g.L.Link.tells c.args.link.now) (g.L.Link.tells c.take_turns.new.link)
    (g.L.Link.state c.args.link.now) (g.L.Link.state c.take_turns.new.link) (outlets (g.S.Sink.state c.args.out.now) (g.K.Keeper.state c.args.keeper.now))
    (outlets (g.S.Sink.state c.take_turns.new.out) (g.K.Keeper.state c.take_turns.new.keeper))
    c.take_turns.ensures.same ((rw c.in-Ok-Over.field-0-is at c.in-Ok-Over.ensures.turns) (new_runner me peer call) 1 stands)

pub returns-in-Ok-LinkFault-clause-talks : goal.returns-in-Ok-LinkFault-clause-talks
returns-in-Ok-LinkFault-clause-talks g c = λ me peer call stands.
    link_first me peer call c.args.now c.take_turns.new.runner (g.L.Link.tells c.args.link.now) (g.L.Link.tells c.take_turns.new.link)
    (g.L.Link.state c.args.link.now) (g.L.Link.state c.take_turns.new.link) (outlets (g.S.Sink.state c.args.out.now) (g.K.Keeper.state c.args.keeper.now))
    (outlets (g.S.Sink.state c.take_turns.new.out) (g.K.Keeper.state c.take_turns.new.keeper))
    c.take_turns.ensures.same ((rw c.in-Ok-LinkFault.field-0-is at c.in-Ok-LinkFault.ensures.turns) (new_runner me peer call) 1 stands)

pub returns-in-Ok-WriteFault-clause-talks : goal.returns-in-Ok-WriteFault-clause-talks
returns-in-Ok-WriteFault-clause-talks g c = λ me peer call stands.
    write_first me peer call c.args.now c.take_turns.new.runner (g.L.Link.tells c.args.link.now) (g.L.Link.tells c.take_turns.new.link)
    (g.L.Link.state c.args.link.now) (g.L.Link.state c.take_turns.new.link) (outlets (g.S.Sink.state c.args.out.now) (g.K.Keeper.state c.args.keeper.now))
    (outlets (g.S.Sink.state c.take_turns.new.out) (g.K.Keeper.state c.take_turns.new.keeper))
    c.take_turns.ensures.same ((rw c.in-Ok-WriteFault.field-0-is at c.in-Ok-WriteFault.ensures.turns) (new_runner me peer call) 1 stands)

pub returns-in-Ok-KeeperFault-clause-talks : goal.returns-in-Ok-KeeperFault-clause-talks
returns-in-Ok-KeeperFault-clause-talks g c = λ me peer call stands.
    keeper_first me peer call c.args.now c.take_turns.new.runner (g.L.Link.tells c.args.link.now) (g.L.Link.tells c.take_turns.new.link)
    (g.L.Link.state c.args.link.now) (g.L.Link.state c.take_turns.new.link) (outlets (g.S.Sink.state c.args.out.now) (g.K.Keeper.state c.args.keeper.now))
    (outlets (g.S.Sink.state c.take_turns.new.out) (g.K.Keeper.state c.take_turns.new.keeper))
    c.take_turns.ensures.same ((rw c.in-Ok-KeeperFault.field-0-is at c.in-Ok-KeeperFault.ensures.turns) (new_runner me peer call) 1 stands)

pub returns-in-Err-clause-talks : goal.returns-in-Err-clause-talks
returns-in-Err-clause-talks g c = λ me peer call stands.
    memory_first c.in-Err.e me peer call c.args.now c.take_turns.new.runner (g.L.Link.tells c.args.link.now) (g.L.Link.tells c.take_turns.new.link)
    (g.L.Link.state c.args.link.now) (g.L.Link.state c.take_turns.new.link) (outlets (g.S.Sink.state c.args.out.now) (g.K.Keeper.state c.args.keeper.now))
    (outlets (g.S.Sink.state c.take_turns.new.out) (g.K.Keeper.state c.take_turns.new.keeper))
    c.take_turns.ensures.same (c.in-Err.ensures.turns (new_runner me peer call) 1 stands)
