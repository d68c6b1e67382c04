-- The conversation, and what follows it.
use Rattle.std.proofs.Common.{inl}
use Rattle.spec_client.specs.Conversation.{conversation_begun}
use Rattle.client_loop.specs.Due.{first_steps}
use Rattle.client_loop.specs.Outlets.{outlets}
use Rattle.client_loop.proofs.LaterLemmas.{out_then}
use Rattle.client_loop.proofs.FinishLemmas.{finished_so}
use Rattle.client_loop.proofs.recording.record_by.Goals as goal

pub talk_by-requires : goal.talk_by-requires
talk_by-requires g c = c.requires

pub returns-in-Ok-clause-records : goal.returns-in-Ok-clause-records
returns-in-Ok-clause-records g c = λ me peer call stands.
    finished_so c.in-Ok.end c.finish.result (first_steps me peer call c.args.now) (conversation_begun me peer call c.args.now) c.talk_by.new.runner
    (g.L.Link.tells c.args.link.now) (g.L.Link.tells c.talk_by.new.link) (g.L.Link.state c.args.link.now) (g.L.Link.state c.talk_by.new.link)
    (outlets (g.S.Sink.state c.args.out.now) (g.K.Keeper.state c.args.keeper.now))
    (outlets (g.S.Sink.state c.talk_by.new.out) (g.K.Keeper.state c.talk_by.new.keeper))
    (outlets (g.S.Sink.state c.finish.new.out) (g.K.Keeper.state c.finish.new.keeper))
    c.talk_by.ensures.out_later (c.in-Ok.ensures.talks me peer call stands) c.finish.ensures.finishes

pub returns-in-Ok-clause-out_later : goal.returns-in-Ok-clause-out_later
returns-in-Ok-clause-out_later g c = out_then
    (outlets (g.S.Sink.state c.args.out.now) (g.K.Keeper.state c.args.keeper.now))
    (outlets (g.S.Sink.state c.talk_by.new.out) (g.K.Keeper.state c.talk_by.new.keeper))
    (outlets (g.S.Sink.state c.finish.new.out) (g.K.Keeper.state c.finish.new.keeper))
    c.talk_by.ensures.out_later c.finish.ensures.out_later

pub returns-in-Err-clause-records : goal.returns-in-Err-clause-records
returns-in-Err-clause-records g c = λ me peer call stands. inl (c.in-Err.ensures.talks me peer call stands)
