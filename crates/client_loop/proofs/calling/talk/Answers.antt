-- With a runner, or without memory for it.
use Rattle.client_loop.proofs.LaterLemmas.{link_same, sink_same}
use Rattle.client_loop.proofs.TalkLemmas.{never_called}
use Rattle.client_loop.proofs.calling.talk.Goals as goal

pub new-requires : goal.new-requires
new-requires g c = c.requires

pub talk_alone-requires : goal.talk_alone-requires
talk_alone-requires g c = (_, c.in-Ok.ensures)

pub returns-in-Ok-clause-talks : goal.returns-in-Ok-clause-talks
returns-in-Ok-clause-talks g c = c.talk_alone.ensures.talks _ _ _ c.in-Ok.ensures

pub returns-in-Err-clause-talks : goal.returns-in-Err-clause-talks
returns-in-Err-clause-talks g c =
    never_called c.in-Err.e _ _ _ (g.L.Link.state c.args.link.now) (g.S.Sink.state c.args.out.now)

pub returns-in-Err-clause-link_later : goal.returns-in-Err-clause-link_later
returns-in-Err-clause-link_later g c = link_same _

pub returns-in-Err-clause-out_later : goal.returns-in-Err-clause-out_later
returns-in-Err-clause-out_later g c = sink_same _
