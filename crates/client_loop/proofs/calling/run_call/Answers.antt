-- The call behind its connection, or none.
use Rattle.std.proofs.Common.{refl, inl}
use Rattle.ams_header.specs.Header.{address_of}
use Rattle.client_replies.specs.Stages.{call_meant}
use Rattle.client_loop.specs.Called.{calling}
use Rattle.client_loop.proofs.LaterLemmas.{link_then, sink_same}
use Rattle.client_loop.proofs.TalkLemmas.{calls}
use Rattle.client_loop.proofs.calling.run_call.Goals as goal

pub talk-requires : goal.talk-requires
talk-requires g c = c.requires

pub returns-in-Ready-clause-called : goal.returns-in-Ready-clause-called
returns-in-Ready-clause-called g c =
    calls c.talk.result (calling (address_of c.args.me) (address_of c.args.peer) (call_meant c.args.call) c.args.to.now) c.in-Ready.now
    (g.L.Link.tells c.args.link.now) (g.L.Link.tells c.connect.new.self) (g.L.Link.tells c.talk.new.link)
    (g.L.Link.state c.args.link.now) (g.L.Link.state c.connect.new.self) (g.L.Link.state c.talk.new.link)
    (g.S.Sink.state c.args.out.now) (g.S.Sink.state c.talk.new.out)
    c.in-Ready.ensures.connects c.connect.ensures.later.faults (λ o log told. c.in-Ready.ensures.told o log told) c.talk.ensures.talks

pub returns-in-Ready-clause-link_later : goal.returns-in-Ready-clause-link_later
returns-in-Ready-clause-link_later g c = link_then _ _ _ c.connect.ensures.later c.talk.ensures.link_later

pub returns-in-Failed-clause-called : goal.returns-in-Failed-clause-called
returns-in-Failed-clause-called g c = (
  c.in-Failed.ensures.connects.faulted,
  inl (record { same = c.in-Failed.ensures.connects.same; silent = refl; told = λ o log told. c.in-Failed.ensures.told o log told }),
)

pub returns-in-Failed-clause-out_later : goal.returns-in-Failed-clause-out_later
returns-in-Failed-clause-out_later g c = sink_same _

pub returns-in-Memory-clause-called : goal.returns-in-Memory-clause-called
returns-in-Memory-clause-called g c =
    inl (record { same = c.in-Memory.ensures.connects; silent = refl; told = λ o log told. c.in-Memory.ensures.told o log told })

pub returns-in-Memory-clause-out_later : goal.returns-in-Memory-clause-out_later
returns-in-Memory-clause-out_later g c = sink_same _
