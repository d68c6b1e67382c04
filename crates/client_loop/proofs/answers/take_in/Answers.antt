-- What came, by the answer of the link.
use Rattle.std.proofs.Common.{length, take, refl, inl, inr}
use Rattle.spec_client.specs.Conversation as conversation
use Rattle.client_loop.proofs.ComeLemmas.{comes_bytes, takes_bytes, takes_quiet, takes_closed}
use Rattle.client_loop.proofs.ReadyLemmas.{ready_heard}
use Rattle.client_loop.proofs.answers.take_in.Goals as goal

pub recv-requires : goal.recv-requires
recv-requires g c = c.requires.room

pub returns-in-Ok-clause-comes : goal.returns-in-Ok-clause-comes
returns-in-Ok-clause-comes g c =
    takes_bytes c.in-Bytes.n c.in-Bytes.now (length c.args.buf.now) c.recv.new.buf _ c.args.runner.now c.tick.new.self c.feed.new.self
    (g.L.Link.tells c.args.link.now) (g.L.Link.tells c.recv.new.self) (g.L.Link.state c.args.link.now) (g.L.Link.state c.recv.new.self) refl
    c.in-Bytes.ensures.receives (λ o log told. c.in-Bytes.ensures.told o log told) c.tick.ensures c.in-Ok.ensures.stands

pub returns-in-Ok-clause-ready : goal.returns-in-Ok-clause-ready
returns-in-Ok-clause-ready g c = λ some rows h. ready_heard c.args.runner.now _ rows h _ refl refl (c.in-Ok.ensures.stands _ (c.tick.ensures h.runner h.stands))

pub returns-in-Err-clause-comes : goal.returns-in-Err-clause-comes
returns-in-Err-clause-comes g c =
    inr (
      conversation.Bytes (take c.in-Bytes.n c.recv.new.buf) c.in-Bytes.now,
      comes_bytes c.in-Bytes.n c.in-Bytes.now (length c.args.buf.now) c.recv.new.buf (g.L.Link.tells c.args.link.now) (g.L.Link.tells c.recv.new.self)
          (g.L.Link.state c.args.link.now) (g.L.Link.state c.recv.new.self) c.in-Bytes.ensures.receives (λ o log told. c.in-Bytes.ensures.told o log told),
    )

pub returns-in-Quiet-clause-comes : goal.returns-in-Quiet-clause-comes
returns-in-Quiet-clause-comes g c =
    takes_quiet c.in-Quiet.now c.args.runner.now c.tick-in-Quiet.new.self (g.L.Link.tells c.args.link.now) (g.L.Link.tells c.recv.new.self)
    (g.L.Link.state c.args.link.now) (g.L.Link.state c.recv.new.self) c.in-Quiet.ensures.receives
    (λ o log told. c.in-Quiet.ensures.told o log told) c.tick-in-Quiet.ensures

pub returns-in-Quiet-clause-ready : goal.returns-in-Quiet-clause-ready
returns-in-Quiet-clause-ready g c = λ some rows h. ready_heard c.args.runner.now _ rows h _ refl refl (c.tick-in-Quiet.ensures h.runner h.stands)

pub returns-in-Closed-clause-comes : goal.returns-in-Closed-clause-comes
returns-in-Closed-clause-comes g c =
    takes_closed c.in-Closed.now c.args.runner.now c.tick-in-Closed.new.self (g.L.Link.tells c.args.link.now) (g.L.Link.tells c.recv.new.self)
    (g.L.Link.state c.args.link.now) (g.L.Link.state c.recv.new.self) c.in-Closed.ensures.receives
    (λ o log told. c.in-Closed.ensures.told o log told) c.tick-in-Closed.ensures

pub returns-in-Closed-clause-ready : goal.returns-in-Closed-clause-ready
returns-in-Closed-clause-ready g c = λ some rows h. ready_heard c.args.runner.now _ rows h _ refl refl (c.tick-in-Closed.ensures h.runner h.stands)

pub returns-in-Failed-clause-comes : goal.returns-in-Failed-clause-comes
returns-in-Failed-clause-comes g c = (
  c.in-Failed.ensures.receives.faulted,
  record { history = c.in-Failed.ensures.receives.broken; told = λ o log told. c.in-Failed.ensures.told o log told },
  refl,
)

pub returns-in-Memory-clause-comes : goal.returns-in-Memory-clause-comes
returns-in-Memory-clause-comes g c = inl (record { history = c.in-Memory.ensures.receives; told = λ o log told. c.in-Memory.ensures.told o log told })
