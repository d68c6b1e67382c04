-- An answer that came, or not.
use Rattle.std.proofs.Common.{inl, rules, sym, subst}
use Rattle.client_calls.specs.Represents.{StandsFor}
use Rattle.client_loop.specs.Outlets.{outlets}
use Rattle.client_loop.proofs.LaterLemmas.{link_then, out_same}
use Rattle.client_loop.proofs.RoundLemmas.{round_of, over_nothing, no_answer}
use Rattle.client_loop.proofs.hearing.hear.Goals as goal

pub turn_behind-requires-clause-ready : goal.turn_behind-requires-clause-ready
turn_behind-requires-clause-ready g c = (rw c.in-Ok-Some.field-0-is at c.in-Ok-Some.ensures.ready) (search rules) _ c.requires.ready

pub returns-in-Ok-Some-clause-round : goal.returns-in-Ok-Some-clause-round
returns-in-Ok-Some-clause-round g c = λ x at.
    round_of c.turn_behind.result c.in-Ok-Some.came c.args.runner.now c.take_in.new.runner c.turn_behind.new.runner
    (g.L.Link.tells c.args.link.now) (g.L.Link.tells c.take_in.new.link) (g.L.Link.tells c.turn_behind.new.link)
    (g.L.Link.state c.args.link.now) (g.L.Link.state c.take_in.new.link) (g.L.Link.state c.turn_behind.new.link)
    (outlets (g.S.Sink.state c.args.out.now) (g.K.Keeper.state c.args.keeper.now))
    (outlets (g.S.Sink.state c.turn_behind.new.out) (g.K.Keeper.state c.turn_behind.new.keeper)) c.args.quiet x at
    (rw c.in-Ok-Some.field-0-is at c.in-Ok-Some.ensures.comes) c.turn_behind.ensures.turns c.turn_behind.ensures.same c.take_in.ensures.link_later.faults

pub returns-in-Ok-Some-clause-link_later : goal.returns-in-Ok-Some-clause-link_later
returns-in-Ok-Some-clause-link_later g c = link_then _ _ _ c.take_in.ensures.link_later c.turn_behind.ensures.link_later

pub returns-in-Ok-None-clause-round : goal.returns-in-Ok-None-clause-round
returns-in-Ok-None-clause-round g c = λ x at.
    let comes = rw c.in-Ok-None.field-0-is at c.in-Ok-None.ensures.comes in (
      comes.0,
      inl (over_nothing x c.take_in.new.runner _ _ (g.L.Link.state c.args.link.now) (g.L.Link.state c.take_in.new.link)
          (outlets (g.S.Sink.state c.args.out.now) (g.K.Keeper.state c.args.keeper.now)) at.on
          (subst (λ k. StandsFor k x.runner) (sym comes.2) at.stands) comes.1),
    )

pub returns-in-Ok-None-clause-out_later : goal.returns-in-Ok-None-clause-out_later
returns-in-Ok-None-clause-out_later g c = out_same (outlets (g.S.Sink.state c.args.out.now) (g.K.Keeper.state c.args.keeper.now))

pub returns-in-Err-clause-round : goal.returns-in-Err-clause-round
returns-in-Err-clause-round g c = λ x at.
    no_answer c.in-Err.e x c.args.runner.now c.take_in.new.runner (g.L.Link.tells c.args.link.now) (g.L.Link.tells c.take_in.new.link)
    (g.L.Link.state c.args.link.now) (g.L.Link.state c.take_in.new.link)
    (outlets (g.S.Sink.state c.args.out.now) (g.K.Keeper.state c.args.keeper.now)) at.on c.in-Err.ensures.comes

pub returns-in-Err-clause-out_later : goal.returns-in-Err-clause-out_later
returns-in-Err-clause-out_later g c = out_same (outlets (g.S.Sink.state c.args.out.now) (g.K.Keeper.state c.args.keeper.now))
