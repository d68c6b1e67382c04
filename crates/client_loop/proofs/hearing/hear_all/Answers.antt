-- With a buffer, or without memory for it.
use Rattle.std.proofs.Common.{refl}
use Rattle.client_loop.specs.Outlets.{outlets}
use Rattle.client_loop.proofs.LaterLemmas.{link_same, out_same}
use Rattle.client_loop.proofs.RoundLemmas.{stops_nothing}
use Rattle.client_loop.proofs.hearing.hear_all.Goals as goal

pub hear_each-requires-clause-ready : goal.hear_each-requires-clause-ready
hear_each-requires-clause-ready g c = c.requires

pub returns-in-Ok-clause-ends : goal.returns-in-Ok-clause-ends
returns-in-Ok-clause-ends g c = c.hear_each.ensures.ends

pub returns-in-Err-clause-ends : goal.returns-in-Err-clause-ends
returns-in-Err-clause-ends g c = λ x begun.
    stops_nothing x (g.L.Link.tells c.args.link.now) (g.L.Link.tells c.args.link.now) (g.L.Link.state c.args.link.now) (g.L.Link.state c.args.link.now)
    (outlets (g.S.Sink.state c.args.out.now) (g.K.Keeper.state c.args.keeper.now)) (record { history = refl; told = λ o log told. told })

pub returns-in-Err-clause-link_later : goal.returns-in-Err-clause-link_later
returns-in-Err-clause-link_later g c = link_same _

pub returns-in-Err-clause-out_later : goal.returns-in-Err-clause-out_later
returns-in-Err-clause-out_later g c = out_same (outlets (g.S.Sink.state c.args.out.now) (g.K.Keeper.state c.args.keeper.now))
