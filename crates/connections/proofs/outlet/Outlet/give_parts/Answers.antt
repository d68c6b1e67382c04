use Rattle.std.proofs.Common.{◌++◌, Ok, sym, ap, ◌∙◌}
use Rattle.connections.proofs.GivenLemmas.{given_closing, given_done, given_over, fitting_done, fitting_over}
use Rattle.connections.proofs.outlet.Outlet.give_parts.Goals as goal

pub returns-then-self-clause-given : goal.returns-then-self-clause-given
returns-then-self-clause-given c =
    let frame = c.args.front.now ++ c.args.rest.now in
    given_closing frame c.args.self.now c.if-self.true

pub returns-in-Done-clause-given : goal.returns-in-Done-clause-given
returns-in-Done-clause-given c =
    let frame = c.args.front.now ++ c.args.rest.now in
    given_done frame c.args.self.now c.push_parts.new.self c.if-self.false
    (λ over. let both = sym c.in-Done.is ∙ c.in_ok-push_parts.ensures.over.1 over in cc) (c.in_ok-push_parts.ensures.done (ap (λ p. Ok p) c.in-Done.is))

pub returns-in-Done-clause-fitted : goal.returns-in-Done-clause-fitted
returns-in-Done-clause-fitted c =
    let frame = c.args.front.now ++ c.args.rest.now in
    fitting_done frame c.args.self.now c.if-self.false (λ over. let both = sym c.in-Done.is ∙ c.in_ok-push_parts.ensures.over.1 over in cc)

pub returns-in-Over-clause-given : goal.returns-in-Over-clause-given
returns-in-Over-clause-given c =
    let frame = c.args.front.now ++ c.args.rest.now in
    c.close.ensures ∙ given_over frame c.args.self.now c.push_parts.new.self c.if-self.false
    (c.in_ok-push_parts.ensures.over.0 c.in-Over.is) (c.in_ok-push_parts.ensures.unchanged (ap (λ p. Ok p) c.in-Over.is))

pub returns-in-Over-clause-fitted : goal.returns-in-Over-clause-fitted
returns-in-Over-clause-fitted c =
    let frame = c.args.front.now ++ c.args.rest.now in
    fitting_over frame c.args.self.now c.if-self.false (c.in_ok-push_parts.ensures.over.0 c.in-Over.is)
