use Rattle.std.proofs.Common.{refl, sym, subst, ◌∙◌, true, false}
use Rattle.ams_header.specs.Header.{ams_header_of}
use Rattle.spec_relay.specs.Routing.{given_to}
use Rattle.ams_relay.specs.Taking.{Spends, number_in}
use Rattle.ams_relay.proofs.WayLemmas.{response_dropped, response_given, passed_counted}
use Rattle.ams_relay.proofs.router.Router.pass_response.Goals as goal

pub returns-in_default-clause-follows : goal.returns-in_default-clause-follows
returns-in_default-clause-follows c = λ b s k h heard swept.
    let head = ams_header_of c.args.h.now in
    response_dropped c.args.from.number head c.args.packet.now c.spend.new.self b s
    (subst (λ o. Spends (number_in o) c.args.from.number head c.spend.new.self b s) c.in_default.is (c.spend.ensures.spends b s k h heard swept))

pub returns-then-fitted-clause-follows : goal.returns-then-fitted-clause-follows
returns-then-fitted-clause-follows c = λ b s k h heard swept.
    let head = ams_header_of c.args.h.now in
    let packet = c.args.packet.now in
    let asker = c.in-Some.asker.number in
    let given = c.give.new.self in
    let new = record given { counts = c.count_passed.new.self } in
    response_given c.args.from.number asker head packet c.spend.new.self new b s true
    (subst (λ o. Spends (number_in o) c.args.from.number head c.spend.new.self b s) c.in-Some.is (c.spend.ensures.spends b s k h heard swept))
    (λ t held. let g = c.in_ok-fitted.ensures.follows b t held in
    (sym c.if-fitted.true ∙ g.0, passed_counted given new b (given_to asker packet t) refl c.count_passed.ensures g.1))

pub returns-else-fitted-clause-follows : goal.returns-else-fitted-clause-follows
returns-else-fitted-clause-follows c = λ b s k h heard swept.
    let head = ams_header_of c.args.h.now in
    response_given c.args.from.number c.in-Some.asker.number head c.args.packet.now c.spend.new.self c.give.new.self b s false
    (subst (λ o. Spends (number_in o) c.args.from.number head c.spend.new.self b s) c.in-Some.is (c.spend.ensures.spends b s k h heard swept))
    (λ t held. let g = c.in_ok-fitted.ensures.follows b t held in (sym c.if-fitted.false ∙ g.0, g.1))
