use Rattle.std.proofs.Common.{sym, ◌∙◌, true, false}
use Rattle.spec_relay.specs.Routing.{given_to}
use Rattle.ams_header.specs.Header.{ams_header_of}
use Rattle.ams_relay.proofs.PromiseLemmas.{on_ok}
use Rattle.ams_relay.proofs.WayLemmas.{request_given, after_given}
use Rattle.ams_relay.proofs.router.Router.pass_to.Goals as goal

pub returns-then-fitted-clause-follows : goal.returns-then-fitted-clause-follows
returns-then-fitted-clause-follows c =
    on_ok c.ask.result (λ e b s k h heard swept client target.
    let head = ams_header_of c.args.h.now in
    let packet = c.args.packet.now in
    let g = c.in_ok-fitted.ensures.follows b s h in
    let room = sym c.if-fitted.true ∙ g.0 in
    let after = after_given c.args.from.number c.args.target.number packet k s heard swept (sym room) in
    request_given c.args.from.number c.args.target.number head packet c.ask.new.self b s true target room
    (e b (given_to c.args.target.number packet s) after.connection g.1 after.heard after.swept (after.client ∙ client) after.opened)) c.ask.ensures.follows

pub returns-clause-follows : goal.returns-clause-follows
returns-clause-follows c =
    on_ok c.tell_unknown.result (λ e b s k h heard swept client target.
    let head = ams_header_of c.args.h.now in
    let packet = c.args.packet.now in
    let g = c.in_ok-fitted.ensures.follows b s h in
    request_given c.args.from.number c.args.target.number head packet c.tell_unknown.new.self b s false target
    (sym c.if-fitted.false ∙ g.0) (e b (given_to c.args.target.number packet s) g.1)) c.tell_unknown.ensures.follows
