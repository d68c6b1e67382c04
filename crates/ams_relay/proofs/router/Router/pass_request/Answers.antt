use Rattle.std.proofs.Common.{sym, ap, ◌∙◌}
use Rattle.ams_header.specs.Header.{ams_header_of}
use Rattle.ams_relay.specs.Taking.{number_in}
use Rattle.ams_relay.proofs.OwnLemmas.{owner_found}
use Rattle.ams_relay.proofs.PromiseLemmas.{on_ok}
use Rattle.ams_relay.proofs.WayLemmas.{request_unknown}
use Rattle.ams_relay.proofs.router.Router.pass_request.Goals as goal

pub returns-in-Some-clause-follows : goal.returns-in-Some-clause-follows
returns-in-Some-clause-follows c =
    on_ok c.pass_to.result
    (λ e b s k h heard swept client. e b s k h heard swept client
    (sym (ap number_in c.in-Some.is) ∙ c.owner_near.ensures.entry b s h ∙ owner_found c.args.h.now.target.net.bytes b c.args.self.now s h))
    c.pass_to.ensures.follows

pub returns-in-None-clause-follows : goal.returns-in-None-clause-follows
returns-in-None-clause-follows c =
    on_ok c.tell_unknown.result (λ e b s k h heard swept client.
    request_unknown c.args.from.number (ams_header_of c.args.h.now) c.args.packet.now c.tell_unknown.new.self b s
    (sym (ap number_in c.in-None.is) ∙ c.owner_near.ensures.entry b s h ∙ owner_found c.args.h.now.target.net.bytes b c.args.self.now s h)
    (e b s h)) c.tell_unknown.ensures.follows
