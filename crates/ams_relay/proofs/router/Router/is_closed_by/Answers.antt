use Rattle.std.proofs.Common.{sym, ◌∙◌}
use Rattle.ams_header.specs.Header.{ams_header_of}
use Rattle.ams_relay.proofs.WayLemmas.{closed_refused, closed_else, closed_owned}
use Rattle.ams_relay.proofs.OwnLemmas.{taken_own}
use Rattle.ams_relay.proofs.router.Router.is_closed_by.Goals as goal

pub returns-then-owns : goal.returns-then-owns
returns-then-owns c = λ b s k h heard.
    let head = ams_header_of c.args.h.now in
    let client = c.owns.ensures b s k h heard c.if-owns.true in
    closed_owned c.args.payload.now head k s (taken_own head.source.net k s.connections client)
    (h.known.routed c.args.from.number k head.source.net heard.found client)

pub returns-then-is_refused : goal.returns-then-is_refused
returns-then-is_refused c = λ b s k h heard.
    closed_refused c.args.payload.now (ams_header_of c.args.h.now) k s (sym (c.is_refused.ensures b s h) ∙ c.if-is_refused.true)

pub returns : goal.returns
returns c = λ b s k h heard.
    c.is_taken.ensures b s k h heard
    ∙ closed_else c.args.payload.now (ams_header_of c.args.h.now) k s (sym (c.is_refused.ensures b s h) ∙ c.if-is_refused.false)
