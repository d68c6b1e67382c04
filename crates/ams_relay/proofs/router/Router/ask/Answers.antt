use Rattle.std.proofs.Common.{refl}
use Rattle.ams_header.specs.Header.{ams_header_of}
use Rattle.spec_relay.specs.Routing.{with_request_of}
use Rattle.ams_relay.proofs.WayLemmas.{passed_counted}
use Rattle.ams_relay.proofs.router.Router.ask.Goals as goal

pub returns-clause-follows : goal.returns-clause-follows
returns-clause-follows c = λ b s k h heard swept client opened.
    let mid = c.remember.new.self in
    passed_counted mid (record mid { counts = c.count_passed.new.self }) b
    (with_request_of c.args.from.number c.args.target (ams_header_of c.args.h.now) s) refl c.count_passed.ensures
    (c.in_ok-remember.ensures.follows b s k h heard swept client opened)
