use Rattle.std.proofs.Common.{List, ℕ, refl, ◌∙◌, subst}
use Rattle.spec_formats.specs.Commands.{DEVICE_NOTIFICATION}
use Rattle.spec_machine.proofs.Find.{test_same, test_other}
use Rattle.spec_relay.specs.Routing.{given_to, with_unknown}
use Rattle.ams_header.specs.Header.{ams_header_of}
use Rattle.ams_relay.specs.Holds.{Holds}
use Rattle.ams_relay.proofs.WayLemmas.{unknown_counted, unknown_silent, unknown_told}
use Rattle.ams_relay.proofs.router.Router.tell_unknown.Goals as goal

pub returns-then-h-eq-NOTIFICATION-clause-follows : goal.returns-then-h-eq-NOTIFICATION-clause-follows
returns-then-h-eq-NOTIFICATION-clause-follows c = λ b s h.
    unknown_silent c.args.from.number (ams_header_of c.args.h.now) _ b s (test_same c.args.h.now.command DEVICE_NOTIFICATION c.if-h-eq-NOTIFICATION.true)
    (unknown_counted c.args.self.now _ b s refl c.count_unknown.ensures h)

pub returns-clause-follows : goal.returns-clause-follows
returns-clause-follows c = λ b s h.
    let given = c.in_ok-give.ensures.follows b (with_unknown s) (unknown_counted c.args.self.now _ b s refl c.count_unknown.ensures h) in
    unknown_told c.args.from.number (ams_header_of c.args.h.now) c.give.new.self b s
    (test_other c.args.h.now.command DEVICE_NOTIFICATION c.if-h-eq-NOTIFICATION.false)
    (subst (λ (packet : List ℕ). Holds c.give.new.self b (given_to c.args.from.number packet (with_unknown s)))
    (c.as_slice.ensures ∙ c.not_found-packet.ensures) given.1)
