use Rattle.spec_formats.specs.Commands.{DEVICE_NOTIFICATION}
use Rattle.spec_machine.proofs.Find.{test_other}
use Rattle.ams_relay.proofs.PromiseLemmas.{on_ok}
use Rattle.ams_relay.proofs.router.Router.remember.Goals as goal

pub returns-then-has_room-clause-follows : goal.returns-then-has_room-clause-follows
returns-then-has_room-clause-follows c =
    on_ok c.push_asked.result (λ e b s k h heard swept client opened. e b s k h heard swept client opened
    (test_other c.args.h.now.command DEVICE_NOTIFICATION c.if-h-eq-NOTIFICATION.false)
    (λ p was. c.has_room.ensures p was c.if-has_room.true)) c.push_asked.ensures.follows

pub returns-clause-follows : goal.returns-clause-follows
returns-clause-follows c =
    on_ok c.push_among_heard.result (λ e b s k h heard swept client opened. e b s k h heard swept client opened
    (test_other c.args.h.now.command DEVICE_NOTIFICATION c.if-h-eq-NOTIFICATION.false)) c.push_among_heard.ensures.follows
