use Rattle.std.proofs.Common.{refl, ap, sym, ◌∙◌}
use Rattle.ams_header.specs.Header.{ams_header_of}
use Rattle.client_core.proofs.Decided.{short_passes, if_breaks, if_response, if_notification, by_nothing}
use Rattle.client_core.proofs.verdict.verdict_on.Goals as goal

pub returns-in_default : goal.returns-in_default
returns-in_default c = λ client requests. short_passes c.args.packet.now (c.in_default.ensures.too_short.0 refl) client

pub returns-then-h-packet : goal.returns-then-h-packet
returns-then-h-packet c = if_breaks c.args.packet.now (ams_header_of c.in-Some.h) _ _
    _ c.in-Some.ensures.header c.if-h-packet.true c.broken_off.result c.broken_off.ensures

pub returns-then-h-eq1 : goal.returns-then-h-eq1
returns-then-h-eq1 c =
    if_response c.args.packet.now (ams_header_of c.in-Some.h) _ _ _ c.in-Some.ensures.header
    c.if-h-packet.false c.if-h-eq1.true c.on_response.result c.on_response.ensures

pub returns-then-h-eq-NOTIFICATION : goal.returns-then-h-eq-NOTIFICATION
returns-then-h-eq-NOTIFICATION c =
    if_notification c.args.packet.now (ams_header_of c.in-Some.h) c.in-Some.payload.now _ _ _
    c.in-Some.ensures.payload c.in-Some.ensures.header c.if-h-packet.false c.if-h-eq1.false c.if-h-eq-NOTIFICATION.true
    c.on_notification.result c.on_notification.ensures

pub returns : goal.returns
returns c = λ client requests. by_nothing c.args.packet.now (ams_header_of c.in-Some.h)
    client c.in-Some.ensures.header c.if-h-packet.false c.if-h-eq1.false c.if-h-eq-NOTIFICATION.false
