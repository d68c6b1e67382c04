use Rattle.std.proofs.Common.{List, ℕ, ap, sym, ◌∙◌, true, false}
use Rattle.spec_formats.specs.Header.{payload_of}
use Rattle.spec_relay.specs.Checks.{is_closed_by}
use Rattle.spec_relay.specs.Routing.{with_owner}
use Rattle.ams_header.specs.Header.{ams_header_of}
use Rattle.ams_relay.proofs.OwnLemmas.{seat_kept}
use Rattle.ams_relay.proofs.PromiseLemmas.{on_ok}
use Rattle.ams_relay.proofs.WayLemmas.{header_closes, header_goes, not_taken, has_route, after_owned}
use Rattle.ams_relay.proofs.router.Router.pass.Goals as goal

pub returns-then-is_closed_by-clause-follows : goal.returns-then-is_closed_by-clause-follows
returns-then-is_closed_by-clause-follows c = λ b s k h heard swept.
    let head = ams_header_of c.in-Some.h in
    let closes = ap (λ (p : List ℕ). is_closed_by p head k s) (sym c.in-Some.ensures.payload)
    ∙ sym (c.is_closed_by.ensures b s k h heard) ∙ c.if-is_closed_by.true in
    header_closes c.args.from.number c.args.packet.now k head c.close.new.self b s c.in-Some.ensures.header closes (c.close.ensures.follows b s h)

pub pass_response-requires-clause-seat : goal.pass_response-requires-clause-seat
pass_response-requires-clause-seat c = seat_kept c.args.self.now c.own.new.self c.args.from c.own.ensures.places c.requires.seat

pub pass_request-requires-clause-seat : goal.pass_request-requires-clause-seat
pass_request-requires-clause-seat c = seat_kept c.args.self.now c.own.new.self c.args.from c.own.ensures.places c.requires.seat

pub returns-then-is_response-clause-follows : goal.returns-then-is_response-clause-follows
returns-then-is_response-clause-follows c = on_ok c.pass_response.result (λ e b s k h heard swept.
    let head = ams_header_of c.in-Some.h in
    let conn = c.args.from.number in
    let packet = c.args.packet.now in
    let opens = ap (λ (p : List ℕ). is_closed_by p head k s) (sym c.in-Some.ensures.payload)
    ∙ sym (c.is_closed_by.ensures b s k h heard) ∙ c.if-is_closed_by.false in
    let owned = with_owner conn head.source.net s in
    let held = c.in_ok-own.ensures.follows b s k h heard (not_taken (payload_of packet) head k s opens) (has_route (payload_of packet) head k s opens) in
    let after = after_owned conn head.source.net k s heard swept in
    let goes = e b owned after.connection held after.heard after.swept in
    header_goes conn packet k head c.pass_response.new.self b s true c.in-Some.ensures.header opens
    (sym c.if-is_response.true ∙ c.is_response.ensures) goes) c.pass_response.ensures.follows

pub returns-else-is_response-clause-follows : goal.returns-else-is_response-clause-follows
returns-else-is_response-clause-follows c = on_ok c.pass_request.result (λ e b s k h heard swept.
    let head = ams_header_of c.in-Some.h in
    let conn = c.args.from.number in
    let packet = c.args.packet.now in
    let opens = ap (λ (p : List ℕ). is_closed_by p head k s) (sym c.in-Some.ensures.payload)
    ∙ sym (c.is_closed_by.ensures b s k h heard) ∙ c.if-is_closed_by.false in
    let owned = with_owner conn head.source.net s in
    let held = c.in_ok-own.ensures.follows b s k h heard (not_taken (payload_of packet) head k s opens) (has_route (payload_of packet) head k s opens) in
    let after = after_owned conn head.source.net k s heard swept in
    let goes = e b owned after.connection held after.heard after.swept after.client in
    header_goes conn packet k head c.pass_request.new.self b s false c.in-Some.ensures.header opens
    (sym c.if-is_response.false ∙ c.is_response.ensures) goes) c.pass_request.ensures.follows
