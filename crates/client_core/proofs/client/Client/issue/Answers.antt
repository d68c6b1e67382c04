use Rattle.std.proofs.Common.{refl, ◌∙◌, ap, sym, subst, arith, ◌<◌, ◌≡◌, ◌≤◌}
use Rattle.spec_client.specs.Unanswered.{outstanding_count}
use Rattle.ads_commands.specs.Request.{request_meant}
use Rattle.client_core.proofs.IssueLemmas.{refused, issued_is, issued_stands, counted, counted_few, refused_still, counted_old, next_of, put_of}
use Rattle.client_core.proofs.client.Client.issue.Goals as goal

pub returns-then-outstanding_count-ge-MAX_WAITING-clause-issued :
    goal.returns-then-outstanding_count-ge-MAX_WAITING-clause-issued
returns-then-outstanding_count-ge-MAX_WAITING-clause-issued c = λ me peer h s.
    refused c.args.self.now _ c.self.view_is
    (counted c.outstanding_count.result _ _ c.outstanding_count.ensures c.deref.ensures.value c.if-outstanding_count-ge-MAX_WAITING.true)
    me peer h (request_meant c.args.r.now) s

pub returns-then-outstanding_count-ge-MAX_WAITING-clause-stands :
    goal.returns-then-outstanding_count-ge-MAX_WAITING-clause-stands
returns-then-outstanding_count-ge-MAX_WAITING-clause-stands c =
    refused_still c.args.self.now (counted_old c.args.self.now _ c.self.view_is
    (counted c.outstanding_count.result _ _ c.outstanding_count.ensures c.deref.ensures.value c.if-outstanding_count-ge-MAX_WAITING.true))
    (request_meant c.args.r.now) c.args.now

pub returns-clause-issued : goal.returns-clause-issued
returns-clause-issued c =
    issued_is c.args.self.now _ c.self.view_is
    (counted_few c.outstanding_count.result _ _ c.outstanding_count.ensures c.deref.ensures.value c.if-outstanding_count-ge-MAX_WAITING.false)
    c.next_id-id.result c.in_ok-frame.frame (request_meant c.args.r.now)
    (next_of c.next_id-id.result _ _ _ c.next_id-id.ensures c.deref-2.ensures.value) c.in_ok-frame.ensures

pub returns-clause-stands : goal.returns-clause-stands
returns-clause-stands c =
    issued_stands c.args.self.now _ c.self.view_is
    (counted_few c.outstanding_count.result _ _ c.outstanding_count.ensures c.deref.ensures.value c.if-outstanding_count-ge-MAX_WAITING.false)
    c.next_id-id.result c.push.new.self.items (request_meant c.args.r.now) c.args.now
    (next_of c.next_id-id.result _ _ _ c.next_id-id.ensures c.deref-2.ensures.value)
    (put_of _ _ c.new.result _ _ _ _ c.in_ok-push.ensures.items c.new.ensures c.command_of.ensures)
