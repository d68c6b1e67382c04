use Rattle.std.proofs.Common.{◌≡◌, map, refl, sym, ap, subst, arith}
use Rattle.client_replies.specs.Stages.{stage_kept, output_kept}
use Rattle.client_replies.specs.Kept.{request_kept}
use Rattle.client_calls.proofs.StandingLemmas.{sent_writable, never_full, sent_inside, sent_gives}
use Rattle.client_calls.proofs.runner.Runner.send.Goals as goal

pub issue-requires : goal.issue-requires
issue-requires c = sent_writable c.args.self.now c.as_request-request.result (request_kept c.args.asked.now) c.as_request-request.ensures c.requires

pub unreachable-requires : goal.unreachable-requires
unreachable-requires c =
    never_full c.self.inside.client (stage_kept c.self.inside.stage)
    (map output_kept c.self.inside.pending.items) c.args.self.now (request_kept c.args.asked.now) c.self.view_is c.requires
    ((rw c.in-Err.is at c.in_ok-issued.ensures.full).0 refl)

pub returns-clause-turned : goal.returns-clause-turned
returns-clause-turned c =
    sent_inside c.args.now c.self.inside.client c.issue.new.self (stage_kept c.self.inside.stage)
    (map output_kept c.self.inside.pending.items) c.args.self.now c.as_request-request.result (request_kept c.args.asked.now)
    c.in_ok-issued.field-0 c.in-Ok.issued c.self.view_is c.as_request-request.ensures c.in-Ok.is c.in_ok-issued.ensures.issued c.in_ok-issued.ensures.stands

pub returns-clause-gives : goal.returns-clause-gives
returns-clause-gives c =
    sent_gives c.args.now c.self.inside.client c.issue.new.self (stage_kept c.self.inside.stage)
    (map output_kept c.self.inside.pending.items) c.args.self.now c.as_request-request.result (request_kept c.args.asked.now)
    c.self.view_is c.as_request-request.ensures c.requires c.in_ok-issued.ensures.stands
