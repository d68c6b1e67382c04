use Rattle.std.proofs.Common.{map, ap, true, ◌≡◌}
use Rattle.spec_client.specs.Laws.{goes_on}
use Rattle.client_core.specs.Heard.{heard_meant}
use Rattle.client_replies.specs.Stages.{stage_kept, output_kept}
use Rattle.client_calls.proofs.StandingLemmas.{waiting_inside, broken_inside, going_inside, numbers_inside, goes_by}
use Rattle.client_calls.proofs.runner.Runner.hear_more.Goals as goal

pub returns-in-NotYet : goal.returns-in-NotYet
returns-in-NotYet c =
    waiting_inside c.self.inside.client c.next.new.self (stage_kept c.self.inside.stage)
    (map output_kept c.self.inside.pending.items) c.args.self.now (heard_meant c.in_ok-heard.heard) c.self.view_is c.requires.quiet c.requires.on
    (ap heard_meant c.in-NotYet.is) c.in_ok-heard.ensures.heard c.in_ok-heard.ensures.stands c.requires.going

pub returns-in-Broken : goal.returns-in-Broken
returns-in-Broken c =
    broken_inside c.self.inside.client c.next.new.self (stage_kept c.self.inside.stage) (map output_kept c.self.inside.pending.items) c.args.self.now
    (heard_meant c.in_ok-heard.heard) c.in-Broken.peer c.self.view_is c.requires.quiet c.requires.on
    (ap heard_meant c.in-Broken.is) c.in_ok-heard.ensures.heard c.in_ok-heard.ensures.stands c.requires.going

pub returns-in_ok-take_in-in_default : goal.returns-in_ok-take_in-in_default
returns-in_ok-take_in-in_default c =
    let goes : goes_on (heard_meant c.in_ok-heard.heard) ≡ true =
    goes_by c.in_ok-heard.heard (λ e. c.in_default.not-NotYet e) (λ p e. c.in_default.not-Broken p e) in
    going_inside c.self.inside.client c.next.new.self (stage_kept c.self.inside.stage) (map output_kept c.self.inside.pending.items)
    c.args.self.now c.take_in.new.self (heard_meant c.in_ok-heard.heard) c.self.view_is c.requires.quiet c.requires.on goes
    c.in_ok-heard.ensures.heard c.in_ok-heard.ensures.stands c.in_ok-take_in-in_default.ensures c.requires.going

pub take_in-requires : goal.take_in-requires
take_in-requires c =
    numbers_inside c.self.inside.client (stage_kept c.self.inside.stage)
    (map output_kept c.self.inside.pending.items) c.args.self.now c.self.view_is c.requires.going
