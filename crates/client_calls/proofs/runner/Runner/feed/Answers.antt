use Rattle.std.proofs.Common.{◌≡◌, map, refl, sym, ap, subst, arith}
use Rattle.client_replies.specs.Stages.{stage_kept, output_kept}
use Rattle.client_calls.proofs.StandingLemmas.{fed_inside, still_inside, on_err}
use Rattle.client_calls.proofs.runner.Runner.feed.Goals as goal

pub returns-clause-stands : goal.returns-clause-stands
returns-clause-stands c = fed_inside c.self.inside.client c.feed.new.self (stage_kept c.self.inside.stage)
    (map output_kept c.self.inside.pending.items) c.args.self.now c.args.piece.now c.self.view_is c.in_ok-feed.ensures.stands

pub returns-in_err-feed-clause-no_memory : goal.returns-in_err-feed-clause-no_memory
returns-in_err-feed-clause-no_memory c = on_err _ _ _ c.from_residual.result
    (still_inside c.self.inside.client c.feed.new.self (stage_kept c.self.inside.stage)
    (map output_kept c.self.inside.pending.items) c.args.self.now c.self.view_is c.in_err-feed.ensures.no_memory)
