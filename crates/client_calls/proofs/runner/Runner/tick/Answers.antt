use Rattle.std.proofs.Common.{◌≡◌, map, refl, sym, ap, subst, arith}
use Rattle.client_replies.specs.Stages.{stage_kept, output_kept}
use Rattle.client_calls.proofs.StandingLemmas.{ticked_inside}
use Rattle.client_calls.proofs.runner.Runner.tick.Goals as goal

pub returns : goal.returns
returns c = ticked_inside c.self.inside.client c.tick.new.self (stage_kept c.self.inside.stage)
    (map output_kept c.self.inside.pending.items) c.args.self.now c.args.now c.self.view_is c.tick.ensures
