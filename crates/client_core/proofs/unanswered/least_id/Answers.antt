use Rattle.std.proofs.Common.{◌∙◌, arith}
use Rattle.client_core.proofs.UnansweredLemmas.{least_id_end, least_id_step}
use Rattle.client_core.proofs.unanswered.least_id.Goals as goal

pub loop-i-init : goal.loop-i-init
loop-i-init c = record { within = omega arith; least = least_id_end c.args.us.now }

pub loop-i-preserved : goal.loop-i-preserved
loop-i-preserved c = record {
  within = omega (arith, c.loop-i.invariant.within);
  least = c.least-least.ensures
      ∙ least_id_step c.args.us.now c.loop-i.i c.index-us-i.result c.loop-i.least
      c.loop-i-test.true c.loop-i.invariant.within c.index-us-i.is c.loop-i.invariant.least;
}
