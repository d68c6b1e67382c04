use Rattle.spec_client.specs.Unanswered.{after_tick_of}
use Rattle.client_core.proofs.UnansweredLemmas.{pass_step, pass_end}
use Rattle.client_core.proofs.unanswered.pass.Goals as goal

pub loop-u-preserved : goal.loop-u-preserved
loop-u-preserved c =
    pass_step (after_tick_of c.args.now) c.args.us.now c.loop-u.us c.loop-u.u-index
    c.u-item.result c.pass.new.self c.loop-u-test.true c.loop-u.invariant c.pass.ensures

pub returns : goal.returns
returns c = pass_end (after_tick_of c.args.now) c.args.us.now c.loop-u.us c.loop-u.u-index c.loop-u-test.false c.loop-u.invariant
