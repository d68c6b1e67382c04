use Rattle.std.proofs.Common.{arith}
use Rattle.ams_relay.specs.Taking.{is_asked_heard}
use Rattle.ams_relay.proofs.RememberLemmas.{kept_more}
use Rattle.ams_relay.proofs.router.Router.heard_of.Goals as goal

pub loop-i-preserved : goal.loop-i-preserved
loop-i-preserved c =
    kept_more (is_asked_heard c.args.self.now.outlets) c.args.asked.now.items c.loop-i.i c.index.result.now c.loop-i.kept.items _
    (omega (arith, c.len-i-end.ensures, c.loop-i-test.true)) c.index.ensures c.loop-i.invariant c.in_ok-keep_heard.ensures
