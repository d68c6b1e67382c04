use Rattle.std.proofs.Common.{◌∙◌, refl, arith}
use Rattle.std.proofs.Math.ListN.{length-set}
use Rattle.server_core.proofs.DeliverLemmas.{deliver_step}
use Rattle.server_core.proofs.delivering.deliver.Goals as goal

pub loop-i-preserved : goal.loop-i-preserved
loop-i-preserved c =
    let ts = c.args.sessions.now.items in
    let us = c.loop-i.sessions.items in
    let i = c.loop-i.i in
    let inv = c.loop-i.invariant in
    let step = deliver_step ts us c.args.outlets.now c.loop-i.outlets c.deliver_frames.new.outlets c.args.summary.now c.loop-i.summary
    c.deliver_frames.new.summary i c.index_mut.result.now _ c.as_slice.result.now (omega (arith, inv.many)) inv.many c.requires
    c.index_mut.ensures.value refl (c.as_slice.ensures ∙ c.replace-frames.ensures.value) inv.left inv.sessions inv.outlets inv.counted
    c.in_ok-deliver_frames.ensures in
    record {
      many = length-set us i _ ∙ inv.many;
      left = step.left;
      sessions = step.sessions;
      outlets = step.outlets;
      counted = step.counted;
    }
