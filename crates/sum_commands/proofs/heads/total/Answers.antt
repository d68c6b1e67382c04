use Rattle.std.proofs.Common.{◌≡◌, ◌+◌, ◌-◌, suc, arith}
use Rattle.sum_commands.proofs.HeadLemmas.{heads-step, numbers-step}
use Rattle.sum_commands.proofs.heads.total.Goals as goal

pub bytes_behind-rest-requires : goal.bytes_behind-rest-requires
bytes_behind-rest-requires c =
    let more : c.args.n - c.loop.counter ≡ suc (c.args.n - (c.loop.counter + 1)) = omega arith in
    (heads-step _ _ c.args.width c.loop.rest.now more c.loop.invariant.heads).head

pub loop-preserved : goal.loop-preserved
loop-preserved c =
    let more : c.args.n - c.loop.counter ≡ suc (c.args.n - (c.loop.counter + 1)) = omega arith in
    record {
      heads = rw c.bytes_behind-rest.ensures (heads-step _ _ c.args.width c.loop.rest.now more c.loop.invariant.heads).behind;
      value = let step = numbers-step (c.args.n - c.loop.counter) _ c.args.width c.args.at c.loop.rest.now more in
          rw c.bytes_behind-rest.ensures (omega (arith, step, c.loop.invariant.value, c.get32.ensures));
      small = omega arith;
    }
