use Rattle.std.proofs.Common.{◌≡◌, ◌+◌, ◌-◌, ◌*◌, ◌≤◌, suc, length, sum, refl, ◌∙◌, ap, arith}
use Rattle.spec_machine.specs.Sums.{numbers_of_heads}
use Rattle.sum_commands.proofs.HeadLemmas.{heads-step, numbers-step}
use Rattle.sum_commands.proofs.LentLemmas.{lent-first, lent-next, lent-all}
use Rattle.sum_commands.proofs.lent.put_lent.Goals as goal

pub put_first-requires-clause-fits : goal.put_first-requires-clause-fits
put_first-requires-clause-fits g c =
    let more : c.args.n - c.loop.counter ≡ suc (c.args.n - (c.loop.counter + 1)) = omega arith in
    let step = numbers-step (c.args.n - c.loop.counter) _ 12 8 c.loop.rest.now more in
    omega (arith, step, c.loop.invariant.room, c.get32-len.ensures)

pub loop-init : goal.loop-init
loop-init g c =
    let same : c.args.n - 0 ≡ c.args.n = omega arith in
    record {
      heads = omega (arith, c.requires.heads);
      continues = λ s stands. lent-first g.P.PartService.stands_for g.P.PartService.given g.P.PartService.left g.P.PartService.may_leave
          c.args.n (c.args.n - 0) c.args.heads.now s c.args.service.now same stands;
      room = omega (arith, ap (λ k. sum (numbers_of_heads k 12 8 c.args.heads.now)) same, c.requires.fits);
      len = refl;
    }

pub loop-preserved : goal.loop-preserved
loop-preserved g c =
    let k = c.args.n - (c.loop.counter + 1) in
    let more : c.args.n - c.loop.counter ≡ suc k = omega arith in
    let rest = c.loop.rest.now in
    let step = numbers-step (c.args.n - c.loop.counter) k 12 8 rest more in
    let fits : c.loop.at + c.get32-len.result ≤ length c.loop.room = omega (arith, step, c.loop.invariant.room, c.get32-len.ensures) in
    record {
      heads = rw c.bytes_behind-rest.ensures (heads-step _ _ 12 rest more c.loop.invariant.heads).behind;
      continues = λ s stands.
          let so_far = c.loop.invariant.continues s stands in
          lent-next g.P.PartService.stands_for g.P.PartService.given g.P.PartService.left g.P.PartService.may_leave
          c.args.n (c.args.n - c.loop.counter) k (4 * c.loop.counter) (4 * (c.loop.counter + 1)) c.get32-len.result c.loop.at c.args.heads.now s
          rest c.bytes_behind-rest.result.now c.args.service.now c.loop.room c.put_first.new.room more (omega arith) (omega arith) fits
          c.get32-len.ensures c.bytes_behind-rest.ensures so_far
          (c.put_first.ensures.lent c.if-not-put_first.false so_far.now so_far.stands);
      room = rw c.bytes_behind-rest.ensures (omega (arith, step, c.loop.invariant.room, c.get32-len.ensures, c.put_first.ensures.len));
      len = c.put_first.ensures.len ∙ c.loop.invariant.len;
    }

pub returns-clause-all : goal.returns-clause-all
returns-clause-all g c = λ yes s stands.
    let none : c.args.n - c.loop.counter ≡ 0 = omega arith in
    let empty : sum (numbers_of_heads (c.args.n - c.loop.counter) 12 8 c.loop.rest.now) ≡ 0 =
    ap (λ k. sum (numbers_of_heads k 12 8 c.loop.rest.now)) none in
    lent-all g.P.PartService.stands_for g.P.PartService.given g.P.PartService.left g.P.PartService.may_leave
    c.args.n (c.args.n - c.loop.counter) (4 * c.loop.counter) c.loop.at c.args.heads.now s c.loop.rest.now c.args.service.now c.loop.room none
    (omega (arith, c.loop.invariant.room, empty)) (c.loop.invariant.continues s stands)
