use Rattle.std.proofs.Common.{◌≡◌, ◌+◌, ◌-◌, ◌*◌, length, drop, replicate, refl, ap, arith, length-append, length-take, length-drop}
use Rattle.std.proofs.lemmas.List.{length-replicate}
use Rattle.std.specs.Prelude.{ℕ}
use Rattle.sum_commands.proofs.LentLemmas.{rest-written, lent-behind}
use Rattle.sum_commands.proofs.lent.put_reads.Goals as goal

pub returns-then-put_lent-clause-all : goal.returns-then-put_lent-clause-all
returns-then-put_lent-clause-all g c = λ yes s stands.
    let base = c.args.out.now in
    let text = c.put_zeros.new.out in
    let asked = c.args.len - 4 * c.args.n in
    let split : c.args.len ≡ 4 * c.args.n + asked = omega (arith, c.requires.len) in
    let long = ap length c.in_ok-put_zeros.ensures.ok in
    let there : c.len.result - asked ≡ length base + 4 * c.args.n =
    omega (arith, c.len.ensures, long, length-append base (replicate c.args.len 0), length-replicate {A = ℕ} c.args.len 0, split) in
    let lent = c.as_mut_slice.result.now in
    let begin = c.len.result - asked in
    let said = c.if-put_lent.ensures.all refl s stands in
    lent-behind g.P.PartService.stands_for g.P.PartService.given g.P.PartService.left g.P.PartService.may_leave c.args.n c.args.heads.now s
    c.args.service.now base _ _
    (rest-written c.args.n c.args.len asked _ base text c.as_mut_slice.result.now c.put_lent.new.room c.in_ok-put_zeros.ensures.ok split there
    c.as_mut_slice.ensures.value
    (omega (arith, c.put_lent.ensures.len, length-take (length lent - begin) (drop begin lent), length-drop begin lent))) said
