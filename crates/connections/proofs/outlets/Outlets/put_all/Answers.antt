use Rattle.std.proofs.Common.{◌++◌, take, add-one, sym, ap, ◌∙◌}
use Rattle.std.specs.Prelude.{slice_get}
use Rattle.connections.specs.Outlets.{numbers_due}
use Rattle.connections.specs.Touched.{number_if_due}
use Rattle.connections.proofs.DueLemmas.{more_due}
use Rattle.connections.proofs.outlets.Outlets.put_all.Goals as goal

pub loop-i-preserved : goal.loop-i-preserved
loop-i-preserved c =
    let es = c.args.self.now in
    let i = c.loop-i.i in
    c.in_ok-put_due.ensures ∙ ap (λ ns. ns ++ number_if_due (slice_get es i)) c.loop-i.invariant ∙ more_due es i
    ∙ sym (ap (λ m. numbers_due (take m es)) (add-one i))
