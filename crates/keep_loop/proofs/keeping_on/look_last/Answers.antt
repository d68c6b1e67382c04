-- What became of the look at the end.
use Rattle.std.proofs.Common.{◌<◌, ap, subst, sym}
use Rattle.std.specs.Prelude.{Some}
use Rattle.keep_loop.specs.declared.kept_on.KeptOn.{KeptOn}
use Rattle.keep_loop.specs.declared.save_counts.SaveCounts.{SaveCounts}
use Rattle.keep_loop.proofs.OnLemmas.{failed_counted, failed_rose}
use Rattle.keep_loop.proofs.keeping_on.look_last.Goals as goal

pub returns-clause-ends : goal.returns-clause-ends
returns-clause-ends g c =
    let r : SaveCounts → KeptOn = λ counts. record { ended = c.args.ended; last = Some c.look-became.result; counts = counts } in
    record { by = c.look-became.result; is = ap r c.after.ensures; looks = c.look-became.ensures.looked }

pub returns-clause-failed : goal.returns-clause-failed
returns-clause-failed g c = λ more.
    let P : SaveCounts → Type 0 = λ counts. 0 < counts.failed in
    failed_rose c.look-became.result c.args.saves.now.counts _ c.look-became.ensures.failed (subst P c.after.ensures more)

pub returns-clause-last_failed : goal.returns-clause-last_failed
returns-clause-last_failed g c = λ last.
    let P : SaveCounts → Type 0 = λ counts. 0 < counts.failed in
    subst P (sym c.after.ensures) (failed_counted c.look-became.result c.args.saves.now.counts last)
