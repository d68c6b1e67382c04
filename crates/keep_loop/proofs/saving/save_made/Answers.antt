-- The body that was made is that of what is served.
use Rattle.std.proofs.Common.{◌∙◌}
use Rattle.keep_loop.proofs.SavingLemmas.{saved_to}
use Rattle.keep_loop.proofs.saving.save_made.Goals as goal

pub returns-in-Ok-clause-saved : goal.returns-in-Ok-clause-saved
returns-in-Ok-clause-saved g c =
    saved_to c.save_new.result _ _ g.D.Disk.contents g.D.Disk.moment g.D.Disk.left_since
    c.args.disk.now c.save_new.new.disk c.args.store.now c.save_new.new.store
    (λ body is x stands. is ∙ (c.as_slice.ensures ∙ c.in-Ok.ensures.body x stands)) c.save_new.ensures.saved
