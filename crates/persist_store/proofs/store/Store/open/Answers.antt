-- A store that was opened is ready for a save.
use Rattle.std.proofs.Common.{refl}
use Rattle.std.specs.Prelude.{option_map}
use Rattle.persist_store.specs.Slots.{standing_kept}
use Rattle.persist_store.proofs.StepLemmas.{opened_ready}
use Rattle.persist_store.proofs.store.Store.open.Goals as goal

pub returns-in-Ok-clause-opened : goal.returns-in-Ok-clause-opened
returns-in-Ok-clause-opened g c = (
  refl,
  (λ file told works. opened_ready g.D.Disk.contents g.D.Disk.may_leave g.D.Disk.moment
      g.D.Disk.left_since c.args.disk.now c.open_standing.new.disk (option_map standing_kept c.in-Ok.standing)
      c.open_standing.ensures.passes.same c.in-Ok.ensures.told file told),
  (λ file told. (c.in-Ok.ensures.told file told).1),
)
