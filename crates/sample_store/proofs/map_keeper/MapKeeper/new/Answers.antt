use Rattle.std.proofs.Common.{sym, subst, List}
use Rattle.std.specs.Prelude.{map}
use Rattle.spec_samples.specs.Laws.{AreCountedFrom}
use Rattle.sample_store.specs.declared.row.Row.{Row}
use Rattle.sample_store.specs.Views.{row_kept}
use Rattle.sample_store.proofs.NumberLemmas.{none_counted}
use Rattle.sample_store.proofs.map_keeper.MapKeeper.new.Goals as goal

pub invariant_of-result : goal.invariant_of-result
invariant_of-result c = subst (λ (rows : List Row). AreCountedFrom 1 (map row_kept rows)) (sym c.new.ensures.items) none_counted
