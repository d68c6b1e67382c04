-- How the save at the end of a run ends it. No public clause cites it.
use Rattle.std.specs.Prelude.{◌≡◌, ℕ, ◌+◌, List, Option}
use Rattle.persist_store.specs.Store.{StoreState}
use Rattle.keep_loop.specs.declared.keep_end.KeepEnd.{KeepEnd}
use Rattle.keep_loop.specs.declared.keep_end.KeepEnd.TheVariants as keep
use Rattle.keep_loop.specs.declared.run_end.RunEnd.{RunEnd}
use Rattle.keep_loop.specs.declared.run_end.RunEnd.TheVariants as run
use Rattle.keep_loop.specs.declared.save_end.SaveEnd.{SaveEnd}
use Rattle.keep_loop.specs.declared.save_end.SaveEnd.TheVariants as save
use Rattle.keep_loop.specs.Saving.{AfterSave}

-- how a run whose turns ended so ends with so many saves
abbrev pub end_of : RunEnd → ℕ → KeepEnd
end_of run.Done saved = keep.Done saved
end_of run.LinkFault saved = keep.LinkFault saved
end_of run.Budget saved = keep.Budget saved

-- how a run with so many saves ends by its last one
abbrev pub end_by_save : SaveEnd → RunEnd → ℕ → KeepEnd
end_by_save save.Same ended saved = end_of ended saved
end_by_save save.Saved ended saved = end_of ended (saved + 1)
end_by_save save.Failed ended saved = keep.StoreFault
end_by_save save.Limit ended saved = keep.StoreLimit
end_by_save save.Memory ended saved = keep.Memory

-- so a run ends that what became of a body ended behind a tick
abbrev pub EndsAsStopped : SaveEnd → KeepEnd → Type 0
EndsAsStopped save.Same end = ⊥
EndsAsStopped save.Saved end = ⊥
EndsAsStopped save.Failed end = end ≡ keep.StoreFault
EndsAsStopped save.Limit end = end ≡ keep.StoreLimit
EndsAsStopped save.Memory end = end ≡ keep.Memory

pub record EndsBySave {D : Type 0} (end : KeepEnd) (ended : RunEnd) (saved : ℕ) (IsBody : List ℕ → Type 0) (contents : D → Option (List ℕ))
    (moment : D → ℕ) (left_since : D → ℕ → List ℕ → Type 0) (old_disk new_disk : D) (old new : StoreState) : Type 0 where
  pub by : SaveEnd
  pub is : end ≡ end_by_save by ended saved
  pub saves : AfterSave by IsBody contents moment left_since old_disk new_disk old new
