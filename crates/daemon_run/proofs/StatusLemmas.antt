-- With which statuses a plant ends.
use Rattle.std.proofs.Common.{◌≡◌, ◌<◌, inl, inr, sym, subst, ◌∙◌}
use Rattle.std.specs.Prelude.{Bool, true, false, nat_lt, if◌then◌else◌, Option, Some, None}
use Rattle.std.proofs.lemmas.Bool.{cases_Bool, ltb-true}
use Rattle.ads_outside.specs.SinkState.{SinkState}
use Rattle.keep_loop.specs.declared.save_counts.SaveCounts.{SaveCounts}
use Rattle.keep_loop.specs.declared.save_end.SaveEnd.{SaveEnd}
use Rattle.keep_loop.specs.declared.save_end.SaveEnd.TheVariants as save
use Rattle.run_tasks.specs.declared.status.Status.{Status}
use Rattle.run_tasks.specs.declared.status.Status.TheVariants as status
use Rattle.run_tasks.specs.BeforeRun.{IsBeforeRun}
use Rattle.run_tasks.specs.Ending.{Ending}
use Rattle.run_tasks.specs.Outcomes.{IsOfDescription}
use Rattle.run_tasks.specs.Prints.{PrintsEnding}
use Rattle.plant_commands.specs.FileOutcomes.{IsOfService}
use Rattle.daemon_run.specs.Kept.{status_by}
use Rattle.daemon_run.specs.Printed.{IsOfPlant}

-- so it ends that printed such an ending
pub printed_of_plant : (e : Ending) (s : Status) (old new : SinkState) → PrintsEnding e s old new → IsOfPlant e.status → IsOfPlant s
printed_of_plant e s old new (inl h) is = subst IsOfPlant (sym h.0) is
printed_of_plant e s old new (inr (inl h)) is = subst IsOfPlant (sym h.0) tt
printed_of_plant e s old new (inr (inr h)) is = subst IsOfPlant (sym h.0) tt

-- and so a service
pub of_service : (s : Status) → IsOfService s → IsOfPlant s
of_service status.Done is = tt
of_service status.WriteFault is = tt
of_service status.LinkFault is = tt
of_service status.Budget is = tt
of_service status.Memory is = tt
of_service status.Usage is = absurd is
of_service (status.BadDescription n i) is = absurd is
of_service (status.BadScript n) is = absurd is
of_service status.ReadFault is = absurd is
of_service status.TooLong is = absurd is
of_service (status.Refused n) is = absurd is
of_service (status.BadPeer broke) is = absurd is
of_service (status.TimedOut m n) is = absurd is
of_service status.BadValue is = absurd is
of_service status.StoreFault is = absurd is
of_service status.StoreLimit is = absurd is
of_service status.KeeperFault is = absurd is

pub no_store_fault : {P : Type 0} (s : Status) → IsOfService s → s ≡ status.StoreFault → P
no_store_fault s is same = absurd (subst IsOfService same is)

-- none of them is told before the run
pub not_before : {P : Type 0} (s : Status) → IsOfPlant s → IsBeforeRun s → P
not_before status.Done is before = absurd before
not_before status.WriteFault is before = absurd before
not_before status.LinkFault is before = absurd before
not_before status.Budget is before = absurd before
not_before status.Memory is before = absurd before
not_before status.StoreFault is before = absurd before
not_before status.StoreLimit is before = absurd before
not_before status.Usage is before = absurd is
not_before (status.BadDescription n i) is before = absurd is
not_before (status.BadScript n) is before = absurd is
not_before status.ReadFault is before = absurd is
not_before status.TooLong is before = absurd is
not_before (status.Refused n) is before = absurd is
not_before (status.BadPeer broke) is before = absurd is
not_before (status.TimedOut m n) is before = absurd is
not_before status.BadValue is before = absurd is
not_before status.KeeperFault is before = absurd is

-- the store is no reason for the end of a run whose description decides
pub told_no_store : {P : Type 0} (e : Ending) (s : Status) (old new : SinkState) → PrintsEnding e s old new → IsOfDescription e.status
    → s ≡ status.StoreFault → P
told_no_store e s old new (inl h) is same = absurd (subst IsOfDescription (sym h.0 ∙ same) is)
told_no_store e s old new (inr (inl h)) is same = let no : status.WriteFault ≡ status.StoreFault = sym h.0 ∙ same in cc
told_no_store e s old new (inr (inr h)) is same = let no : status.Memory ≡ status.StoreFault = sym h.0 ∙ same in cc

-- it ends with a fault of the store only where that is the status of the ending
pub printed_fault : (e : Ending) (s : Status) (old new : SinkState) → PrintsEnding e s old new → s ≡ status.StoreFault → e.status ≡ status.StoreFault
printed_fault e s old new (inl h) same = sym h.0 ∙ same
printed_fault e s old new (inr (inl h)) same = let no : status.WriteFault ≡ status.StoreFault = sym h.0 ∙ same in cc
printed_fault e s old new (inr (inr h)) same = let no : status.Memory ≡ status.StoreFault = sym h.0 ∙ same in cc

pub other_fault : {P : Type 0} (r : Status) (s : Status) → (r ≡ status.StoreFault → ⊥) → (s ≡ status.StoreFault → r ≡ status.StoreFault)
    → s ≡ status.StoreFault → P
other_fault r s never told same = absurd (never (told same))

-- and that only where a save failed
pub fault_counted : (last : Option SaveEnd) (counts : SaveCounts) → status_by last counts ≡ status.StoreFault → 0 < counts.failed
fault_counted None counts same = cc
fault_counted (Some save.Same) counts same = cc
fault_counted (Some save.Saved) counts same = cc
fault_counted (Some save.Limit) counts same = go (nat_lt 0 counts.over) same
  where
    go : (b : Bool) → (if b then status.StoreLimit else status.Memory) ≡ status.StoreFault → 0 < counts.failed
    go true e = cc
    go false e = cc
fault_counted (Some save.Memory) counts same = cc
fault_counted (Some save.Failed) counts same =
    elim (cases_Bool (nat_lt 0 counts.failed)) [
      | inl more ↦ ltb-true 0 counts.failed more
      | inr none ↦ let no : status.Memory ≡ status.StoreFault = rw none at same in cc
    ]
