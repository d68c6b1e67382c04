-- A run that calls its files alone, or one thing more: its ending is printed; or it is of one kind, and that decides.
use Rattle.std.specs.Prelude.{◌≡◌, ◌⊎◌}
use Rattle.ads_outside.specs.SinkState.{SinkState}
use Rattle.run_tasks.specs.declared.status.Status.{Status}
use Rattle.run_tasks.specs.declared.status.Status.TheVariants as status
use Rattle.run_tasks.specs.Ending.{Ending}
use Rattle.run_tasks.specs.Prints.{PutsMemoryLine, PrintsEnding}
use Rattle.run_tasks.specs.Verdict.{Verdict, Ends, Serves, ended}

-- memory was wanting before anything was called
abbrev pub WantsMemory : Status → SinkState → SinkState → Type 0
WantsMemory s out out_new = (s ≡ status.Memory) × PutsMemoryLine out out_new

-- the verdict is an ending, which is printed, and this holds
pub record IsPrinted (Still : Type 0) (verdict : Verdict) (s : Status) (out out_new : SinkState) : Type 0 where
  pub ending : Ending
  pub is : Ends ending ≡ verdict
  pub printed : PrintsEnding ending s out out_new
  pub still : Still

-- or it is of this kind, and what that comes to holds
pub record IsOfKind {X : Type 0} (kind : X → Verdict) (ComesTo : X → Type 0) (verdict : Verdict) : Type 0 where
  pub made : X
  pub is : kind made ≡ verdict
  pub comes : ComesTo made

abbrev pub EndsOr : {X : Type 0} → (X → Verdict) → (X → Type 0) → (Still : Type 0) → Verdict → Status → SinkState → SinkState → Type 0
EndsOr kind ComesTo Still verdict s out out_new = IsPrinted Still verdict s out out_new ⊎ IsOfKind kind ComesTo verdict

-- it ended so; or a reading failed, and that is told
abbrev pub EndsOrBy : {X : Type 0} → (X → Verdict) → (X → Type 0) → (Still : Type 0) → Verdict → Type 0 → Status → SinkState → SinkState → Type 0
EndsOrBy kind ComesTo Still verdict reading_failed s out out_new =
    EndsOr kind ComesTo Still verdict s out out_new ⊎ (reading_failed × IsPrinted Still (ended status.ReadFault) s out out_new)

-- a run that calls its files alone: no verdict of it is a service
abbrev pub PrintsBy : Verdict → Type 0 → Status → SinkState → SinkState → Type 0
PrintsBy verdict reading_failed s out out_new = EndsOrBy Serves (λ service. ⊥) (Unit {0}) verdict reading_failed s out out_new
