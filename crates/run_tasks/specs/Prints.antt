-- What a run has printed that was to end so.
use Rattle.std.specs.Prelude.{◌≡◌, ◌⊎◌, ℕ, List}
use Rattle.ads_outside.specs.declared.put.Put.{Put}
use Rattle.ads_outside.specs.declared.put.Put.TheVariants as put
use Rattle.ads_outside.specs.Puts.{Puts}
use Rattle.ads_outside.specs.SinkState.{SinkState, NeverFalls}
use Rattle.run_tasks.specs.declared.status.Status.{Status}
use Rattle.run_tasks.specs.declared.status.Status.TheVariants as status
use Rattle.run_tasks.specs.Ending.{Ending}
use Rattle.run_tasks.specs.StatusTable.{last_line_of}

-- the line on want of memory was put, and the sink answered something
abbrev pub PutsMemoryLine : SinkState → SinkState → Type 0
PutsMemoryLine old new = (answer : Put) × Puts answer old new (last_line_of status.Memory)

-- a text was put, for which memory was wanting, and then that line
abbrev pub PutsPartAndMemoryLine : List ℕ → SinkState → SinkState → Type 0
PutsPartAndMemoryLine text old new =
    (between : SinkState) × Puts put.Memory old between text × NeverFalls old between × PutsMemoryLine between new

-- the text stands in the sink; or a part, since the writing failed; or memory was wanting, before it was put or
-- while it was
abbrev pub PrintsEnding : Ending → Status → SinkState → SinkState → Type 0
PrintsEnding ending s old new =
    ((s ≡ ending.status) × Puts put.All old new ending.text)
    ⊎ ((s ≡ status.WriteFault) × Puts put.Failed old new ending.text)
    ⊎ ((s ≡ status.Memory) × (PutsMemoryLine old new ⊎ PutsPartAndMemoryLine ending.text old new))
