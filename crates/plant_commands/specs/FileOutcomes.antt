-- Outcomes of the commands over files, and how each of them ends; no public clause cites this.
use Rattle.std.specs.Prelude.{◌≡◌, ◌⊎◌, List, [], Result, Ok, Err}
use Rattle.ads_base.specs.declared.no_memory.NoMemory.{NoMemory}
use Rattle.ads_outside.specs.SinkState.{SinkState}
use Rattle.signals.specs.Wave.{Wave}
use Rattle.spec_plant.specs.Description.{Description}
use Rattle.spec_machine.specs.Profile.{Profile, strict}
use Rattle.spec_machine.specs.ScriptLine.{ScriptLine}
use Rattle.type_layout.specs.Descriptions.{description_of}
use Rattle.ads_served.specs.Standing.{Standing}
use Rattle.server_core.specs.CoreState.{started_in}
use Rattle.server_core.specs.Served.{World, Client}
use Rattle.keep_play.specs.declared.kept_play.KeptPlay.{KeptPlay}
use Rattle.keep_play.specs.declared.kept_play.KeptPlay.TheVariants as kept
use Rattle.run_tasks.specs.declared.outcome.Outcome.{Outcome}
use Rattle.run_tasks.specs.declared.status.Status.{Status}
use Rattle.run_tasks.specs.declared.status.Status.TheVariants as status
use Rattle.plant_commands.specs.declared.scripted.Scripted.{Scripted}
use Rattle.run_tasks.specs.Ending.{line_alone}
use Rattle.run_tasks.specs.Prints.{PutsMemoryLine, PrintsEnding}
use Rattle.run_tasks.specs.Verdict.{Verdict, Play}
use Rattle.run_tasks.specs.Outcomes.{Decides, IsOfFile, IsOutcome}

-- a verdict is what is made of these lines; or the outcome is the verdict's
abbrev pub IsScriptOf : (List ScriptLine → Verdict) → Verdict → Result (List ScriptLine) Outcome → Type 0
IsScriptOf play verdict (Ok lines) = play lines ≡ verdict
IsScriptOf play verdict (Err o) = IsOutcome verdict o

-- the same, or a reading failed
abbrev pub GivesScript : (List ScriptLine → Verdict) → Verdict → Type 0 → Result (List ScriptLine) Outcome → Type 0
GivesScript play verdict failed (Ok lines) = play lines ≡ verdict
GivesScript play verdict failed (Err o) = Decides verdict failed o

-- the same of a description and a script
abbrev pub GivesBoth : Play → Verdict → Type 0 → Result Scripted Outcome → Type 0
GivesBoth play verdict failed (Ok both) = play (description_of both.description) both.script ≡ verdict
GivesBoth play verdict failed (Err o) = Decides verdict failed o

-- how a description that was read is told of
abbrev pub IsOfBytes : Status → Type 0
IsOfBytes status.Done = Unit {0}
IsOfBytes (status.BadDescription n item) = Unit {0}
IsOfBytes s = ⊥

-- the end of a play, or of a script off the grammar
abbrev pub IsOfScript : Status → Type 0
IsOfScript status.Done = Unit {0}
IsOfScript (status.BadScript n) = Unit {0}
IsOfScript s = ⊥

-- or of a script's file that gives no bytes
abbrev pub IsOfScriptFile : Status → Type 0
IsOfScriptFile s = IsOfScript s ⊎ IsOfFile s

-- how a task ends that asks its files alone, want of memory and a failed writing aside
abbrev pub IsOfFileTask : Status → Type 0
IsOfFileTask status.Usage = ⊥
IsOfFileTask status.WriteFault = ⊥
IsOfFileTask status.LinkFault = ⊥
IsOfFileTask status.Budget = ⊥
IsOfFileTask status.Memory = ⊥
IsOfFileTask (status.Refused code) = ⊥
IsOfFileTask (status.BadPeer broke) = ⊥
IsOfFileTask (status.TimedOut sent now) = ⊥
IsOfFileTask status.BadValue = ⊥
IsOfFileTask status.StoreFault = ⊥
IsOfFileTask status.StoreLimit = ⊥
IsOfFileTask status.KeeperFault = ⊥
IsOfFileTask s = Unit {0}

-- how a service ends, whose description is accepted
abbrev pub IsOfService : Status → Type 0
IsOfService status.Done = Unit {0}
IsOfService status.WriteFault = Unit {0}
IsOfService status.LinkFault = Unit {0}
IsOfService status.Budget = Unit {0}
IsOfService status.Memory = Unit {0}
IsOfService s = ⊥

-- how a play over a store ends, whose description and script are read
abbrev pub IsOfKeeping : Status → Type 0
IsOfKeeping status.Done = Unit {0}
IsOfKeeping status.WriteFault = Unit {0}
IsOfKeeping status.Memory = Unit {0}
IsOfKeeping status.StoreFault = Unit {0}
IsOfKeeping status.StoreLimit = Unit {0}
IsOfKeeping s = ⊥

-- what is printed of a play over a store that ended so
abbrev pub PrintsPlay : Result KeptPlay NoMemory → Status → SinkState → SinkState → Type 0
PrintsPlay (Ok (kept.Done text)) s old new = PrintsEnding (record { status = status.Done; text = text }) s old new
PrintsPlay (Ok kept.StoreFault) s old new = PrintsEnding (line_alone status.StoreFault) s old new
PrintsPlay (Ok kept.StoreLimit) s old new = PrintsEnding (line_alone status.StoreLimit) s old new
PrintsPlay (Err e) s old new = (s ≡ status.Memory) × PutsMemoryLine old new

-- a server of a profile that is about to begin
abbrev pub at_start_in : Profile → Description → List Wave → Standing World Client
at_start_in profile d waves = record { running = started_in profile d waves; notes = [] }

-- the strict one
abbrev pub at_start : Description → List Wave → Standing World Client
at_start d waves = at_start_in strict d waves
