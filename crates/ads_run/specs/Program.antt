-- The words of the program's process; and what its run comes to over signals with given waves.
use Rattle.std.specs.Prelude.{ℕ, List, [], drop, map, length, Result, Ok, Err, String, string_bytes}
use Rattle.std.specs.Global.{Vec, Global}
use Rattle.ads_outside.specs.FilesState.{FilesState}
use Rattle.ads_outside.specs.Rose.{Rose}
use Rattle.signals.specs.Wave.{Wave}
use Rattle.spec_plant.specs.Description.{Description}
use Rattle.spec_machine.specs.ScriptLine.{ScriptLine}
use Rattle.run_tasks.specs.declared.status.Status.{Status}
use Rattle.ads_run.specs.Ends.{RunsBy}
use Rattle.plant_commands.specs.Migrated.{HasMigrated}
use Rattle.plant_commands.specs.Promises.{PlayKeepsPromises}
use Rattle.run_tasks.specs.Readings.{OverFiles}
use Rattle.run_tasks.specs.Tasks.{asked_task}
use Rattle.ads_run.specs.Uses.{Uses}
use Rattle.run_tasks.specs.Verdict.{verdict_of}

-- the words of a process behind the program's name; none where they could not be read
abbrev pub words_behind_name : {E : Type 0} → Result (Vec (String Global)) E → List (List ℕ)
words_behind_name (Ok all) = map string_bytes (drop 1 all.items)
words_behind_name (Err fault) = []

-- a run of these words over signals with these waves: what `run` says of it. No public clause cites this.
pub record RunsWith {O : Type 0} (waves : List Wave) (words : List (List ℕ)) (s : Status) (files files_new : FilesState) (u : Uses O) : Type 0 where
  pub ends : OverFiles files.held (λ first second. RunsBy (verdict_of waves words first second) (Rose files.faults files_new.faults) s u)
  pub migrated : HasMigrated (length waves) (asked_task words) s files.held u.out u.out_new
  pub promises : (d : Description) (lines : List ScriptLine) → PlayKeepsPromises d waves lines
