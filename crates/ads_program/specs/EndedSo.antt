-- How the program's run over the words of a process ended, by all that it was handed in, before and behind it.
use Rattle.std.specs.Prelude.{◌≡◌, ℕ, List}
use Rattle.ads_outside.specs.FilesState.{FilesState}
use Rattle.ads_outside.specs.Rose.{Rose}
use Rattle.run_tasks.specs.declared.status.Status.{Status}
use Rattle.run_tasks.specs.declared.status.Status.TheVariants as status
use Rattle.run_tasks.specs.Readings.{OverFiles}
use Rattle.run_tasks.specs.Verdict.{verdict_of}
use Rattle.ads_run.specs.Ends.{RunsBy}
use Rattle.ads_run.specs.ProgramWaves.{program_waves}
use Rattle.ads_run.specs.Uses.{Uses}

-- a run of these words: what `ends` and `read_fault` of `run_program` say of its status
pub record EndedSo {O : Type 0} (words : List (List ℕ)) (s : Status) (files files_new : FilesState) (u : Uses O) : Type 0 where
  pub ends : OverFiles files.held (λ first second. RunsBy (verdict_of program_waves words first second) (Rose files.faults files_new.faults) s u)
  pub read_fault : s ≡ status.ReadFault → Rose files.faults files_new.faults
