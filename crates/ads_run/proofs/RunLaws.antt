-- What `ends` of `run` and of `run_program` says of every run: each status has its cause; and where nothing failed, the run ends as its
-- verdict says.
use Rattle.std.proofs.Common.{List, ℕ}
use Rattle.ads_outside.specs.FilesState.{FilesState}
use Rattle.ads_outside.specs.Rose.{Rose}
use Rattle.signals.specs.Wave.{Wave}
use Rattle.run_tasks.specs.declared.status.Status.{Status}
use Rattle.run_tasks.specs.Readings.{OverFiles}
use Rattle.run_tasks.specs.Tasks.{asked_task}
use Rattle.run_tasks.specs.Verdict.{verdict_of}
use Rattle.ads_run.specs.Ends.{RunsBy}
use Rattle.ads_run.specs.Uses.{Uses}
use Rattle.ads_run.proofs.Causes.{HasCause, IsOwnEnd, NothingFailed}
use Rattle.ads_run.proofs.CauseLemmas.{facts_of}
use Rattle.ads_run.proofs.OwnLemmas.{own_end}

-- a run of these words ended so
abbrev pub Ended : {O : Type 0} → List Wave → List (List ℕ) → Status → FilesState → FilesState → Uses O → Type 0
Ended waves words s files files_new u =
    OverFiles files.held (λ first second. RunsBy (verdict_of waves words first second) (Rose files.faults files_new.faults) s u)

-- why it ended so
pub run_has_cause : {O : Type 0} (waves : List Wave) (words : List (List ℕ)) (s : Status) (files files_new : FilesState) (u : Uses O)
    → Ended waves words s files files_new u → HasCause (asked_task words) s u
run_has_cause waves words s files files_new u ends =
    (facts_of files.held waves (asked_task words) (Rose files.faults files_new.faults) s u ends).cause

-- Where nothing failed, the run ends as its verdict says; a service is done, or took all its events; a play over a store is done, or
-- stopped by the limit.
pub run_is_complete : {O : Type 0} (waves : List Wave) (words : List (List ℕ)) (s : Status) (files files_new : FilesState) (u : Uses O)
    → Ended waves words s files files_new u → NothingFailed files files_new u
    → OverFiles files.held (λ first second. IsOwnEnd (verdict_of waves words first second) s u)
run_is_complete waves words s files files_new u ends nothing =
    own_end files.held (λ first second. verdict_of waves words first second) files files_new s u ends nothing
