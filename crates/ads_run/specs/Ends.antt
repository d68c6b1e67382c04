-- How a run may end, and what it leaves outside.
use Rattle.std.specs.Prelude.{◌≡◌, ◌⊎◌}
use Rattle.run_tasks.specs.declared.status.Status.{Status}
use Rattle.run_tasks.specs.declared.status.Status.TheVariants as status
use Rattle.client_commands.specs.Calling.{EndsCall, EndsLocalCall}
use Rattle.plant_commands.specs.Keeping.{EndsKeeping}
use Rattle.run_tasks.specs.Prints.{PrintsEnding}
use Rattle.client_commands.specs.Recording.{EndsRecording, EndsLocalRecording}
use Rattle.plant_commands.specs.Serving.{EndsService}
use Rattle.ads_run.specs.Uses.{Uses}
use Rattle.run_tasks.specs.Verdict.{Verdict, Ends, Serves, Calls, CallsLocally, Keeps, Records, RecordsLocally, ended}

-- a run with any verdict
abbrev pub RunsSo : {O : Type 0} → Verdict → Status → Uses O → Type 0
RunsSo (Ends ending) s u = PrintsEnding ending s u.out u.out_new × (u.wire_new ≡ u.wire)
RunsSo (Serves service) s u = EndsService service s u.out u.out_new u.wire u.wire_new
RunsSo (Calls x) s u = EndsCall x s u.out u.out_new u.link
RunsSo (CallsLocally x) s u = EndsLocalCall x s u.out u.out_new
RunsSo (Keeps x) s u = EndsKeeping x s u.out u.out_new u.disk × (u.wire_new ≡ u.wire)
RunsSo (Records x) s u = EndsRecording x s u.out u.out_new u.link u.keeper
RunsSo (RecordsLocally x) s u = EndsLocalRecording x s u.out u.out_new u.keeper

abbrev pub RunsBy : {O : Type 0} → Verdict → Type 0 → Status → Uses O → Type 0
RunsBy verdict reading_failed s u = RunsSo verdict s u ⊎ (reading_failed × RunsSo (ended status.ReadFault) s u)
