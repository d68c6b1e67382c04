-- Why a run ended so, by what it is handed in and leaves, by computation.
use Rattle.std.specs.Prelude.{◌<◌, ◌==◌, ◌≡◌, refl, ℕ, List, [], ◌∷◌, codes, map, true, false, Some, None}
use Rattle.std.proofs.Common.{subst, ap, inl, inr, lit<, lit≤}
use Rattle.std.proofs.lemmas.Bool.{false≢true, le-leb}
use Rattle.ads_outside.specs.FilesState.{FilesState}
use Rattle.ads_outside.specs.SinkState.{SinkState}
use Rattle.ads_outside.specs.WireState.{WireHistory}
use Rattle.serve_loop.specs.TurnTaken.{raised_by}
use Rattle.sample_store.specs.Keeper.{KeeperState}
use Rattle.run_tasks.specs.declared.file_task.FileTask.TheVariants as file_task
use Rattle.run_tasks.specs.declared.client_task.ClientTask.TheVariants as ask
use Rattle.run_tasks.specs.declared.status.Status.TheVariants as status
use Rattle.run_tasks.specs.declared.task.Task.TheVariants as task
use Rattle.run_tasks.specs.BuiltIn.{built_in}
use Rattle.run_tasks.specs.KeepAsked.{keeping}
use Rattle.run_tasks.specs.Readings.{is_service}
use Rattle.run_tasks.specs.StatusTable.{number_of}
use Rattle.run_tasks.specs.Verdict.{Calls, Keeps, Records, RecordsLocally, Serves, ended}
use Rattle.client_commands.specs.Recording.{MOST_ROWS}
use Rattle.ads_run.proofs.Causes.{CauseOfKeeping, CauseOfService, EndsOfWire, FailsOfWire, HasCause, IsEndOfCall, IsEndOfLocal, IsNoServiceEnd, IsOwnEnd}
use Rattle.ads_run.proofs.Causes.{NothingFailed, TakesAll}
use Rattle.ads_run.specs.Ends.{RunsBy, RunsSo}
use Rattle.ads_run.proofs.RecordCauses.{CauseOfLocalRecording, CauseOfRecording, IsEndOfRecording, IsFull}
use Rattle.ads_run.specs.Uses.{Uses, uses}
use Rattle.run_examples.proofs.CallExamples as calls
use Rattle.run_examples.proofs.RecordExamples as records
use Rattle.run_examples.proofs.KeptExamples.{disk_with, unused}
use Rattle.run_examples.proofs.LocalExamples as local
use Rattle.run_examples.proofs.PromisesExamples.{service}
use Rattle.run_examples.proofs.TaskExamples.{client, client_here, what}

-- files of which so many readings failed
abbrev files : ℕ → FilesState
files faults = record { held = Some []; names = Some []; faults = faults }

abbrev sink : List ℕ → ℕ → SinkState
sink held faults = record { held = Some held; faults = faults; wants = 0 }

abbrev wire : ℕ → ℕ → ℕ → WireHistory
wire events ends stops = record unused { events = events; ends = ends; stops = stops }

abbrev keeper : ℕ → KeeperState
keeper faults = records.keeper [] [] faults

-- a run that put a text, whose wire became this, and that kept nothing and called no link
abbrev run : List ℕ → WireHistory → Uses ℕ
run text wire_new =
    uses (sink [] 0) (sink text 0) unused wire_new calls.the_link (disk_with [] 0) (record { old = keeper 0; new = keeper 0 })

-- what is served over a wire
services : map is_service (None ∷ Some (task.OfFiles (file_task.Load 3)) ∷ Some (task.Serve [] [] 1) ∷ Some (task.RelayServe [] [] 1)
    ∷ Some (task.Keep [] [] []) ∷ Some (task.Ask ask.State client) ∷ Some (task.Record what) ∷ [])
    ≡ false ∷ false ∷ true ∷ true ∷ false ∷ false ∷ false ∷ []
services = refl

-- a service of seven events at most: it gave two and then ended; it gave all; or it gave two and then failed
gave_two : HasCause (Some (task.Serve [] [] 7)) status.Done (run [] (wire 2 1 0))
unfolding raised_by
gave_two = record { count = 2; fewer = lit< tt; events = refl; ended = refl; no_stop = refl }

gave_all : CauseOfService 7 status.Budget unused (wire 7 0 0)
unfolding raised_by
gave_all = record { events = refl; no_end = refl; no_stop = refl }

failed : CauseOfService 7 status.LinkFault unused (wire 2 0 1)
unfolding raised_by
failed = record { stopped = lit≤ tt; no_end = refl; count = 2; fewer = inr (lit< tt); events = refl }

-- it is not done where no End was answered, and took not all where one was left
not_ended : EndsOfWire 7 unused (wire 2 0 0) → ⊥
not_ended e = false≢true (ap (λ n. n == 1) e.ended)

one_left : TakesAll 7 unused (wire 6 0 0) → ⊥
unfolding raised_by
one_left t = false≢true (ap (λ n. n == 7) t.events)

nothing_stopped : FailsOfWire 7 unused (wire 2 0 0) → ⊥
nothing_stopped f = false≢true (le-leb 1 0 f.stopped)

-- what only a client, a store or a service ends with
no_client : IsNoServiceEnd (status.Refused 0x710) → ⊥
no_client h = h

no_store : IsNoServiceEnd status.StoreFault → ⊥
no_store h = h

no_budget : HasCause (Some (task.OfFiles (file_task.Load 3))) status.Budget (run [] unused) → ⊥
no_budget h = h

refused_words : HasCause None status.Usage (run [] unused)
refused_words = tt

-- a store fails only where a call of the disk did
disk_failed : CauseOfKeeping status.StoreFault 0 1
disk_failed = lit≤ tt

disk_stood : CauseOfKeeping status.StoreFault 3 3 → ⊥
disk_stood r = false≢true (le-leb 4 3 r)

-- a call ends as its conversation does over the link's answers
as_it_ended : IsEndOfCall calls.asks status.Done calls.new_link
as_it_ended = calls.ended_so

own_end : IsOwnEnd (Calls calls.asks) status.Done (run [] unused)
own_end = inl calls.ended_so

-- a call in the same process ended otherwise than it does
local_end : IsEndOfLocal local.asks status.Budget → ⊥
local_end e = local.no_budget e.ended e.end_is (ap number_of e.status)

-- in the same process no link fails, and no request times out
local_link : HasCause (Some (task.Ask ask.State client_here)) status.LinkFault (run [] unused) → ⊥
local_link h = h

local_time : HasCause (Some (task.Ask ask.State client_here)) (status.TimedOut 5 9) (run [] unused) → ⊥
local_time h = h

local_value : HasCause (Some (task.Ask (ask.Set (codes "a") (codes "x")) client_here)) status.BadValue (run [] unused)
local_value = refl

no_value_set : HasCause (Some (task.Ask ask.State client_here)) status.BadValue (run [] unused) → ⊥
no_value_set e = false≢true e

-- a recording: of a keeper that failed, and of a table that is full
keeper_failed : CauseOfRecording records.asks status.KeeperFault records.old_link records.new_link (keeper 0) (keeper 1)
keeper_failed = lit≤ tt

keeper_stood : CauseOfRecording records.asks status.KeeperFault records.old_link records.new_link (keeper 0) (keeper 0) → ⊥
keeper_stood r = false≢true (le-leb 1 0 r)

is_full : IsFull None
is_full = record { count = 9223372036853775808; counts = tt; full = lit< tt }

not_full : IsFull (Some []) → ⊥
not_full f = false≢true (le-leb 9223372036853775808 0 (subst (λ n. MOST_ROWS < n) f.counts f.full))

recorded : IsEndOfRecording records.asks status.Done records.new_link (Some [])
recorded = records.ended_so

local_recording_fails : CauseOfLocalRecording status.LinkFault (keeper 0) (keeper 0) → ⊥
local_recording_fails h = h

-- where nothing failed a run ends as its verdict says, or for want of memory
as_told : IsOwnEnd (ended status.Usage) status.Usage (run [] unused)
as_told = inl refl

wanting : IsOwnEnd (ended status.Usage) status.Memory (run [] unused)
wanting = inr refl

other_end : IsOwnEnd (ended status.Usage) status.Done (run [] unused) → ⊥
other_end (inl e) = false≢true (ap (λ s. number_of s == 1) e)
other_end (inr e) = false≢true (ap (λ s. number_of s == 10) e)

service_done : IsOwnEnd (Serves service) status.Done (run [] unused)
service_done = inl refl

service_failed : IsOwnEnd (Serves service) status.LinkFault (run [] unused) → ⊥
service_failed (inl e) = false≢true (ap (λ s. number_of s == 0) e)
service_failed (inr (inl e)) = false≢true (ap (λ s. number_of s == 7) e)
service_failed (inr (inr e)) = false≢true (ap (λ s. number_of s == 10) e)

kept : IsOwnEnd (Keeps (keeping built_in [] [])) status.StoreLimit (run [] unused)
kept = inr (inl refl)

store_failed : IsOwnEnd (Keeps (keeping built_in [] [])) status.StoreFault (run [] unused) → ⊥
store_failed (inl e) = false≢true (ap (λ s. number_of s == 0) e)
store_failed (inr (inl e)) = false≢true (ap (λ s. number_of s == 15) e)
store_failed (inr (inr e)) = false≢true (ap (λ s. number_of s == 10) e)

full_here : IsOwnEnd (RecordsLocally (λ rows. local.asks)) status.StoreLimit
    (record (run [] unused) { keeper = record { old = record (keeper 0) { rows = None }; new = keeper 0 } })
full_here = inr (inl (refl, is_full))

record_full : IsOwnEnd (Records records.asks) status.StoreLimit
    (record (run [] unused) { keeper = record { old = record (keeper 0) { rows = None }; new = keeper 0 } })
record_full = inr (inl (refl, is_full))

-- no call failed; one of the disk did
nothing_failed : NothingFailed (files 0) (files 0) (run [] unused)
nothing_failed = record {
  reading = λ r. false≢true (le-leb 1 0 r);
  writing = λ r. false≢true (le-leb 1 0 r);
  serving = λ r. false≢true (le-leb 1 0 r);
  talking = λ r. false≢true (le-leb 1 0 r);
  storing = λ r. false≢true (le-leb 1 0 r);
  keeping = λ r. false≢true (le-leb 1 0 r);
}

one_failed : NothingFailed (files 0) (files 1) (run [] unused) → ⊥
one_failed n = n.reading (lit≤ tt)

-- a run: its ending is printed, and the wire is not called
usage_printed : RunsSo (ended status.Usage) status.Usage (run (codes "ads: usage\n") unused)
usage_printed = (inl (refl, refl), refl)

wire_called : RunsSo (ended status.Usage) status.Usage (run (codes "ads: usage\n") (wire 0 1 0)) → ⊥
wire_called (printed, same) = false≢true (ap (λ (h : WireHistory). h.ends == 0) same)

call_over : RunsSo (Calls calls.asks) status.Done (run (codes "ads 5 device 0\n") unused)
call_over = calls.call_rows.ends

-- a reading failed, and that is told in place of the verdict
reading_failed : RunsBy (ended status.Usage) (Unit {0}) status.ReadFault (run (codes "ads: read fault\n") unused)
reading_failed = inr (tt, (inl (refl, refl), refl))
