-- How a run ends where nothing failed.
use Rattle.std.proofs.Common.{◌≡◌, ℕ, List, Option, inl, inr}
use Rattle.std.specs.Prelude.{◌⊎◌}
use Rattle.ads_outside.specs.declared.end.End.{End}
use Rattle.ads_outside.specs.declared.end.End.TheVariants as end
use Rattle.ads_outside.specs.declared.moves.Move.{Move}
use Rattle.ads_outside.specs.declared.named_file.NamedFile.{NamedFile}
use Rattle.ads_outside.specs.FilesState.{FilesState}
use Rattle.ads_outside.specs.Rose.{Rose}
use Rattle.ads_outside.specs.SinkState.{SinkState}
use Rattle.ads_outside.specs.WireState.{WireHistory, listened}
use Rattle.spec_store.specs.Slots.{Standing}
use Rattle.keep_play.specs.KeptSaves.{saves_of_play}
use Rattle.run_tasks.specs.declared.status.Status.{Status}
use Rattle.run_tasks.specs.declared.status.Status.TheVariants as status
use Rattle.ads_run.proofs.Causes.{IsOwnEnd, NothingFailed}
use Rattle.run_tasks.specs.Ending.{Ending, line_alone}
use Rattle.ads_run.specs.Ends.{RunsSo, RunsBy}
use Rattle.run_tasks.specs.KeepAsked.{Keeping}
use Rattle.plant_commands.specs.Keeping.{EndsKeeping, PrintsKept, kept_ending}
use Rattle.run_tasks.specs.Prints.{PrintsEnding}
use Rattle.run_tasks.specs.Readings.{OverFiles}
use Rattle.run_tasks.specs.Service.{Service, ending_after}
use Rattle.plant_commands.specs.Serving.{MakesMoves, PrintsAt, EndsService}
use Rattle.ads_run.specs.Uses.{DiskUse, Uses}
use Rattle.run_tasks.specs.Verdict.{Verdict, Ends, Serves, Calls, CallsLocally, Keeps, Records, RecordsLocally}
use Rattle.ads_run.proofs.CallCauseLemmas.{own_call, own_local}
use Rattle.ads_run.proofs.CauseLemmas.{fault_cause}
use Rattle.ads_run.proofs.RecordCauseLemmas.{own_recording}
use Rattle.ads_run.proofs.RecordLocalEnds.{own_local_recording}
use Rattle.run_tasks.proofs.ReadingLemmas.{map_files, rose_from}

-- where nothing failed, a run that was to end so does
own_ending : (e : Ending) (s : Status) (out out_new : SinkState) → (Rose out.faults out_new.faults → ⊥) → PrintsEnding e s out out_new → (s ≡ e.status)
    ⊎ (s ≡ status.Memory)
own_ending e s out out_new no_fault (inl h) = inl h.0
own_ending e s out out_new no_fault (inr (inl h)) = absurd (no_fault h.1.1)
own_ending e s out out_new no_fault (inr (inr h)) = inr h.0

own_run : {O : Type 0} (service : Service) (r : End) (moves : List Move) (s : Status) (out out_new : SinkState) (wire wire_new : WireHistory) (u : Uses O)
    → (Rose out.faults out_new.faults → ⊥) → (Rose wire.stops wire_new.stops → ⊥) → MakesMoves service r moves (listened service.start wire) wire_new
    → PrintsAt r (ending_after service moves r) s out out_new → IsOwnEnd (Serves service) s u
own_run service end.Done moves s out out_new wire wire_new u no_fault no_stop made printed =
    elim (own_ending (ending_after service moves end.Done) s out out_new no_fault printed) [ inl e ↦ inl e | inr e ↦ inr (inr e) ]
own_run service end.Budget moves s out out_new wire wire_new u no_fault no_stop made printed =
    elim (own_ending (ending_after service moves end.Budget) s out out_new no_fault printed) [ inl e ↦ inr (inl e) | inr e ↦ inr (inr e) ]
own_run service end.LinkFault moves s out out_new wire wire_new u no_fault no_stop made printed =
    absurd (no_stop (fault_cause service moves wire wire_new made).stopped)
own_run service end.Memory moves s out out_new wire wire_new u no_fault no_stop made printed = inr (inr printed.0)

own_service : {O : Type 0} (service : Service) (s : Status) (u : Uses O) → (Rose u.out.faults u.out_new.faults → ⊥)
    → (Rose u.wire.stops u.wire_new.stops → ⊥) → EndsService service s u.out u.out_new u.wire u.wire_new → IsOwnEnd (Serves service) s u
own_service service s u no_fault no_stop (inl (inl h)) = absurd (no_stop h.0.stopped)
own_service service s u no_fault no_stop (inl (inr h)) = inr (inr h.1)
own_service service s u no_fault no_stop (inr (inl (same, inl h))) = absurd (no_fault h.1.1)
own_service service s u no_fault no_stop (inr (inl (same, inr h))) = inr (inr h.0)
own_service service s u no_fault no_stop (inr (inr h)) =
    own_run service h.runs.ended h.runs.moves s h.between u.out_new u.wire u.wire_new u
    (λ rose. no_fault (rose_from u.out.faults h.between.faults u.out_new.faults h.told.later.faults rose)) no_stop h.runs.wire h.runs.prints

-- a play over a store is done, or stopped by the limit
own_kept : (x : Keeping) (s : Status) (out out_new : SinkState) (disk : DiskUse) (standing : Option Standing) (saves : List (List ℕ))
    → (Rose out.faults out_new.faults → ⊥) → (Rose disk.faults disk.faults_new → ⊥) → PrintsKept x s out out_new disk standing saves
    → (s ≡ status.Done) ⊎ (s ≡ status.StoreLimit) ⊎ (s ≡ status.Memory)
own_kept x s out out_new disk standing saves no_fault no_stop (inl h) =
    elim (own_ending (kept_ending x standing) s out out_new no_fault h.1) [ inl e ↦ inl e | inr e ↦ inr (inr e) ]
own_kept x s out out_new disk standing saves no_fault no_stop (inr (inl h)) =
    elim (own_ending (line_alone status.StoreLimit) s out out_new no_fault h.1) [ inl e ↦ inr (inl e) | inr e ↦ inr (inr e) ]
own_kept x s out out_new disk standing saves no_fault no_stop (inr (inr (inl h))) = absurd (no_stop h.0)
own_kept x s out out_new disk standing saves no_fault no_stop (inr (inr (inr h))) = inr (inr h.0)

own_keeping : (x : Keeping) (s : Status) (out out_new : SinkState) (disk : DiskUse) → (Rose out.faults out_new.faults → ⊥)
    → (Rose disk.faults disk.faults_new → ⊥) → EndsKeeping x s out out_new disk
    → (s ≡ status.Done) ⊎ (s ≡ status.StoreLimit) ⊎ (s ≡ status.Memory)
own_keeping x s out out_new disk no_fault no_stop h =
    own_kept x s out out_new disk h.standing (saves_of_play x.description x.waves x.lines h.standing) no_fault no_stop h.ends

own_so : {O : Type 0} (v : Verdict) (s : Status) (files files_new : FilesState) (u : Uses O) → NothingFailed files files_new u → RunsSo v s u → IsOwnEnd v s u
own_so (Ends e) s files files_new u nothing h = own_ending e s u.out u.out_new nothing.writing h.0
own_so (Serves service) s files files_new u nothing h = own_service service s u nothing.writing nothing.serving h
own_so (Calls x) s files files_new u nothing h = own_call x s u.out u.out_new u.link nothing.writing nothing.talking h
own_so (CallsLocally x) s files files_new u nothing h = own_local x s u.out u.out_new nothing.writing h
own_so (Keeps x) s files files_new u nothing h = own_keeping x s u.out u.out_new u.disk nothing.writing nothing.storing h.0
own_so (Records x) s files files_new u nothing h =
    own_recording x s u.out u.out_new u.link u.keeper nothing.writing nothing.talking nothing.keeping h
own_so (RecordsLocally x) s files files_new u nothing h = own_local_recording x s u.out u.out_new u.keeper nothing.writing nothing.keeping h

own_by : {O : Type 0} (v : Verdict) (s : Status) (files files_new : FilesState) (u : Uses O) → NothingFailed files files_new u
    → RunsBy v (Rose files.faults files_new.faults) s u → IsOwnEnd v s u
own_by v s files files_new u nothing (inl h) = own_so v s files files_new u nothing h
own_by v s files files_new u nothing (inr h) = absurd (nothing.reading h.0)

pub own_end : {O : Type 0} (held : Option (List NamedFile)) (verdict_for : List NamedFile → List NamedFile → Verdict) (files files_new : FilesState)
    (s : Status)
    (u : Uses O) → OverFiles held (λ first second. RunsBy (verdict_for first second) (Rose files.faults files_new.faults) s u)
    → NothingFailed files files_new u → OverFiles held (λ first second. IsOwnEnd (verdict_for first second) s u)
own_end held verdict_for files files_new s u ends_so nothing =
    map_files held (λ first second. RunsBy (verdict_for first second) (Rose files.faults files_new.faults) s u)
    (λ first second. IsOwnEnd (verdict_for first second) s u)
    (λ first second h. own_by (verdict_for first second) s files files_new u nothing h)
    ends_so
