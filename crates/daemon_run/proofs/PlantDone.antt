-- A plant that is done ended with its wire.
use Rattle.std.proofs.Common.{◌≡◌, ℕ, List, length, inl, inr, ap, sym, ◌∙◌}
use Rattle.std.specs.Prelude.{◌⊎◌, Option, Some, None}
use Rattle.ads_outside.specs.declared.end.End.{End}
use Rattle.ads_outside.specs.declared.end.End.TheVariants as end
use Rattle.ads_outside.specs.declared.listening.Listening.{Listening}
use Rattle.ads_outside.specs.declared.moves.Move.{Move}
use Rattle.ads_outside.specs.declared.named_file.NamedFile.{NamedFile}
use Rattle.ads_outside.specs.Named.{bytes_of}
use Rattle.ads_outside.specs.Rose.{raised}
use Rattle.ads_outside.specs.SinkState.{SinkState}
use Rattle.ads_outside.specs.WireState.{WireHistory, listened}
use Rattle.serve_loop.proofs.TurnLemmas.{ends-after}
use Rattle.spec_rules.specs.TextVerdict.{text_verdict}
use Rattle.spec_store.specs.Slots.{Standing}
use Rattle.keep_loop.specs.KeepingOn.{Begun}
use Rattle.keep_play.specs.KeptDisk.{DiskUse}
use Rattle.run_tasks.specs.declared.status.Status.{Status}
use Rattle.run_tasks.specs.declared.status.Status.TheVariants as status
use Rattle.run_tasks.specs.Ending.{line_alone}
use Rattle.run_tasks.specs.Readings.{OverFile}
use Rattle.run_tasks.specs.Service.{Service, counts_after}
use Rattle.run_tasks.specs.Verdict.{Verdict, verdict_of_serve_in}
use Rattle.run_tasks.proofs.VerdictLemmas.{of_file, of_accepted}
use Rattle.plant_commands.specs.Serving.{MakesMoves, PrintsAt, CannotRun, TellsAndRuns}
use Rattle.daemon_run.specs.Kept.{EndsBefore, RunsKept, status_kept}
use Rattle.daemon_run.specs.Plant.{Plant, Serving, events_with, plant_kept, plant_of, serves_plant, service_of, verdict_on}
use Rattle.daemon_run.specs.PlantEnds.{EndsBy, PlantBy}
use Rattle.daemon_run.specs.Printed.{ending_so}
use Rattle.daemon_run.proofs.DoneLemmas.{IsNotDone, ended_not_done, not_done, serves_not_done, service_done}

-- the wire of a plant that ran over a store and is done answered End
run_done : (service : Service) (r : End) (done : Status) (saved : Option ℕ) (counts : List ℕ) (moves : List Move) (s : Status)
    (between out_new : SinkState) (wire wire_new : WireHistory) → MakesMoves service r moves (listened service.start wire) wire_new
    → PrintsAt r (ending_so r done saved counts) s between out_new → s ≡ status.Done → wire_new.ends ≡ raised wire.ends
run_done service end.Done done saved counts moves s between out_new wire wire_new made printed is =
    ap (λ (x : WireHistory). x.ends) made.grown ∙ ap raised (ends-after moves (listened service.start wire))
run_done service end.Budget done saved counts moves s between out_new wire wire_new made printed is =
    absurd (not_done (ending_so end.Budget done saved counts) s between out_new (λ e. (cc)) printed is)
run_done service end.LinkFault done saved counts moves s between out_new wire wire_new made printed is =
    absurd (not_done (line_alone status.LinkFault) s between out_new (λ e. (cc)) printed is)
run_done service end.Memory done saved counts moves s between out_new wire wire_new made printed is =
    let no : status.Memory ≡ status.Done = sym printed.0 ∙ is in cc

cannot_be_done : (a : Listening) (s : Status) (out out_new : SinkState) (wire wire_new : WireHistory) → CannotRun a s out out_new wire wire_new
    → s ≡ status.Done → ⊥
cannot_be_done a s out out_new wire wire_new (inl (inl h)) is = not_done (line_alone status.LinkFault) s out out_new (λ e. (cc)) h.1 is
cannot_be_done a s out out_new wire wire_new (inl (inr h)) is = let no : status.Memory ≡ status.Done = sym h.1 ∙ is in cc
cannot_be_done a s out out_new wire wire_new (inr (same, inl h)) is = let no : status.WriteFault ≡ status.Done = sym h.0 ∙ is in cc
cannot_be_done a s out out_new wire wire_new (inr (same, inr h)) is = let no : status.Memory ≡ status.Done = sym h.0 ∙ is in cc

kept_done : (h : Serving) (x : Plant) (standing : Option Standing) (begun : List Begun) (s : Status) (out out_new : SinkState) (disk : DiskUse)
    (wire wire_new : WireHistory) → EndsBefore x begun s out out_new disk wire wire_new
    ⊎ TellsAndRuns (λ between. RunsKept h x standing begun s between out_new disk (listened x.start wire) wire_new) out
    → s ≡ status.Done → wire_new.ends ≡ raised wire.ends
kept_done h x standing begun s out out_new disk wire wire_new (inl (none, inl cannot)) is =
    absurd (not_done (line_alone status.StoreFault) s out out_new (λ e. (cc)) cannot.2 is)
kept_done h x standing begun s out out_new disk wire wire_new (inl (none, inr cannot)) is =
    absurd (cannot_be_done x.start s out out_new wire wire_new cannot is)
kept_done h x standing begun s out out_new disk wire wire_new (inr t) is =
    let service = service_of h (plant_kept standing x) in
    run_done service t.runs.kept.ended (status_kept t.runs.kept) (Some t.runs.kept.counts.saved) (counts_after service.machine t.runs.moves)
    t.runs.moves s t.between out_new wire wire_new t.runs.wire t.runs.prints is

ends_done : (store : Option (List ℕ)) (h : Serving) (x : Plant) (s : Status) (out out_new : SinkState) (disk : DiskUse) (wire wire_new : WireHistory)
    → EndsBy store h x s out out_new disk wire wire_new → s ≡ status.Done → wire_new.ends ≡ raised wire.ends
ends_done None h x s out out_new disk wire wire_new ends is = service_done (service_of h x) s out out_new wire wire_new ends is
ends_done (Some name) h x s out out_new disk wire wire_new ends is =
    kept_done h x ends.standing ends.begun s out out_new disk wire wire_new ends.ends is

plant_not_done : (h : Serving) (name listen : List ℕ) (file : Option (List ℕ)) → IsNotDone (verdict_on h name listen file)
plant_not_done h name listen file =
    of_file IsNotDone (verdict_of_serve_in h.profile h.waves name listen (events_with h.store)) file
    (ended_not_done status.ReadFault (λ e. (cc))) (ended_not_done status.TooLong (λ e. (cc)))
    (λ bytes. of_accepted IsNotDone (λ d. serves_plant h (plant_of name listen bytes d)) (text_verdict (length h.waves) bytes)
    (λ n item. ended_not_done (status.BadDescription n item) (λ e. (cc))) (λ d. serves_not_done (service_of h (plant_of name listen bytes d))))

by_done : (h : Serving) (disk_same : Type 0) (v : Verdict) (failed : Type 0) (s : Status) (out out_new : SinkState) (disk : DiskUse)
    (wire wire_new : WireHistory) → IsNotDone v → PlantBy h disk_same v failed s out out_new disk wire wire_new → s ≡ status.Done
    → wire_new.ends ≡ raised wire.ends
by_done h disk_same v failed s out out_new disk wire wire_new never (inl (inl k)) is =
    absurd (not_done k.ending s out out_new (never k.ending k.is) k.printed is)
by_done h disk_same v failed s out out_new disk wire wire_new never (inl (inr k)) is =
    ends_done h.store h k.made s out out_new disk wire wire_new k.comes is
by_done h disk_same v failed s out out_new disk wire wire_new never (inr k) is =
    absurd (not_done k.1.ending s out out_new (ended_not_done status.ReadFault (λ e. (cc)) k.1.ending k.1.is) k.1.printed is)

pub plant_done : (held : Option (List NamedFile)) (h : Serving) (disk_same : Type 0) (name listen : List ℕ) (failed : Type 0) (s : Status)
    (out out_new : SinkState) (disk : DiskUse) (wire wire_new : WireHistory)
    → OverFile held (λ files. PlantBy h disk_same (verdict_on h name listen (bytes_of files name)) failed s out out_new disk wire wire_new)
    → s ≡ status.Done → wire_new.ends ≡ raised wire.ends
plant_done None h disk_same name listen failed s out out_new disk wire wire_new k =
    by_done h disk_same (verdict_on h name listen (bytes_of k.0 name)) failed s out out_new disk wire wire_new
    (plant_not_done h name listen (bytes_of k.0 name)) k.1
plant_done (Some files) h disk_same name listen failed s out out_new disk wire wire_new k =
    by_done h disk_same (verdict_on h name listen (bytes_of files name)) failed s out out_new disk wire wire_new
    (plant_not_done h name listen (bytes_of files name)) k
