-- The end of a recording is that of a run.
use Rattle.std.proofs.Common.{ℕ, List, [], Option, Some, None, inl, refl}
use Rattle.ads_outside.specs.declared.named_file.NamedFile.{NamedFile}
use Rattle.ads_outside.specs.SinkState.{SinkState}
use Rattle.ads_outside.specs.WireState.{WireHistory}
use Rattle.signals.specs.Wave.{Wave}
use Rattle.cli_words.specs.declared.client_words.PeerWords.{PeerWords}
use Rattle.cli_words.specs.declared.client_words.PeerWords.TheVariants as peer
use Rattle.client_loop.specs.Called.{Calling}
use Rattle.run_tasks.specs.declared.record_task.RecordTask.{RecordTask}
use Rattle.run_tasks.specs.declared.status.Status.{Status}
use Rattle.ads_run.specs.Ends.{RunsBy}
use Rattle.run_tasks.specs.Readings.{OverFiles}
use Rattle.run_tasks.specs.RecordAsked.{recording_to}
use Rattle.client_commands.specs.Recording.{EndsRecording, EndsLocalRecording}
use Rattle.client_commands.specs.RecordedFrom.{RecordsFrom}
use Rattle.client_commands.specs.CallUses.{LinkUse, KeeperUse}
use Rattle.ads_run.specs.Uses.{DiskUse, Uses, uses}
use Rattle.run_tasks.specs.Verdict.{Records, RecordsLocally, verdict_of_record}
use Rattle.ads_run.proofs.RunLemmas.{file_as_run}

-- a run that recorded over the link
recorded_over_link : {O : Type 0} (held : Option (List NamedFile)) (x : ℕ → Calling) (failed : Type 0) (s : Status) (u : Uses O)
    → EndsRecording x s u.out u.out_new u.link u.keeper → OverFiles held (λ first second. RunsBy (Records x) failed s u)
recorded_over_link None x failed s u h = ([], [], inl h)
recorded_over_link (Some files) x failed s u h = inl h

-- which is a run's end, whatever its wire and its disk
pub records_as_run : {O : Type 0} (held : Option (List NamedFile)) (waves : List Wave) (what : RecordTask) (p : PeerWords) (failed : Type 0)
    (s : Status) (out out_new : SinkState) (wire : WireHistory) (link : LinkUse O) (disk : DiskUse) (keeper : KeeperUse)
    → RecordsFrom held waves what p failed s out out_new link keeper
    → OverFiles held (λ first second. RunsBy (verdict_of_record waves what p first) failed s (uses out out_new wire wire link disk keeper))
records_as_run held waves what (peer.To to net) failed s out out_new wire link disk keeper h =
    recorded_over_link held (recording_to what net to) failed s (uses out out_new wire wire link disk keeper) h
records_as_run held waves what (peer.Local name) failed s out out_new wire link disk keeper h =
    file_as_run RecordsLocally (λ x. EndsLocalRecording x s out out_new keeper) (Unit {0}) held
    (λ files. verdict_of_record waves what (peer.Local name) files) failed s (uses out out_new wire wire link disk keeper)
    (λ t. refl) (λ x k. k) h
