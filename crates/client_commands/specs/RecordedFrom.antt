-- What a recording leaves, over the link or of a server in the same process, as its words name it.
use Rattle.std.specs.Prelude.{List, Option}
use Rattle.ads_outside.specs.declared.named_file.NamedFile.{NamedFile}
use Rattle.ads_outside.specs.SinkState.{SinkState}
use Rattle.signals.specs.Wave.{Wave}
use Rattle.cli_words.specs.declared.client_words.PeerWords.{PeerWords}
use Rattle.cli_words.specs.declared.client_words.PeerWords.TheVariants as peer
use Rattle.run_tasks.specs.declared.record_task.RecordTask.{RecordTask}
use Rattle.run_tasks.specs.declared.status.Status.{Status}
use Rattle.run_tasks.specs.EndsOr.{EndsOrBy}
use Rattle.run_tasks.specs.Readings.{OverFile}
use Rattle.run_tasks.specs.RecordAsked.{recording_to}
use Rattle.run_tasks.specs.Verdict.{RecordsLocally, verdict_of_record}
use Rattle.client_commands.specs.Recording.{EndsRecording, EndsLocalRecording}
use Rattle.client_commands.specs.CallUses.{LinkUse, KeeperUse}

abbrev pub RecordsFrom : {O : Type 0} → Option (List NamedFile) → List Wave → RecordTask → PeerWords → Type 0 → Status → SinkState → SinkState
    → LinkUse O → KeeperUse → Type 0
RecordsFrom held waves what (peer.To to net) failed s out out_new link keeper = EndsRecording (recording_to what net to) s out out_new link keeper
RecordsFrom held waves what (peer.Local name) failed s out out_new link keeper =
    OverFile held (λ files. EndsOrBy RecordsLocally (λ x. EndsLocalRecording x s out out_new keeper) (Unit {0})
    (verdict_of_record waves what (peer.Local name) files) failed s out out_new)
