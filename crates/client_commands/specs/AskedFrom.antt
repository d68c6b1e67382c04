-- What a client leaves that asks over the link, or the server of a description in the same process, as its words name it.
use Rattle.std.specs.Prelude.{List, Option}
use Rattle.ads_outside.specs.declared.named_file.NamedFile.{NamedFile}
use Rattle.ads_outside.specs.SinkState.{SinkState}
use Rattle.signals.specs.Wave.{Wave}
use Rattle.client_loop.specs.Called.{calling}
use Rattle.cli_words.specs.declared.client_words.ClientWords.{ClientWords}
use Rattle.cli_words.specs.declared.client_words.PeerWords.{PeerWords}
use Rattle.cli_words.specs.declared.client_words.PeerWords.TheVariants as peer
use Rattle.run_tasks.specs.declared.client_task.ClientTask.{ClientTask}
use Rattle.run_tasks.specs.declared.status.Status.{Status}
use Rattle.run_tasks.specs.Asking.{asked_address, call_asked, own_address}
use Rattle.run_tasks.specs.EndsOr.{EndsOrBy}
use Rattle.run_tasks.specs.Readings.{OverFile}
use Rattle.run_tasks.specs.Verdict.{CallsLocally, verdict_of_ask}
use Rattle.client_commands.specs.Calling.{EndsCall, EndsLocalCall}
use Rattle.client_commands.specs.CallUses.{LinkUse}

abbrev pub AsksFrom : {O : Type 0} → Option (List NamedFile) → List Wave → ClientTask → ClientWords → PeerWords → Type 0 → Status → SinkState
    → SinkState → LinkUse O → Type 0
AsksFrom held waves what client (peer.To to net) failed s out out_new link =
    EndsCall (calling (own_address client) (asked_address net client) (call_asked what) to) s out out_new link
AsksFrom held waves what client (peer.Local name) failed s out out_new link =
    OverFile held (λ files. EndsOrBy CallsLocally (λ x. EndsLocalCall x s out out_new) (Unit {0})
    (verdict_of_ask waves what client (peer.Local name) files) failed s out out_new)
