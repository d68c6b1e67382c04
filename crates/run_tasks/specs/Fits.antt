-- The numbers and texts of a command are those that the grammar of words allows.
use Rattle.std.specs.Prelude.{◌≤◌, ℕ, length, List, Option, Some}
use Rattle.cli_words.specs.declared.client_words.ClientWords.{ClientWords}
use Rattle.client_replies.specs.Sound.{AreShort}
use Rattle.run_tasks.specs.declared.client_task.ClientTask.{ClientTask}
use Rattle.run_tasks.specs.declared.client_task.ClientTask.TheVariants as ask
use Rattle.run_tasks.specs.declared.file_task.FileTask.{FileTask}
use Rattle.run_tasks.specs.declared.file_task.FileTask.TheVariants as file_task
use Rattle.run_tasks.specs.declared.record_task.RecordTask.{RecordTask}
use Rattle.run_tasks.specs.declared.task.Task.{Task}
use Rattle.run_tasks.specs.declared.task.Task.TheVariants as task

abbrev pub IsTextOfWords : List ℕ → Type 0
IsTextOfWords text = length text ≤ 65536

abbrev pub FitsClientTask : ClientTask → Type 0
FitsClientTask ask.Info = Unit {0}
FitsClientTask ask.State = Unit {0}
FitsClientTask ask.List = Unit {0}
FitsClientTask (ask.Control ads device) = (ads ≤ 65535) × (device ≤ 65535)
FitsClientTask (ask.Get name) = IsTextOfWords name
FitsClientTask (ask.Show name) = IsTextOfWords name
FitsClientTask (ask.Set name value) = IsTextOfWords name × IsTextOfWords value
FitsClientTask (ask.Watch name change cycle count) = IsTextOfWords name × (cycle ≤ 4294967295) × (1 ≤ count) × (count ≤ 1000000)

abbrev pub FitsClient : ClientWords → Type 0
FitsClient client = client.port ≤ 65535

abbrev pub FitsFileTask : FileTask → Type 0
FitsFileTask (file_task.Load n) = n ≤ 100000
FitsFileTask t = Unit {0}

pub record FitsRecord (what : RecordTask) : Type 0 where
  pub client : FitsClient what.client
  pub cycle : what.cycle ≤ 4294967295
  pub some : 1 ≤ what.count
  pub most : what.count ≤ 1000000
  pub named : 1 ≤ length what.names
  pub few : length what.names ≤ 16
  pub short : AreShort what.names

abbrev pub FitsTask : Option Task → Type 0
FitsTask (Some (task.OfFiles t)) = FitsFileTask t
FitsTask (Some (task.Ask what client)) = FitsClientTask what × FitsClient client
FitsTask (Some (task.Record what)) = FitsRecord what
FitsTask t = Unit {0}
