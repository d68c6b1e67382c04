-- What the words ask for: a task with its files.
use Rattle.std.specs.Prelude.{ℕ, List, Option, option_map}
use Rattle.cli_words.specs.declared.command.Command.{Command}
use Rattle.cli_words.specs.declared.command.Command.TheVariants as command
use Rattle.cli_words.specs.Commands.{command_of}
use Rattle.run_tasks.specs.declared.client_task.ClientTask.TheVariants as ask
use Rattle.run_tasks.specs.declared.file_task.FileTask.TheVariants as file_task
use Rattle.run_tasks.specs.declared.task.Task.{Task}
use Rattle.run_tasks.specs.declared.task.Task.TheVariants as task

-- the task of a command
unfoldable pub task_of_command : Command → Task
task_of_command (command.Selftest script) = task.OfFiles (file_task.Selftest script)
task_of_command (command.Check description) = task.OfFiles (file_task.Check description)
task_of_command (command.Replay description script) = task.OfFiles (file_task.Replay description script)
task_of_command (command.Load n) = task.OfFiles (file_task.Load n)
task_of_command (command.Migrate description) = task.OfFiles (file_task.Migrate description)
task_of_command (command.Serve description listen events) = task.Serve description listen events
task_of_command (command.Info client) = task.Ask ask.Info client
task_of_command (command.State client) = task.Ask ask.State client
task_of_command (command.List client) = task.Ask ask.List client
task_of_command (command.Control ads device client) = task.Ask (ask.Control ads device) client
task_of_command (command.Get name client) = task.Ask (ask.Get name) client
task_of_command (command.Show name client) = task.Ask (ask.Show name) client
task_of_command (command.Set name value client) = task.Ask (ask.Set name value) client
task_of_command (command.Watch name change cycle count client) = task.Ask (ask.Watch name change cycle count) client
task_of_command (command.Relay description script) = task.OfFiles (file_task.Relay description script)
task_of_command (command.RelayServe description listen events) = task.RelayServe description listen events
task_of_command (command.Keep description script store) = task.Keep description script store
task_of_command (command.Record names change cycle count store client) =
    task.Record (record { names = names; change = change; cycle = cycle; count = count; store = store; client = client })

-- the task that the words ask for, if they are a command
abbrev pub asked_task : List (List ℕ) → Option Task
asked_task words = option_map task_of_command (command_of words)
