-- What fits the grammar fits what a call takes.
use Rattle.std.proofs.Common.{◌≡◌, ℕ, List, [], ◌∷◌, Some, sym, subst}
use Rattle.std.specs.List.{All}
use Rattle.std.proofs.lemmas.List.Elements.{All-head, All-tail}
use Rattle.cli_words.specs.declared.command.Command.{Command}
use Rattle.cli_words.specs.declared.command.Command.TheVariants as command
use Rattle.cli_words.specs.Fits.{IsText, FitsCommand}
use Rattle.client_replies.specs.Sound.{AreShort}
use Rattle.run_tasks.specs.declared.task.Task.{Task}
use Rattle.run_tasks.specs.Fits.{FitsTask}
use Rattle.run_tasks.specs.Tasks.{task_of_command}

texts_fit : (names : List (List ℕ)) → All IsText names → AreShort names
texts_fit [] h = tt
texts_fit (name ∷ names) h = (All-head IsText name names h, texts_fit names (All-tail IsText name names h))

command_fits : (c : Command) → FitsCommand c → FitsTask (Some (task_of_command c))
unfolding task_of_command
command_fits (command.Selftest script) h = tt
command_fits (command.Check description) h = tt
command_fits (command.Replay description script) h = tt
command_fits (command.Serve description listen events) h = tt
command_fits (command.Load n) h = h
command_fits (command.Info client) h = (tt, h.0.1)
command_fits (command.State client) h = (tt, h.0.1)
command_fits (command.List client) h = (tt, h.0.1)
command_fits (command.Control ads device client) (is_ads, is_device, is_client) = ((is_ads, is_device), is_client.0.1)
command_fits (command.Get name client) (is_name, is_client) = (is_name, is_client.0.1)
command_fits (command.Set name value client) (is_name, is_value, is_client) = ((is_name, is_value), is_client.0.1)
command_fits (command.Watch name change cycle count client) (is_name, samples, is_client) =
    ((is_name, samples.0, samples.1.0, samples.1.1), is_client.0.1)
command_fits (command.Migrate description) h = tt
command_fits (command.Show name client) (is_name, is_client) = (is_name, is_client.0.1)
command_fits (command.Relay description script) h = tt
command_fits (command.RelayServe description listen events) h = tt
command_fits (command.Keep description script store) h = tt
command_fits (command.Record names change cycle count store client) (are_names, samples, is_store, is_client) = record {
  client = is_client.0.1;
  cycle = samples.0;
  some = samples.1.0;
  most = samples.1.1;
  named = are_names.few.0;
  few = are_names.few.1;
  short = texts_fit names are_names.are_texts;
}

-- the task of a command that fits
pub fits_of : (c : Command) (t : Task) → t ≡ task_of_command c → FitsCommand c → FitsTask (Some t)
fits_of c t is h = subst (λ t. FitsTask (Some t)) (sym is) (command_fits c h)
