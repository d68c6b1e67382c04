-- What a core has after a script's play is what the script's play prints.
use Rattle.std.proofs.Common.{◌≡◌, List, [], ◌++◌, refl, ap, ◌∙◌}
use Rattle.signals.specs.Wave.{Wave}
use Rattle.ads_outside.specs.declared.moves.Move.{Move}
use Rattle.ads_outside.specs.declared.reload_note.ReloadNote.{ReloadNote}
use Rattle.spec_plant.specs.Description.{Description}
use Rattle.spec_machine.specs.LogText.{log_text_of}
use Rattle.spec_machine.specs.MachineState.{MachineState}
use Rattle.spec_machine.specs.Moves.{state_after}
use Rattle.spec_machine.specs.Profile.{Profile, strict}
use Rattle.spec_machine.specs.RunText.{notes_of_event, notes_of, text_of_log}
use Rattle.spec_machine.specs.ScriptLine.{ScriptLine}
use Rattle.spec_machine.specs.Summary.{summary_of}
use Rattle.spec_machine.specs.SummaryText.{summary_text_of}
use Rattle.spec_server.specs.Server.{server_start, server_text}
use Rattle.run_tasks.specs.Load.{counts_of_play}
use Rattle.ads_served.specs.Standing.{Standing, standing_after_all}
use Rattle.replay_script.specs.Playing.{IsUnused, IsPlay}
use Rattle.replay_script.proofs.StandingPlayed.{state_played, notes_played}
use Rattle.plant_commands.specs.FileOutcomes.{at_start, at_start_in}
use Rattle.server_core.specs.CoreState.{started, started_in}
use Rattle.server_core.specs.Served.{World, Client, served, served_step}
use Rattle.server_core.specs.Serves.{CoreView, Serves, HasCounts, StandsAt}

pub stands_at_start : (core : CoreView) (profile : Profile) (d : Description) (waves : List Wave) → Serves core (started_in profile d waves)
    → HasCounts core (started_in profile d waves) → core.server.notes ≡ [] → StandsAt core (at_start_in profile d waves)
stands_at_start core profile d waves serves counted notes = record { serves = serves; counted = counted; notes = notes }

start_unused : (d : Description) (waves : List Wave) → IsUnused (at_start d waves)
start_unused d waves = record { none = refl; free = refl }

-- what the core's log and counts come to
pub text_played : (core new : CoreView) (d : Description) (waves : List Wave) (lines : List ScriptLine) (log : List Move) (text : _)
    → Serves core (started d waves) → HasCounts core (started d waves) → core.server.notes ≡ []
    → ((x : Standing World Client) → StandsAt core x → IsUnused x → IsPlay served_step (notes_of_event served) (StandsAt new) x lines log)
    → ((x : Standing World Client) → StandsAt new x → text ≡ log_text_of x.notes log ++ summary_text_of (summary_of x.running.state))
    → text ≡ server_text d waves lines
unfolding served
text_played core new d waves lines log text serves counted none play told =
    let x = at_start d waves in
    let played = play x (stands_at_start core strict d waves serves counted none) (start_unused d waves) in
    let y = standing_after_all served_step (notes_of_event served) x log in
    let notes : y.notes ≡ notes_of served (server_start d waves) log = notes_played served x log in
    let state : y.running.state ≡ state_after served_step (server_start d waves) log = state_played served_step (notes_of_event served) x log in
    told y played.stands
    ∙ (ap (λ (ns : List ReloadNote). log_text_of ns log ++ summary_text_of (summary_of y.running.state)) notes
    ∙ (ap (λ (s : MachineState World Client). log_text_of (notes_of served (server_start d waves) log) log ++ summary_text_of (summary_of s)) state
    ∙ ap (λ l. text_of_log served (server_start d waves) l) played.is))

-- what the core's counts come to
pub counts_played : (core new : CoreView) (d : Description) (waves : List Wave) (lines : List ScriptLine) (log : List Move) (text : _)
    → Serves core (started d waves) → HasCounts core (started d waves) → core.server.notes ≡ []
    → ((x : Standing World Client) → StandsAt core x → IsUnused x → IsPlay served_step (notes_of_event served) (StandsAt new) x lines log)
    → ((x : Standing World Client) → StandsAt new x → text ≡ summary_text_of (summary_of x.running.state))
    → text ≡ counts_of_play d waves lines
unfolding served counts_of_play
counts_played core new d waves lines log text serves counted none play told =
    let x = at_start d waves in
    let played = play x (stands_at_start core strict d waves serves counted none) (start_unused d waves) in
    let y = standing_after_all served_step (notes_of_event served) x log in
    let state : y.running.state ≡ state_after served_step (server_start d waves) log = state_played served_step (notes_of_event served) x log in
    told y played.stands
    ∙ (ap (λ (s : MachineState World Client). summary_text_of (summary_of s)) state
    ∙ ap (λ (l : List Move). summary_text_of (summary_of (state_after served_step (server_start d waves) l))) played.is)
