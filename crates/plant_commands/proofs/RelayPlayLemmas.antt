-- What a relay has after a script's play is what the script's play prints.
use Rattle.std.proofs.Common.{◌≡◌, ℕ, List, [], ◌++◌, refl, ap, ◌∙◌}
use Rattle.ads_outside.specs.declared.moves.Move.{Move}
use Rattle.spec_plant.specs.Description.{Description}
use Rattle.spec_machine.specs.LogText.{log_text_of}
use Rattle.spec_machine.specs.Moves.{state_after}
use Rattle.spec_machine.specs.ScriptLine.{ScriptLine}
use Rattle.spec_relay.specs.RelayState.{RelayState, relay_start}
use Rattle.spec_relay.specs.RelayMoves.{relay_after_event}
use Rattle.spec_relay.specs.RelaySummary.{relay_text}
use Rattle.ads_served.specs.Standing.{standing_after_all}
use Rattle.replay_script.specs.Playing.{IsUnused, IsPlay}
use Rattle.replay_script.proofs.StandingPlayed.{state_played}
use Rattle.ams_relay.specs.declared.router.Relay.{Relay}
use Rattle.ams_relay.specs.Relays.{RelayStanding, StandsAt, nothing_noted, standing_at_start}
use Rattle.run_tasks.specs.Service.{relay_counts}

start_unused : (d : Description) → IsUnused (standing_at_start (relay_start d))
start_unused d = record { none = refl; free = refl }

-- what the relay's log and counts come to
pub relay_played : (relay new : Relay) (d : Description) (lines : List ScriptLine) (log : List Move) (text : List ℕ)
    → StandsAt relay (standing_at_start (relay_start d))
    → ((x : RelayStanding) → StandsAt relay x → IsUnused x → IsPlay relay_after_event nothing_noted (StandsAt new) x lines log)
    → ((x : RelayStanding) → StandsAt new x → text ≡ log_text_of [] log ++ relay_counts x.running.state)
    → text ≡ relay_text (relay_start d) lines
relay_played relay new d lines log text stands play told =
    let x = standing_at_start (relay_start d) in
    let played = play x stands (start_unused d) in
    let state : (standing_after_all relay_after_event nothing_noted x log).running.state ≡ state_after relay_after_event (relay_start d) log =
    state_played relay_after_event nothing_noted x log in
    told (standing_after_all relay_after_event nothing_noted x log) played.stands
    ∙ (ap (λ (s : RelayState). log_text_of [] log ++ relay_counts s) state
    ∙ ap (λ (l : List Move). log_text_of [] l ++ relay_counts (state_after relay_after_event (relay_start d) l)) played.is)
