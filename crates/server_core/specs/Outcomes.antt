-- What an event comes to, as the code tells it.
use Rattle.std.specs.Prelude.{◌≡◌, ◌++◌, List}
use Rattle.signals.specs.Wave.{Wave}
use Rattle.ads_outside.specs.declared.event.Event.{Event}
use Rattle.spec_machine.specs.Device.{DescriptionFault, BreaksRule, NoDocument}
use Rattle.spec_machine.specs.Outcomes.{EventOutcome, outcome_of_event}
use Rattle.spec_machine.specs.Outcomes as machine
use Rattle.spec_machine.specs.RunText.{notes_of_event}
use Rattle.symbol_file.specs.declared.fault.DescFault.{DescFault}
use Rattle.symbol_file.specs.declared.fault.DescFault.TheVariants.{Syntax, Rule}
use Rattle.server_core.specs.declared.outcome.Outcome.{Outcome}
use Rattle.server_core.specs.declared.outcome.Outcome.TheVariants.{Done, ReloadOk, ReloadRefused}
use Rattle.server_core.specs.Served.{served, ServedState}
use Rattle.server_core.specs.CoreState.{CoreState, OpensNew, after_event}
use Rattle.server_core.specs.ServerView.{ServerView}
use Rattle.server_core.specs.Serves.{ServesEach, ServesSome, FollowsEach}

abbrev pub fault_of : DescFault → DescriptionFault
fault_of Syntax = NoDocument
fault_of (Rule number item) = BreaksRule number item

abbrev pub outcome_of : Outcome → EventOutcome
outcome_of Done = machine.Done
outcome_of (ReloadOk version) = machine.ReloadOk version
outcome_of (ReloadRefused fault) = machine.ReloadRefused (fault_of fault)

-- an event comes to this in a state
abbrev pub ComesTo : ServedState → Event → Outcome → Type 0
ComesTo s e outcome = outcome_of outcome ≡ outcome_of_event served s e

-- an event was taken, and came to this
pub record TakesEvent (old new : ServerView) (waves new_waves : List Wave) (e : Event) (outcome : Outcome) : Type 0 where
  pub follows : (x : CoreState) → ServesEach old waves x → OpensNew x e → FollowsEach old new new_waves x (after_event x e)
  pub told : (x : CoreState) → ServesEach old waves x → outcome_of outcome ≡ outcome_of_event served x.state e
  pub noted : (x : CoreState) → ServesEach old waves x → new.notes ≡ old.notes ++ notes_of_event served x.state e
  pub some : ServesSome new new_waves
