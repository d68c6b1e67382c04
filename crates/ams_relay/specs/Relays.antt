-- A relay stands for a running machine.
use Rattle.std.specs.Prelude.{◌≡◌, ℕ, List, [], ◌++◌, true, false, Option, Some}
use Rattle.ads_outside.specs.declared.end.End.{End}
use Rattle.ads_outside.specs.declared.event.Event.{Event}
use Rattle.ads_outside.specs.declared.moves.Move.{Move}
use Rattle.ads_outside.specs.declared.moves.Move.TheVariants as move
use Rattle.spec_plant.specs.Description.{Description}
use Rattle.spec_store.specs.BodyText.{body_text}
use Rattle.spec_machine.specs.Running.{Running, running_after}
use Rattle.ads_served.specs.Standing.{Standing, Noting}
use Rattle.spec_relay.specs.RelayState.{RelayWorld, Owned, RelayState}
use Rattle.spec_relay.specs.RelayMoves.{relay_after_event}
use Rattle.spec_relay.specs.RelayPromises.{RelayKeepsPromisesAt}
use Rattle.connections.specs.Carries.{IsStreamOf}
use Rattle.connections.specs.Outlets.{offer_among, run_among, offers_among}
use Rattle.ams_relay.specs.declared.router.Relay.{Relay}
use Rattle.ams_relay.specs.Holds.{AreBeside, Holds}

abbrev pub RelayStanding : Type 0
RelayStanding = Standing RelayWorld Owned

abbrev pub RelayRunning : Type 0
RelayRunning = Running RelayWorld Owned

abbrev pub running_after_event : RelayRunning → Event → RelayRunning
running_after_event x e = running_after relay_after_event x (move.Event e)

-- a relay stands for a state with these connections blocked: the router does, and each stream does for what came of its connection
pub record StandsFor (relay : Relay) (blocked : List ℕ) (s : RelayState) : Type 0 where
  pub holds : Holds relay.router blocked s
  pub streams : AreBeside IsStreamOf relay.router.outlets relay.streams.items s.connections

abbrev pub StandsRunning : Relay → RelayRunning → Type 0
StandsRunning relay x = StandsFor relay x.blocked x.state

-- a machine of which no connection is blocked, and nothing was noted
abbrev pub standing_at_start : RelayState → RelayStanding
standing_at_start s = record { running = record { state = s; blocked = [] }; notes = [] }

-- a relay notes nothing
abbrev pub nothing_noted : Noting RelayWorld Owned
nothing_noted s e = []

-- nothing of a relay is kept: the body text without entries
abbrev pub nothing_kept : RelayWorld → List ℕ
nothing_kept w = body_text []

-- nothing is told of an event
abbrev pub ComesToNothing : RelayState → Event → Unit {0} → Type 0
ComesToNothing s e came = Unit {0}

-- a relay that has not failed stands for a running machine, and its counts are the state's
pub record StandsAt (relay : Relay) (x : RelayStanding) : Type 0 where
  pub working : relay.failed ≡ false
  pub holds : Holds relay.router x.running.blocked x.running.state
  pub streams : AreBeside IsStreamOf relay.router.outlets relay.streams.items x.running.state.connections
  pub notes : x.notes ≡ []

-- after want of memory
abbrev pub HasFailed : Relay → Type 0
HasFailed relay = relay.failed ≡ true

-- what the relay offers to a connection
abbrev pub offer_in : Relay → ℕ → Option (List ℕ)
offer_in relay c = offer_among relay.router.outlets c

-- the frames that the relay lends of a connection in one run
abbrev pub run_in : Relay → ℕ → Option (List (List ℕ))
run_in relay c = run_among relay.router.outlets c

-- how many offers are left to a connection at most
abbrev pub offers_in : Relay → ℕ → ℕ
offers_in relay c = offers_among relay.router.outlets c

-- behind the log of a wire there are further moves, which keep the promises of a relay over this description
pub record LogsPromises (ended : End) (d : Description) (old : List Move) (new : Option (List Move)) : Type 0 where
  pub moves : List Move
  pub told : new ≡ Some (old ++ moves)
  pub promises : RelayKeepsPromisesAt ended d moves
