-- What a relay promises of a log, and of the play of each script.
use Rattle.std.specs.Prelude.{◌≡◌, ◌≤◌, ℕ, List, Bool, false, count_by}
use Rattle.ads_outside.specs.declared.end.End.{End}
use Rattle.ads_outside.specs.declared.end.End.TheVariants as end
use Rattle.ads_outside.specs.declared.moves.Move.{Move}
use Rattle.spec_plant.specs.Description.{Description}
use Rattle.spec_machine.specs.Connection.{connection_of}
use Rattle.spec_machine.specs.Delivery.{IsPrefix, AreOffers, is_cut_off, is_short}
use Rattle.spec_machine.specs.MachineState.{output_of}
use Rattle.spec_machine.specs.Offers.{taken_of}
use Rattle.spec_machine.specs.ScriptLine.{ScriptLine}
use Rattle.spec_machine.specs.Turns.{KeepsTurns}
use Rattle.spec_relay.specs.RelayState.{Request, relay_start}
use Rattle.spec_relay.specs.RelayMoves.{relay_after_event}
use Rattle.spec_relay.specs.RelaySummary.{relay_play}
use Rattle.spec_relay.specs.PassedOn.{all_frames_to, packets_from, all_asked, all_answered}
use Rattle.spec_relay.specs.RelayLaws.{relay_state_after, relay_passages, frames_given_to, packets_taken, AreMarked}

-- frames pass unchanged, those of a sender in its order and each once; and a response reaches the asker of its request alone
pub record PassesRightly (d : Description) (log : List Move) : Type 0 where
  pub given : (c : ℕ) → frames_given_to c (relay_state_after d log) ≡ all_frames_to c (relay_passages d log)
  pub taken : (c : ℕ) → packets_from c (relay_passages d log) ≡ packets_taken (connection_of c (relay_state_after d log).connections)
  pub once : (test : Request → Bool) → count_by test (all_answered (relay_passages d log)) ≤ count_by test (all_asked (relay_passages d log))
  pub marked : AreMarked (relay_passages d log)

-- what a connection took begins what it was given
pub record RelayKeepsPromisesSoFar (d : Description) (log : List Move) : Type 0 where
  pub passes : PassesRightly d log
  pub begins : (c : ℕ) → IsPrefix (taken_of c log) (output_of c (relay_state_after d log))

-- and is all of it, unless its last offer was short, or it was closed by its peer or lost
pub record RelayKeepsPromises (d : Description) (log : List Move) : Type 0 where
  -- each event is followed by the offers to each connection, and one that is closing is then shut
  pub turns : KeepsTurns relay_after_event (relay_start d) log
  pub passes : PassesRightly d log
  pub begins : (c : ℕ) → IsPrefix (taken_of c log) (output_of c (relay_state_after d log))
  pub all : (c : ℕ) → is_short c log ≡ false → is_cut_off c log ≡ false → taken_of c log ≡ output_of c (relay_state_after d log)

-- what a log promises that ended so
abbrev pub RelayKeepsPromisesAt : End → Description → List Move → Type 0
RelayKeepsPromisesAt end.Done d log = RelayKeepsPromises d log
RelayKeepsPromisesAt end.Budget d log = RelayKeepsPromises d log
RelayKeepsPromisesAt end.LinkFault d log = RelayKeepsPromises d log
RelayKeepsPromisesAt end.Memory d log = RelayKeepsPromisesSoFar d log

-- A log that keeps the turns keeps the promises; one whose offers are whole, so far.
abbrev pub TurnsKeepPromises : Type 0
TurnsKeepPromises = (d : Description) (log : List Move) → KeepsTurns relay_after_event (relay_start d) log → RelayKeepsPromises d log

abbrev pub OffersKeepPromises : Type 0
OffersKeepPromises = (d : Description) (log : List Move) → AreOffers relay_after_event (relay_start d) log → RelayKeepsPromisesSoFar d log

-- the promises of a script's play
abbrev pub RelayPlayKeepsPromises : Description → List ScriptLine → Type 0
RelayPlayKeepsPromises d lines = RelayKeepsPromises d (relay_play (relay_start d) lines)
