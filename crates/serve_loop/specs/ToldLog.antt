-- What the log of a wire tells of a run, where it is told.
use Rattle.std.specs.Prelude.{◌≡◌, List, [], ◌++◌, Option, Some, None}
use Rattle.ads_outside.specs.declared.moves.Move.{Move}
use Rattle.spec_machine.specs.Delivery.{AreOffers}
use Rattle.spec_machine.specs.MachineState.{MachineState}
use Rattle.spec_machine.specs.Moves.{EventStep}
use Rattle.spec_machine.specs.Turns.{KeepsTurns}
use Rattle.ads_served.specs.Standing.{Standing, Noting, standing_after_all}

-- this of what is told, where it is
abbrev pub WhereTold : {T : Type 0} → Option T → (T → Type 0) → Type 0
WhereTold None P = Unit {0}
WhereTold (Some told) P = P told

-- behind the log there are further moves, and each offer among them is the whole rest of a frame
pub record LogsOffers {W C : Type 0} (step : EventStep W C) (s : MachineState W C) (old : List Move)
    (new : Option (List Move)) : Type 0 where
  pub moves : List Move
  pub told : new ≡ Some (old ++ moves)
  pub offers : AreOffers step s moves

-- behind the log there are further moves that keep the turns, and what is served stands for x after them
pub record LogsTurns {W C : Type 0} (step : EventStep W C) (noted : Noting W C)
    (serves : Standing W C → Type 0) (x : Standing W C) (old : List Move) (new : Option (List Move))
    : Type 0 where
  pub moves : List Move
  pub told : new ≡ Some (old ++ moves)
  pub stands : serves (standing_after_all step noted x moves)
  -- where nobody was blocked
  pub keeps : x.running.blocked ≡ [] → KeepsTurns step x.running.state moves
