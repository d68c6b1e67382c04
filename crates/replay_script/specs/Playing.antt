-- The play of a script on what is served.
use Rattle.std.specs.Prelude.{◌≡◌, List, []}
use Rattle.ads_outside.specs.declared.moves.Move.{Move}
use Rattle.spec_machine.specs.Moves.{EventStep}
use Rattle.spec_machine.specs.Play.{play_of}
use Rattle.spec_machine.specs.ScriptLine.{ScriptLine}
use Rattle.ads_served.specs.Standing.{Standing, Noting, standing_after_all}

-- no connection was ever opened
pub record IsUnused {W C : Type 0} (x : Standing W C) : Type 0 where
  pub none : x.running.state.connections ≡ []
  pub free : x.running.blocked ≡ []

-- the log is the script's play, and what is served stands for what x is after it
pub record IsPlay {W C : Type 0} (step : EventStep W C) (noted : Noting W C)
    (serves : Standing W C → Type 0) (x : Standing W C) (lines : List ScriptLine) (log : List Move)
    : Type 0 where
  pub is : log ≡ play_of step x.running.state lines
  pub stands : serves (standing_after_all step noted x log)
