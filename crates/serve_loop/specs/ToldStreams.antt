-- What the streams of a wire tell of a run, where they are told: the bytes that each connection took, and not in which pieces.
use Rattle.std.specs.Prelude.{◌≡◌, ◌≢◌, List, [], ◌++◌, Option, Some}
use Rattle.ads_outside.specs.declared.end.End.{End}
use Rattle.ads_outside.specs.declared.end.End.TheVariants as end
use Rattle.ads_outside.specs.declared.moves.Move.{Move}
use Rattle.ads_outside.specs.Streams.{Streams}
use Rattle.spec_machine.specs.Delivery.{AreOffers}
use Rattle.spec_machine.specs.Moves.{EventStep}
use Rattle.spec_machine.specs.Offers.{taken_of}
use Rattle.spec_machine.specs.Turns.{KeepsTurns}
use Rattle.ads_served.specs.Standing.{Standing, Noting, standing_after_all}

-- each connection took what it took in these moves
abbrev pub grown_by : List Move → Streams → Streams
grown_by moves streams = λ c. streams c ++ taken_of c moves

-- The streams grew by what each connection took in some moves that are offers of whole rests of frames. Where memory did not end
-- the run, what is served stands for x after them, and they keep the turns if nobody was blocked.
pub record StreamsOfTurns {W C : Type 0} (ended : End) (step : EventStep W C) (noted : Noting W C) (serves : Standing W C → Type 0)
    (x : Standing W C) (old : Streams) (new : Option Streams) : Type 0 where
  pub moves : List Move
  pub told : new ≡ Some (grown_by moves old)
  pub offers : AreOffers step x.running.state moves
  pub stands : ended ≢ end.Memory → serves (standing_after_all step noted x moves)
  pub keeps : ended ≢ end.Memory → x.running.blocked ≡ [] → KeepsTurns step x.running.state moves
