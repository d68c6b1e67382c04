use Rattle.std.proofs.Common.{◌≡◌, ℕ, List, length}
use Rattle.spec_relay.specs.RelayState.{RelayState}
use Rattle.ams_relay.specs.Peers.{places_of}
use Rattle.ams_relay.specs.Taking.{HoldsWith, TakesOne}
use Rattle.ams_relay.proofs.router.Router.take_fed.Given as goal

-- some frames were taken, and what is left leads to the same end
abbrev pub invariant-loop : goal.invariant-loop
invariant-loop l = record {
  takes : (b : List ℕ) (s : RelayState) → HoldsWith l.from.number l.initial.stream l.initial.self b s → TakesOne l.from.number l.stream l.self b s;
  places : places_of l.self ≡ places_of l.initial.self;
}

abbrev pub decreases-loop : goal.decreases-loop
decreases-loop l = length l.stream.rest
