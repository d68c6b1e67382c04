-- Some turns were taken.
use Rattle.std.proofs.Common.{◌≡◌, ℕ}
use Rattle.ads_outside.specs.LinkState.{LinkNeverFalls}
use Rattle.spec_client.specs.Runner.{Runner}
use Rattle.client_calls.specs.Kept.{turns_left}
use Rattle.client_calls.specs.Represents.{StandsFor}
use Rattle.client_loop.specs.Outlets.{outlets, IsLater}
use Rattle.client_loop.specs.Ready.{IsReady}
use Rattle.client_loop.specs.Turning.{TakesTurns}
use Rattle.client_loop.proofs.turning.give_turns.Given as goal

abbrev pub invariant-turns : goal.invariant-turns
invariant-turns g l = record {
  turns : (r : Runner) (n : ℕ) → StandsFor l.initial.runner r → TakesTurns l.now l.runner (g.L.Link.tells l.initial.link) (g.L.Link.tells l.link)
      (outlets (g.S.Sink.state l.initial.out) (g.K.Keeper.state l.initial.keeper)) (outlets (g.S.Sink.state l.out) (g.K.Keeper.state l.keeper)) n r;
  ready : IsReady l.runner (g.K.Keeper.state l.keeper).rows;
  same : (g.L.Link.state l.link).history ≡ (g.L.Link.state l.initial.link).history;
  linked : LinkNeverFalls (g.L.Link.state l.initial.link) (g.L.Link.state l.link);
  outed : IsLater (outlets (g.S.Sink.state l.initial.out) (g.K.Keeper.state l.initial.keeper)) (outlets (g.S.Sink.state l.out) (g.K.Keeper.state l.keeper));
}

abbrev pub decreases-turns : goal.decreases-turns
decreases-turns g l = turns_left l.runner
