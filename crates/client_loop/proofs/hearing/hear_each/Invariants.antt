-- So many answers came, and the call goes on.
use Rattle.std.proofs.Common.{◌<◌}
use Rattle.ads_outside.specs.LinkState.{LinkNeverFalls}
use Rattle.spec_client.specs.Conversation.{Conversation, MAX_QUIET}
use Rattle.client_loop.specs.Outlets.{outlets, IsLater}
use Rattle.client_loop.specs.Ready.{IsReady}
use Rattle.client_loop.specs.Hearing.{IsBegun, HearsAll}
use Rattle.client_loop.proofs.hearing.hear_each.Given as goal

abbrev pub invariant-loop-heard : goal.invariant-loop-heard
invariant-loop-heard g l = record {
  hears : (c : Conversation) → IsBegun l.initial.runner c → HearsAll c l.runner l.quiet l._heard (g.L.Link.tells l.initial.link) (g.L.Link.tells l.link)
      (g.L.Link.state l.initial.link) (g.L.Link.state l.link)
      (outlets (g.S.Sink.state l.initial.out) (g.K.Keeper.state l.initial.keeper)) (outlets (g.S.Sink.state l.out) (g.K.Keeper.state l.keeper));
  ready : IsReady l.runner (g.K.Keeper.state l.keeper).rows;
  few : l.quiet < MAX_QUIET;
  linked : LinkNeverFalls (g.L.Link.state l.initial.link) (g.L.Link.state l.link);
  outed : IsLater (outlets (g.S.Sink.state l.initial.out) (g.K.Keeper.state l.initial.keeper)) (outlets (g.S.Sink.state l.out) (g.K.Keeper.state l.keeper));
}
