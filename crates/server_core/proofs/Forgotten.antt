-- A core stands also for the state that has forgotten the connections that are gone.
use Rattle.std.proofs.Common.{List, sym, subst}
use Rattle.signals.specs.Wave.{Wave}
use Rattle.connections.specs.Carries.{EachStream}
use Rattle.connections.proofs.ForgottenLemmas.{forgotten, present-twice}
use Rattle.server_core.specs.CoreState.{CoreState}
use Rattle.server_core.specs.ServerView.{ServerView}
use Rattle.server_core.specs.Serves.{CoreView, EachClient, ServesEach, Serves, without_gone}

pub serves_present : (v : ServerView) (waves : List Wave) (x : CoreState) → ServesEach v waves x → ServesEach v waves (without_gone x)
serves_present v waves x s =
    let ks = x.state.connections in
    record {
      device = record { world = s.device.world; signals = s.device.signals; count = s.device.count; few = s.device.few; moment = s.device.moment };
      outlets = forgotten v.outlets x.blocked ks s.outlets;
      streams = subst (λ qs. EachStream v.streams qs) (sym (present-twice ks)) s.streams;
      clients = subst (λ qs. EachClient x.state.world.plant v.sessions qs) (sym (present-twice ks)) s.clients;
    }

pub forgets : (core : CoreView) (x : CoreState) → Serves core x → Serves core (without_gone x)
forgets core x s = record { working = s.working; server = serves_present core.server core.waves x s.server }
