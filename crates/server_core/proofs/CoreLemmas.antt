-- A core, by what all that it keeps stands for.
use Rattle.std.proofs.Common.{◌≡◌, ℕ, ◌≤◌, List, [], length, take, refl, sym, ◌∙◌, subst}
use Rattle.std.specs.Prelude.{Option, Some, None, IsSomeAnd}
use Rattle.std.proofs.lemmas.List.{length-take-le}
use Rattle.signals.specs.Wave.{Wave}
use Rattle.ads_outside.specs.declared.event.Event.TheVariants as event
use Rattle.ads_outside.specs.declared.moves.Move.TheVariants as move
use Rattle.spec_plant.specs.Description.{Description}
use Rattle.spec_machine.specs.Profile.{Profile}
use Rattle.spec_machine.specs.Connection.{connection_of}
use Rattle.spec_server.specs.Server.{start_in}
use Rattle.ams_tcp.specs.Held.{Held}
use Rattle.connections.specs.Carries.{Carries, EachStream}
use Rattle.connections.specs.Outlets.{Outlets, offer_among}
use Rattle.session.specs.SessionState.{SessionState}
use Rattle.server_core.specs.CoreState.{CoreState, started_in, after_event, after_move}
use Rattle.server_core.specs.HoldsWorld.{HoldsState}
use Rattle.server_core.specs.Served.{Client}
use Rattle.server_core.specs.ServerView.{ServerView}
use Rattle.server_core.specs.Serves.{CoreView, EachClient, ServesEach, ServesSome, Serves, FollowsEach, Follows}

-- what is kept follows, and so does the core
pub follows_core : (v w : CoreView) (x y : CoreState) → Serves v x → w.failed ≡ v.failed
    → w.waves ≡ v.waves → FollowsEach v.server w.server v.waves x y → Follows v w x y
follows_core v w x y s failed waves follows = record {
  serves = record { working = failed ∙ s.working; server = subst (λ (ws : List Wave). ServesEach w.server ws y) (sym waves) follows.serves };
  counted = follows.counted;
}

-- there is a state after bytes were taken
pub took_some : (v w : ServerView) (waves : List Wave) (n m : ℕ) → ServesSome v waves → IsSomeAnd (offer_among v.outlets n) (λ left. m ≤ length left)
    → ((ws : List Wave) (x : CoreState) (left bytes : List ℕ) → ServesEach v ws x → offer_among v.outlets n ≡ Some left → length bytes ≡ m
    → FollowsEach v w ws x (after_move x (move.Took n (length left) bytes))) → ServesSome w waves
took_some v w waves n m s fits follows = by (offer_among v.outlets n) refl fits
  where
    by : (o : Option (List ℕ)) → offer_among v.outlets n ≡ o → IsSomeAnd o (λ left. m ≤ length left) → ServesSome w waves
    by None e h = absurd h
    by (Some left) e h = record {
      state = after_move s.state (move.Took n (length left) (take m left));
      serves = (follows waves s.state left (take m left) s.serves e (length-take-le m left h)).serves;
    }

pub ended_some : (v w : ServerView) (waves : List Wave) (n : ℕ) → ServesSome v waves
    → ((ws : List Wave) (x : CoreState) → ServesEach v ws x → FollowsEach v w ws x (after_event x (event.Closed n))) → ServesSome w waves
ended_some v w waves n s follows = record { state = after_event s.state (event.Closed n); serves = (follows waves s.state s.serves).serves }

-- nothing was opened
pub started_serves : (profile : Profile) (v : ServerView) (waves : List Wave) (d : Description) → HoldsState v.device waves (start_in profile d waves)
    → v.outlets ≡ [] → v.streams ≡ [] → v.sessions ≡ [] → ServesEach v waves (started_in profile d waves)
unfolding connection_of
started_serves profile v waves d device outlets streams sessions =
    let x = started_in profile d waves in
    record {
      device = device;
      outlets = subst (λ (es : Outlets). Carries es x.blocked x.state.connections) (sym outlets)
          (record { each = tt; apart = tt; marked = tt; known = λ n e. refl });
      streams = subst (λ (hs : List Held). EachStream {C = Client} hs []) (sym streams) tt;
      clients = subst (λ (ss : List SessionState). EachClient x.state.world.plant ss []) (sym sessions) tt;
    }
