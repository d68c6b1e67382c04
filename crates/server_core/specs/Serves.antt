-- A core stands for a state of the machine.
use Rattle.std.specs.Prelude.{◌≡◌, ℕ, List, ◌≤◌, length, filter, is_some, true, false, Bool, Option, IsSomeAnd}
use Rattle.signals.specs.Wave.{Wave}
use Rattle.spec_plant.specs.World.{Plant}
use Rattle.connections.specs.Carries.{Carries, EachBeside, EachStream}
use Rattle.connections.specs.Outlets.{offer_among, run_among, offers_among}
use Rattle.connections.specs.Present.{present}
use Rattle.spec_machine.specs.Connection.{connection_of}
use Rattle.spec_machine.specs.Summary.{summary_of}
use Rattle.ads_served.specs.Standing.{Standing}
use Rattle.session.specs.SessionState.{SessionState}
use Rattle.server_core.specs.ServerView.{ServerView}
use Rattle.server_core.specs.Served.{World, Client, ServedConnection}
use Rattle.server_core.specs.Counts.{counts_in}
use Rattle.server_core.specs.HoldsWorld.{HoldsState}
use Rattle.server_core.specs.CoreState.{CoreState}
use Rattle.server_core.specs.Stands.{IsClientOf}

-- what a core is: what it serves, the waves of its signals, and whether memory was wanting
pub record CoreView : Type 0 where
  pub server : ServerView
  pub waves : List Wave
  pub failed : Bool

-- each session stands for the client of the connection in its place
abbrev pub EachClient : Plant → List SessionState → List ServedConnection → Type 0
EachClient plant sessions ks = EachBeside (IsClientOf plant) sessions ks

-- all that is kept stands for a state: the outlets, and beside them the streams and the sessions, for its connections that are there
pub record ServesEach (server : ServerView) (waves : List Wave) (x : CoreState) : Type 0 where
  pub device : HoldsState server.device waves x.state
  pub outlets : Carries server.outlets x.blocked x.state.connections
  pub streams : EachStream server.streams (present x.state.connections)
  pub clients : EachClient x.state.world.plant server.sessions (present x.state.connections)

-- and there is such a state
pub record ServesSome (server : ServerView) (waves : List Wave) : Type 0 where
  pub state : CoreState
  pub serves : ServesEach server waves state

-- for some signals
pub record IsServing (server : ServerView) : Type 0 where
  pub waves : List Wave
  pub some : ServesSome server waves

-- a core that has not failed stands for a state
pub record Serves (core : CoreView) (x : CoreState) : Type 0 where
  pub working : core.failed ≡ false
  pub server : ServesEach core.server core.waves x

abbrev pub HasCounts : CoreView → CoreState → Type 0
HasCounts core x = counts_in core.server.summary ≡ summary_of x.state

-- what is kept and the counts follow from a state to another
pub record FollowsEach (old new : ServerView) (waves : List Wave) (before after : CoreState) : Type 0 where
  pub serves : ServesEach new waves after
  pub counted : counts_in old.summary ≡ summary_of before.state → counts_in new.summary ≡ summary_of after.state

-- the core follows from a state to another
pub record Follows (old new : CoreView) (before after : CoreState) : Type 0 where
  pub serves : Serves new after
  pub counted : HasCounts old before → HasCounts new after

-- a core stands for a running machine and its notes, and its counts are the state's
pub record StandsAt (core : CoreView) (x : Standing World Client) : Type 0 where
  pub serves : Serves core x.running
  pub counted : HasCounts core x.running
  pub notes : core.server.notes ≡ x.notes

-- after want of memory
abbrev pub HasFailed : CoreView → Type 0
HasFailed core = core.failed ≡ true

-- what the core offers to a connection
abbrev pub offer_in : CoreView → ℕ → Option (List ℕ)
offer_in core c = offer_among core.server.outlets c

-- the frames that the core lends of a connection in one run
abbrev pub run_in : CoreView → ℕ → Option (List (List ℕ))
run_in core c = run_among core.server.outlets c

-- how many offers are left to a connection at most
abbrev pub offers_in : CoreView → ℕ → ℕ
offers_in core c = offers_among core.server.outlets c

-- at most as many bytes as are offered
abbrev pub FitsOffer : ℕ → ℕ → CoreView → Type 0
FitsOffer n c core = IsSomeAnd (offer_in core c) (λ left. n ≤ length left)

-- a state that has forgotten the connections that are gone
abbrev pub without_gone : CoreState → CoreState
without_gone x = record {
  state = record x.state { connections = present x.state.connections };
  blocked = filter (λ b. is_some (connection_of b (present x.state.connections))) x.blocked;
}
