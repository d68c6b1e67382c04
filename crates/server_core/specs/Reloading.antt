-- A reload, in parts. No public clause cites this file.
use Rattle.std.specs.Prelude.{◌≡◌, ℕ, ◌+◌, List, [], ◌∷◌, ◌++◌, map}
use Rattle.signals.specs.Wave.{Wave}
use Rattle.ads_outside.specs.declared.reload_note.ReloadNote.{ReloadNote}
use Rattle.ads_outside.specs.declared.reload_note.ReloadNote.TheVariants as note
use Rattle.spec_plant.specs.Description.{Description}
use Rattle.spec_machine.specs.RunText.{fault_number}
use Rattle.spec_machine.specs.Summary.{count_of}
use Rattle.spec_machine.specs.Reloads.{world_after_reload, client_reloaded}
use Rattle.symbol_file.specs.declared.fault.DescFault.{DescFault}
use Rattle.server_core.specs.declared.outcome.Outcome.{Outcome}
use Rattle.server_core.specs.declared.outcome.Outcome.TheVariants.{ReloadOk, ReloadRefused}
use Rattle.server_core.specs.declared.server.Server.{Server}
use Rattle.server_core.specs.Served.{ServedState}
use Rattle.server_core.specs.Columns.{skipped}
use Rattle.server_core.specs.CoreState.{CoreState}
use Rattle.server_core.specs.Asked.{EachAsked}
use Rattle.server_core.specs.Delivering.{after_given}
use Rattle.server_core.specs.HoldsWorld.{HoldsState}
use Rattle.server_core.specs.Outcomes.{fault_of}
use Rattle.server_core.specs.ServerView.{view_of}
use Rattle.server_core.specs.Serves.{ServesEach, FollowsEach}

abbrev pub fault_note : DescFault → ReloadNote
fault_note fault = note.Refused (fault_number (fault_of fault))

-- a refused reload is counted and noted, and changes nothing else
pub record Refuses (old new : Server) (fault : DescFault) (outcome : Outcome) : Type 0 where
  pub device : new.device ≡ old.device
  pub clients : new.clients ≡ old.clients
  pub summary : new.summary ≡ (let s = old.summary in record s { refused = count_of (s.refused + 1) })
  pub notes : new.notes ≡ old.notes ++ fault_note fault ∷ []
  pub outcome_is : outcome ≡ ReloadRefused fault

-- the state after an accepted reload
abbrev pub reloaded : Description → CoreState → ServedState
reloaded d x =
    let s = x.state in
    let world = world_after_reload s.world d in
    record s {
      world = world;
      accepted = s.accepted + 1;
      connections = map (after_given (client_reloaded s.moment s.world world)) s.connections;
    }

-- the device of a description has taken the place of another, and each session that is not closing was told
pub record Exchanges (old new : Server) (d : Description) (version : ℕ) : Type 0 where
  pub device : (waves : List Wave) (x : CoreState) → ServesEach (view_of old) waves x → HoldsState new.device waves (reloaded d x)
  pub asked : (waves : List Wave) (x : CoreState) → ServesEach (view_of old) waves x
      → EachAsked x.state.world.plant (reloaded d x).world.plant (client_reloaded x.state.moment x.state.world (reloaded d x).world)
      (skipped old.clients.outlets old.clients.sessions.items) new.clients.sessions.items
  pub version_is : (waves : List Wave) (x : CoreState) → ServesEach (view_of old) waves x → version ≡ (reloaded d x).world.version
  pub outlets : new.clients.outlets ≡ old.clients.outlets
  pub streams : new.clients.streams.items ≡ old.clients.streams.items
  pub summary : new.summary ≡ old.summary
  pub notes : new.notes ≡ old.notes

-- an accepted reload of this description
pub record Accepts (old new : Server) (d : Description) (outcome : Outcome) : Type 0 where
  pub version : ℕ
  pub follows : (waves : List Wave) (x : CoreState) → ServesEach (view_of old) waves x
      → FollowsEach (view_of old) (view_of new) waves x (record { state = reloaded d x; blocked = x.blocked })
  pub version_is : (waves : List Wave) (x : CoreState) → ServesEach (view_of old) waves x → version ≡ (world_after_reload x.state.world d).version
  pub notes : new.notes ≡ old.notes ++ note.Ok version ∷ []
  pub outcome_is : outcome ≡ ReloadOk version
