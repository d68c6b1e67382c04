-- What stands beside the outlets of connections, and how it changes. No public clause cites this file.
use Rattle.std.specs.Prelude.{◌≡◌, ℕ, List, [], ◌∷◌, ◌++◌, Bool, false}
use Rattle.ams_tcp.specs.Held.{Held}
use Rattle.ams_tcp.specs.History.{Represents, nothing_fed}
use Rattle.spec_plant.specs.World.{Plant}
use Rattle.spec_machine.specs.Client.{new_client}
use Rattle.session.specs.StandsFor.{StandsFor}
use Rattle.connections.specs.Outlets.{Outlets, fresh_outlet}
use Rattle.server_core.specs.declared.clients.Clients.{Clients}
use Rattle.server_core.specs.declared.turned.Turned.{Turned}

-- a session that was fed nothing
pub record IsFreshSession (t : Turned) : Type 0 where
  pub client : (plant : Plant) → StandsFor plant new_client t.session

-- a connection is opened behind the others
pub record Opens (n : ℕ) (old new : Clients) : Type 0 where
  pub stream : Held
  pub turned : Turned
  pub nothing : Represents stream nothing_fed
  pub fresh : IsFreshSession turned
  pub outlets : new.outlets ≡ old.outlets ++ (n, fresh_outlet) ∷ []
  pub streams : new.streams.items ≡ old.streams.items ++ stream ∷ []
  pub sessions : new.sessions.items ≡ old.sessions.items ++ turned ∷ []

-- it is left out, or not
abbrev pub with_skip : Bool → Turned → Turned
with_skip skip t = record t { skip = skip }

-- those are left out whose connection is closing
abbrev pub skipped : Outlets → List Turned → List Turned
skipped es [] = []
skipped [] (t ∷ ts) = with_skip false t ∷ skipped [] ts
skipped (e ∷ es) (t ∷ ts) = with_skip (let o = e.1 in o.closing) t ∷ skipped es ts
