-- Which client of the machine a session stands for: its handles and its notifications are the client's, told by
-- numbers and places in place of names.
use Rattle.std.specs.Prelude.{◌≡◌, List}
use Rattle.spec_plant.specs.World.{Plant, PlantPort}
use Rattle.spec_machine.specs.Handles.{Handle}
use Rattle.spec_machine.specs.HandleLaws.{Test, AgreeingHandles, AgreeingWatches, handles_of}
use Rattle.spec_machine.specs.NumberedPlaces.{is_same_place}
use Rattle.spec_machine.specs.WatchedRanges.{is_same_watched}
use Rattle.spec_machine.specs.Client as client
use Rattle.symbol_table.specs.declared.place.Place.{Place}
use Rattle.sym_handles.specs.History.{History, Represents}
use Rattle.sym_handles.specs.Kept.{Kept}
use Rattle.port_device.specs.Answers.{numbered}
use Rattle.session.specs.SessionState.{SessionState}

-- whether a place by name at a port is this place of the code
abbrev pub is_place_of : List PlantPort → Test client.Place Place
is_place_of ports port named place = is_same_place ports port named (numbered place)

-- what is kept of handles stands for these, through the grants, releases and reloads of one history
pub record KeptFor (ports : List PlantPort) (handles : List (Handle client.Place)) (kept : Kept) : Type 0 where
  pub history : History
  pub represented : Represents kept history
  pub agree : AgreeingHandles (is_place_of ports) handles (handles_of history)

-- Over a plant, since neither a byte nor a signal has a part in it.
pub record StandsFor (plant : Plant) (c : client.Client) (s : SessionState) : Type 0 where
  pub handles : KeptFor plant.ports c.handles s.handles
  pub additions : s.watches.additions ≡ c.additions
  pub watches : AgreeingWatches (is_same_watched plant.ports) c.watches s.watches.watches
