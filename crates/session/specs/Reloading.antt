-- What a session needs of a reload: the moves of the symbols that it keeps, and the numbers of the new ports.
use Rattle.std.specs.Prelude.{◌≡◌, ℕ, List}
use Rattle.spec_plant.specs.Sound.{IsSoundPlant}
use Rattle.spec_plant.specs.World.{Plant}
use Rattle.spec_machine.specs.Client.{Client}
use Rattle.spec_machine.specs.NumberedPlaces.{AreKeptSymbols}
use Rattle.spec_machine.specs.WatchedRanges.{numbers_of}
use Rattle.port_device.specs.KeptSymbols.{kept_symbols_of}
use Rattle.symbol_table.specs.declared.kept.KeptPlace.{KeptPlace}
use Rattle.session.specs.SessionState.{SessionState}
use Rattle.session.specs.StandsFor.{StandsFor}

-- exactly the symbols that are kept from one plant to another, and the ports of that
pub record AreMoves (old new : Plant) (moves : List KeptPlace) (ports : List ℕ) : Type 0 where
  pub old_sound : IsSoundPlant old
  pub new_sound : IsSoundPlant new
  pub kept : AreKeptSymbols old new (kept_symbols_of moves)
  pub ports_are : ports ≡ numbers_of new.ports

-- the session stands for some client over the plant before
pub record IsReloadable (moves : List KeptPlace) (ports : List ℕ) (s : SessionState) : Type 0 where
  pub old : Plant
  pub new : Plant
  pub client : Client
  pub moved : AreMoves old new moves ports
  pub stands : StandsFor old client s
