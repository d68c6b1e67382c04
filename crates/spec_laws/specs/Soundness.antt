-- Readings of descriptions that give accepted ones, which are sound.
use Rattle.std.specs.Prelude.{◌≡◌, ℕ, List, Ok}
use Rattle.spec_plant.specs.Description.{Description}
use Rattle.spec_plant.specs.Accepted.{IsAccepted}
pub use Rattle.spec_plant.specs.Sound.{Each, IsSoundSymbol, IsSoundPort, IsSoundPlant, AcceptedAreSound}
use Rattle.spec_machine.specs.AdsDevice.{DescriptionReading}

-- a reading of descriptions that gives accepted ones alone
abbrev pub ReadsAccepted : DescriptionReading → Type 0
ReadsAccepted reading = (bytes : List ℕ) (signals : ℕ) (d : Description)
    → reading bytes signals ≡ Ok d → IsAccepted d signals
