-- What a device may begin with: each accepted description, as it is and with stored bytes. And such a description is as
-- sound as an accepted one.
use Rattle.std.specs.Prelude.{ℕ, List}
use Rattle.spec_plant.specs.Description.{Description}
use Rattle.spec_plant.specs.Accepted.{IsAccepted}
use Rattle.spec_plant.specs.World.{plant_of}
use Rattle.spec_plant.specs.Named.{AreNumberedApart}
use Rattle.spec_plant.specs.Sound.{IsSoundPlant}
use Rattle.spec_store.specs.BodyText.{StoredEntry}
use Rattle.spec_persistent.specs.Stored.{description_with_stored}
use Rattle.spec_persistent.specs.Otherwise.{MayBegin}

-- An accepted description is one.
abbrev pub AcceptedMayBegin : Type 0
AcceptedMayBegin = (d : Description) (signals : ℕ) → IsAccepted d signals → MayBegin d signals

-- So is an accepted one with stored bytes, whatever was stored.
abbrev pub StoredMayBegin : Type 0
StoredMayBegin = (entries : List StoredEntry) (d : Description) (signals : ℕ) → IsAccepted d signals
    → MayBegin (description_with_stored entries d) signals

-- Its plant is sound.
abbrev pub BegunIsSound : Type 0
BegunIsSound = (d : Description) (signals : ℕ) → MayBegin d signals → IsSoundPlant (plant_of d)

-- No two of its ports have one number.
abbrev pub BegunIsNumberedApart : Type 0
BegunIsNumberedApart = (d : Description) (signals : ℕ) → MayBegin d signals → AreNumberedApart (plant_of d).ports
