-- Notifications stand by rising handle, and so do the samples of a frame.
use Rattle.std.specs.Prelude.{◌≡◌, ℕ, ◌<◌, ◌≤◌, List, [], ◌∷◌, Some}
use Rattle.signals.specs.Wave.{Wave}
use Rattle.spec_plant.specs.Description.{Description}
use Rattle.spec_plant.specs.World.{Block}
use Rattle.spec_formats.specs.Notification.{Sample}
use Rattle.ads_outside.specs.declared.moves.Move.{Move}
use Rattle.spec_machine.specs.Profile.{Profile}
use Rattle.spec_machine.specs.Connection.{Connection, connection_of}
use Rattle.spec_machine.specs.Moves.{state_after}
use Rattle.spec_machine.specs.Access.{Addressed}
use Rattle.spec_machine.specs.Watches.{Watch}
use Rattle.spec_machine.specs.Client.{Client}
use Rattle.spec_machine.specs.Stamps.{SampleGroup, grouped, samples_at}
use Rattle.spec_machine.specs.AdsDevice.{DescriptionReading, server_step}
use Rattle.spec_laws.specs.Isolation.{start_in}
use Rattle.spec_laws.specs.Soundness.{Each}

-- notifications whose handles rise, from above a low number to a high one
abbrev pub AreRising : ℕ → List (Watch (List Addressed)) → ℕ → Type 0
AreRising low [] high = low ≤ high
AreRising low (w ∷ ws) high = (low < w.handle) × AreRising w.handle ws high

-- a client's notifications: the greatest handle is at most the number of additions
abbrev pub WatchesRise : Client → Type 0
WatchesRise c = AreRising 0 c.watches c.additions

-- samples whose handles rise, from above a low number
abbrev pub SamplesRise : ℕ → List Sample → Type 0
SamplesRise low [] = Unit {0}
SamplesRise low (s ∷ ss) = (low < s.handle) × SamplesRise s.handle ss

-- the samples of one frame
abbrev pub IsRisingGroup : SampleGroup → Type 0
IsRisingGroup g = SamplesRise 0 g.samples

-- In every state the notifications of each connection rise, and so do the samples of each frame of a
-- tick.
pub record RisesInOrder (c : Client) : Type 0 where
  pub watches : WatchesRise c
  pub samples : (memory : List Block) (now : ℕ)
      → Each IsRisingGroup (grouped [] (samples_at memory now c.watches))

abbrev pub HandlesRise : Type 0
HandlesRise = (reading : DescriptionReading) (profile : Profile) (d : Description)
    (signals : List Wave) (log : List Move) (c : ℕ) (k : Connection Client)
    → connection_of c (state_after (server_step reading) (start_in profile d signals) log).connections ≡ Some k
    → RisesInOrder k.client
