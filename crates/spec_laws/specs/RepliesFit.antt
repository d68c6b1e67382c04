-- How long replies are: a request is given at most as many bytes as it asks, and a reply has at most
-- 2,000,000 bytes of data.
use Rattle.std.specs.Prelude.{◌≡◌, ℕ, ◌+◌, ◌≤◌, List, length, false}
use Rattle.signals.specs.Wave.{Wave}
use Rattle.spec_plant.specs.Description.{Description}
use Rattle.spec_plant.specs.Accepted.{IsAccepted}
use Rattle.spec_plant.specs.World.{Block}
use Rattle.spec_formats.specs.Ranges.{greatest_len}
use Rattle.spec_formats.specs.Request.{Read, ReadWrite}
use Rattle.ads_outside.specs.declared.moves.Move.{Move}
use Rattle.spec_machine.specs.Device.{Device, Answer, Answered, Silent, Closing}
use Rattle.spec_machine.specs.Connection.{Connection, is_deaf}
use Rattle.spec_machine.specs.MachineState.{MachineState}
use Rattle.spec_machine.specs.Moves.{state_after}
use Rattle.spec_machine.specs.Profile.{Profile}
use Rattle.spec_machine.specs.World.{World, Setup}
use Rattle.spec_machine.specs.Client.{Client}
use Rattle.spec_machine.specs.Acts.{outcome_of}
use Rattle.spec_machine.specs.Writes.{Asker}
use Rattle.spec_machine.specs.Requests.{act_of}
use Rattle.spec_machine.specs.AdsDevice.{DescriptionReading, ads_device, server_step}
use Rattle.spec_laws.specs.Isolation.{start_in}
use Rattle.spec_laws.specs.Soundness.{Each, ReadsAccepted}

-- A Read and a ReadWrite, and each such part of a sum, is given at most as many bytes as it asks: in
-- every state and for every group.
pub record GivesAtMostAsked (d : Setup) (c : Client) (k : Asker) (memory : List Block) : Type 0 where
  pub read : (group offset len : ℕ)
      → length (outcome_of memory (act_of d c k (Read group offset len))).bytes ≤ len
  pub read_write : (group offset len : ℕ) (bytes : List ℕ)
      → length (outcome_of memory (act_of d c k (ReadWrite group offset len bytes))).bytes ≤ len

abbrev pub NoMoreThanAsked : Type 0
NoMoreThanAsked = (d : Setup) (c : Client) (k : Asker) (memory : List Block)
    → GivesAtMostAsked d c k memory

-- AMS header 32, result 4, length 4, and at most 2,000,000 bytes of data
abbrev pub AnswerFits : Answer → Type 0
AnswerFits Silent = Unit {0}
AnswerFits Closing = Unit {0}
AnswerFits (Answered packet) = length packet ≤ 32 + 8 + greatest_len

-- what the device answers to any packet; a connection that is closing or gone is not heard any more
abbrev pub AnswersFit : Device World Client → World → Connection Client → Type 0
AnswersFit device w k = is_deaf k ≡ false → (packet : List ℕ)
    → AnswerFits (device.take w k.client packet).answer

abbrev pub AllAnswersFit : Device World Client → MachineState World Client → Type 0
AllAnswersFit device s = Each (AnswersFit device s.world) s.connections

-- This holds after every log, where the first description is accepted and the reading gives accepted
-- ones alone.
abbrev pub RepliesFit : Type 0
RepliesFit = (reading : DescriptionReading) → ReadsAccepted reading
    → (profile : Profile) (d : Description) (signals : List Wave) → IsAccepted d (length signals) → (log : List Move)
    → AllAnswersFit (ads_device reading)
    (state_after (server_step reading) (start_in profile d signals) log)
