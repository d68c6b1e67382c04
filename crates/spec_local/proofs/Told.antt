-- What calls over the machine of the plant tell: a status, and behind it all that is printed.
use Rattle.std.specs.Prelude.{ℕ, List, [], ◌∷◌, Err}
use Rattle.signals.specs.Wave.{Wave}
use Rattle.spec_plant.proofs.Plant.{ENGINEER, plant}
use Rattle.spec_machine.specs.Device.{NoDocument}
use Rattle.spec_machine.specs.MachineState.{MachineState, start_of}
use Rattle.spec_machine.specs.Moves.{EventStep}
use Rattle.spec_machine.specs.World.{World, world_of}
use Rattle.spec_machine.specs.Client as served
use Rattle.spec_machine.specs.AdsDevice.{DescriptionReading, server_step}
use Rattle.spec_client.specs.Calls.{Call}
use Rattle.spec_client.specs.Conversation.{Conversation}
use Rattle.spec_client.proofs.Frames.{me_at, peer_at}
use Rattle.spec_client.proofs.Told.{told_in}
use Rattle.spec_local.specs.LocalCall.{local_call}

-- no description is read
abbrev reading : DescriptionReading
reading bytes signals = Err NoDocument

abbrev step : EventStep World served.Client
step = server_step reading

abbrev waves : List Wave
waves =
    record { values = 0 ∷ 1 ∷ 2 ∷ []; place = 0 } ∷ record { values = 0 ∷ 1 ∷ []; place = 0 }
    ∷ record { values = 3 ∷ 1 ∷ 4 ∷ 1 ∷ 5 ∷ 9 ∷ 2 ∷ 6 ∷ []; place = 0 } ∷ []

abbrev start : MachineState World served.Client
start = start_of (world_of plant waves)

-- a call from a machine to a port, where each answer has at most so many bytes and one
abbrev pub called : ℕ → List ℕ → ℕ → Call → Conversation
called most net port call = local_call step (λ n. most) start (me_at net) (peer_at port) call

abbrev pub told_as : List ℕ → Call → List ℕ
told_as net call = told_in (called 65535 net 851 call)

-- what a call to another port tells
abbrev pub told_at : ℕ → Call → List ℕ
told_at port call = told_in (called 65535 ENGINEER port call)

abbrev pub told : Call → List ℕ
told call = told_as ENGINEER call

-- what a call tells whose answers come byte for byte
abbrev pub told_by_bytes : Call → List ℕ
told_by_bytes call = told_in (called 0 ENGINEER 851 call)
