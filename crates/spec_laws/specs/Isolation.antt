-- Isolation: a client none of whose read bytes another writes is given what it would be given alone.
use Rattle.std.specs.Prelude.{◌≡◌, ◌⊎◌, ℕ, List, [], ◌∷◌, false}
use Rattle.signals.specs.Wave.{Wave}
use Rattle.spec_plant.specs.Description.{Description}
use Rattle.spec_plant.specs.World.{ByteName}
use Rattle.ads_outside.specs.declared.moves.Move.{Move}
use Rattle.spec_machine.specs.MachineState.{MachineState, start_of, output_of}
use Rattle.spec_machine.specs.Moves.{state_after}
use Rattle.spec_machine.specs.Offers.{taken_of}
use Rattle.spec_machine.specs.Turns.{KeepsTurns}
use Rattle.spec_machine.specs.Delivery.{IsPrefix, AreOffers, is_short, is_cut_off}
use Rattle.spec_machine.specs.Profile.{Profile, strict}
use Rattle.spec_machine.specs.World.{World, world_in}
use Rattle.spec_machine.specs.Client.{Client}
use Rattle.spec_machine.specs.AdsDevice.{DescriptionReading, server_step}
use Rattle.spec_machine.specs.Projection.{projection_of, reads_of, writes_by_others}

abbrev pub IsAmong : ByteName → List ByteName → Type 0
IsAmong n [] = ⊥
IsAmong n (x ∷ xs) = (n ≡ x) ⊎ IsAmong n xs

-- no name is in both
abbrev pub AreApart : List ByteName → List ByteName → Type 0
AreApart ns xs = (n : ByteName) → IsAmong n ns → IsAmong n xs → ⊥

-- the machine of a profile over a description and signals, before any move
abbrev pub start_in : Profile → Description → List Wave → MachineState World Client
start_in profile d signals = start_of (world_in profile d signals)

-- what a connection was given by the end of a log
abbrev pub output : DescriptionReading → Profile → Description → List Wave → ℕ → List Move
    → List ℕ
output reading profile d signals c log =
    output_of c (state_after (server_step reading) (start_in profile d signals) log)

-- none of the bytes that a connection reads, were it alone, is written by another
abbrev pub IsUntouchedIn : DescriptionReading → Profile → Description → List Wave → ℕ
    → List Move → Type 0
IsUntouchedIn reading profile d signals c log =
    AreApart (reads_of reading c (start_in profile d signals) log)
    (writes_by_others reading c (start_in profile d signals) log)

abbrev pub IsUntouched : DescriptionReading → Description → List Wave → ℕ
    → List Move → Type 0
IsUntouched reading d signals c log = IsUntouchedIn reading strict d signals c log

-- Then its output is what it would be if it were alone, whatever the others do.
abbrev pub IsIsolated : Type 0
IsIsolated = (reading : DescriptionReading) (profile : Profile) (d : Description)
    (signals : List Wave) (c : ℕ) (log : List Move)
    → IsUntouchedIn reading profile d signals c log
    → output reading profile d signals c log
    ≡ output reading profile d signals c (projection_of c log)

-- And so it is the same in any two logs with the same projection.
abbrev pub SeesOnlyItself : Type 0
SeesOnlyItself = (reading : DescriptionReading) (profile : Profile) (d : Description)
    (signals : List Wave) (c : ℕ) (log other : List Move)
    → projection_of c log ≡ projection_of c other
    → IsUntouchedIn reading profile d signals c log → IsUntouchedIn reading profile d signals c other
    → output reading profile d signals c log ≡ output reading profile d signals c other

-- What a connection took of what it was offered begins what it would be given if it were alone, wherever
-- the log ends, also in the middle of a turn.
abbrev pub TakesAsAlone : Type 0
TakesAsAlone = (reading : DescriptionReading) (profile : Profile) (d : Description)
    (signals : List Wave) (c : ℕ) (log : List Move)
    → AreOffers (server_step reading) (start_in profile d signals) log
    → IsUntouchedIn reading profile d signals c log
    → IsPrefix (taken_of c log) (output reading profile d signals c (projection_of c log))

-- Where the log keeps the turns, it is all of that, unless its last offer was short, or it was closed by its
-- peer or lost.
abbrev pub TakesAllAsAlone : Type 0
TakesAllAsAlone = (reading : DescriptionReading) (profile : Profile) (d : Description)
    (signals : List Wave) (c : ℕ) (log : List Move)
    → KeepsTurns (server_step reading) (start_in profile d signals) log
    → is_short c log ≡ false → is_cut_off c log ≡ false
    → IsUntouchedIn reading profile d signals c log
    → taken_of c log ≡ output reading profile d signals c (projection_of c log)
