-- Laws of the server of each profile: of every description, all signals and every log. Those of ServerLaws are their
-- instances at the strict profile, and what ServerLaws says of handles that are not live it says of both.
use Rattle.std.specs.Prelude.{◌≡◌, ℕ, List, length, false}
use Rattle.signals.specs.Wave.{Wave}
use Rattle.ads_outside.specs.declared.moves.Move.{Move}
use Rattle.spec_plant.specs.Description.{Description}
use Rattle.spec_plant.specs.Accepted.{IsAccepted}
use Rattle.spec_machine.specs.Offers.{taken_of}
use Rattle.spec_machine.specs.Turns.{KeepsTurns}
use Rattle.spec_machine.specs.ScriptLine.{ScriptLine}
use Rattle.spec_machine.specs.Play.{play_of}
use Rattle.spec_machine.specs.Delivery.{IsPrefix, AreOffers, is_short, is_cut_off}
use Rattle.spec_machine.specs.Profile.{Profile, strict}
use Rattle.spec_machine.specs.Projection.{projection_of}
use Rattle.spec_laws.specs.Isolation.{IsUntouchedIn}
use Rattle.spec_laws.specs.Reachable.{AllFits}
use Rattle.spec_laws.specs.RepliesFit.{AllAnswersFit}
use Rattle.spec_server.specs.Server.{read_description, server_device, server, start_in, server_after_in, server_output_in, server_after}

-- A server keeps its profile over every log; that of the program `ads` is strict, and gives no right to others.
abbrev pub ServerKeepsProfile : Type 0
ServerKeepsProfile = (profile : Profile) (description : Description) (signals : List Wave) (log : List Move)
    → (server_after_in profile description signals log).world.profile ≡ profile

abbrev pub ServerIsStrict : Type 0
ServerIsStrict = (description : Description) (signals : List Wave) (log : List Move)
    → (server_after description signals log).world.profile ≡ strict

-- The play of a script keeps the turns.
abbrev pub EachPlaysInTurns : Type 0
EachPlaysInTurns = (profile : Profile) (description : Description) (signals : List Wave) (lines : List ScriptLine)
    → KeepsTurns server (start_in profile description signals)
    (play_of server (start_in profile description signals) lines)

-- A client is given what it would be given alone, where no other writes what it reads.
abbrev pub EachIsIsolated : Type 0
EachIsIsolated = (profile : Profile) (description : Description) (signals : List Wave) (c : ℕ) (log : List Move)
    → IsUntouchedIn read_description profile description signals c log
    → server_output_in profile description signals c log ≡ server_output_in profile description signals c (projection_of c log)

-- What such a client took begins what it would be given alone, wherever the log ends; and at the end of a
-- turn it is all of that, unless its last offer was short, or it was closed by its peer or lost.
pub record TakesAsAloneIn (profile : Profile) (description : Description) (signals : List Wave) (c : ℕ) (log : List Move) : Type 0 where
  pub begins : AreOffers server (start_in profile description signals) log
      → IsPrefix (taken_of c log) (server_output_in profile description signals c (projection_of c log))
  pub all : KeepsTurns server (start_in profile description signals) log
      → is_short c log ≡ false → is_cut_off c log ≡ false
      → taken_of c log ≡ server_output_in profile description signals c (projection_of c log)

abbrev pub EachTakesAsAlone : Type 0
EachTakesAsAlone = (profile : Profile) (description : Description) (signals : List Wave) (c : ℕ) (log : List Move)
    → IsUntouchedIn read_description profile description signals c log → TakesAsAloneIn profile description signals c log

-- In every state all bytes are there, live handles lie within their symbols, and watched bytes are there.
abbrev pub EachStateFits : Type 0
EachStateFits = (profile : Profile) (description : Description) (signals : List Wave) → IsAccepted description (length signals)
    → (log : List Move) → AllFits (server_after_in profile description signals log)

-- In every state each reply has at most 2,000,000 bytes of data.
abbrev pub EachRepliesFit : Type 0
EachRepliesFit = (profile : Profile) (description : Description) (signals : List Wave) → IsAccepted description (length signals)
    → (log : List Move) → AllAnswersFit server_device (server_after_in profile description signals log)
