-- The nine checks of a frame, in their order, and what its AMS packet leads to.
-- Beckhoff Information System, "AMS Header", "ADS Commands". That a machine without rights ends its connection is this
-- project's own choice.
use Rattle.std.specs.Prelude.{ℕ, ◌%◌, List, [], ◌∷◌, length, Bool, not, ◌==◌, if◌then◌else◌}
use Rattle.std.specs.Prelude.{Option, Some, None, is_none, bytes_eq}
use Rattle.spec_plant.specs.Description.{Rights}
use Rattle.spec_plant.specs.World.{PlantPort}
use Rattle.spec_formats.specs.Codes.{target_port_not_found, target_machine_not_found}
use Rattle.spec_formats.specs.Codes.{unknown_command_id}
use Rattle.spec_formats.specs.Codes.{unknown_ams_command, invalid_ams_length, invalid_size}
use Rattle.spec_formats.specs.Header.{AmsAddress, AmsHeader, header_of, payload_of, request_flags}
use Rattle.spec_formats.specs.Request.{Request, request_of}
use Rattle.spec_machine.specs.GivenRights.{given_rights}
use Rattle.spec_machine.specs.World.{Setup, port_numbered}
use Rattle.spec_machine.specs.Client.{Client}
use Rattle.spec_machine.specs.Answers.{is_answered, DEVICE_NOTIFICATION}
use Rattle.spec_machine.specs.Writes.{Asker}
use Rattle.spec_machine.specs.Decisions.{Decision, NoAnswer, EndConnection, AmsError, refuse}
use Rattle.spec_machine.specs.SumPackets.{decide_request}

-- a check of a packet: whether it stops the packet, and what the packet then leads to
pub record Check : Type 0 where
  pub stops : Bool
  pub leads_to : Decision

abbrev pub stop_if : Bool → Decision → Check
stop_if stops decision = record { stops = stops; leads_to = decision }

-- the rights of the machine that a packet is from
abbrev pub source_rights : Setup → AmsHeader → Option Rights
source_rights d h = given_rights d.profile.others h.source.net d.plant.routes

-- The data length is the AMS length less 32; it is no response; its flags are those of a request; its source has
-- rights; its target is this NetId, and a port that is there; it is no notification; its command is answered;
-- and its payload is a text of its command.
abbrev pub checks_of : Setup → AmsHeader → List ℕ → List Check
checks_of d h payload =
    stop_if (not (h.len == length payload)) (AmsError invalid_ams_length)
    ∷ stop_if (h.flags % 2 == 1) NoAnswer
    ∷ stop_if (not (h.flags == request_flags)) (AmsError unknown_ams_command)
    ∷ stop_if (is_none (source_rights d h)) EndConnection
    ∷ stop_if (not (bytes_eq h.target.net d.plant.net)) (AmsError target_machine_not_found)
    ∷ stop_if (is_none (port_numbered h.target.port d.plant.ports)) (AmsError target_port_not_found)
    ∷ stop_if (h.command == DEVICE_NOTIFICATION) NoAnswer
    ∷ stop_if (not (is_answered h.command)) (AmsError unknown_command_id)
    ∷ stop_if (is_none (request_of h.command payload)) (refuse invalid_size)
    ∷ []

-- the first check that stops the packet says what it leads to, and else this
abbrev pub checked : List Check → Decision → Decision
checked [] decision = decision
checked (c ∷ cs) decision = if c.stops then c.leads_to else checked cs decision

-- what a packet asks that none stops: who asks, and the request
pub record Question : Type 0 where
  pub asker : Asker
  pub request : Request

-- from a source with these rights, to this port
abbrev pub question : AmsAddress → Option Rights → Option PlantPort → Option Request → Option Question
question source (Some rights) (Some port) (Some request) =
    Some (record { asker = record { port = port; address = source; rights = rights }; request = request })
question source rights port request = None

abbrev pub question_of : Setup → AmsHeader → List ℕ → Option Question
question_of d h payload =
    question h.source (source_rights d h) (port_numbered h.target.port d.plant.ports) (request_of h.command payload)

abbrev pub decide_passed : Setup → Client → Option Question → Decision
decide_passed d c None = NoAnswer
decide_passed d c (Some q) = decide_request d c q.asker q.request

-- the packet of a frame has a header
abbrev pub decide_header : Setup → Client → List ℕ → Option AmsHeader → Decision
decide_header d c payload None = NoAnswer
decide_header d c payload (Some h) = checked (checks_of d h payload) (decide_passed d c (question_of d h payload))

unfoldable pub decide : Setup → Client → List ℕ → Decision
decide d c packet = decide_header d c (payload_of packet) (header_of packet)
