-- What the nine checks of a packet say. No public clause cites this file.
use Rattle.std.specs.Prelude.{◌≡◌, ℕ, List, drop, Some}
use Rattle.return_codes.specs.Code.{number_of}
use Rattle.spec_plant.specs.World.{PlantPort}
use Rattle.spec_formats.specs.Codes.{invalid_size}
use Rattle.spec_formats.specs.Header.{AmsHeader, header_of, payload_of}
use Rattle.spec_formats.specs.Request as format
use Rattle.spec_machine.specs.Client.{Client}
use Rattle.spec_machine.specs.Decisions.{NoAnswer, EndConnection, AmsError, refuse}
use Rattle.spec_machine.specs.Packets.{checked, checks_of, question_of, decide, decide_passed}
use Rattle.spec_machine.specs.SumPackets.{decide_request}
use Rattle.spec_machine.specs.World.{World, setup_of, port_numbered}
use Rattle.spec_machine.specs.Writes.{Asker}
use Rattle.type_layout.specs.Descriptions.{rights_of}
use Rattle.ads_commands.specs.Request.{request_meant}
use Rattle.ams_header.specs.Header.{address_of, ams_header_of}
use Rattle.session.specs.declared.examined.Examined.{Examined}
use Rattle.session.specs.declared.examined.Examined.TheVariants as examined

-- the header of a packet, and that so many checks do not stop it: the others decide
pub record HasPassed (n : ℕ) (w : World) (c : Client) (ams : List ℕ) (h : AmsHeader) : Type 0 where
  pub header : header_of ams ≡ Some h
  pub decision : decide (setup_of w) c ams
      ≡ checked (drop n (checks_of (setup_of w) h (payload_of ams))) (decide_passed (setup_of w) c (question_of (setup_of w) h (payload_of ams)))

-- the request of a packet that passed the checks: what it leads to
pub record IsAsked (w : World) (c : Client) (ams : List ℕ) (h : AmsHeader) (k : Asker) (r : format.Request) : Type 0 where
  pub found : port_numbered h.target.port w.plant.ports ≡ Some k.port
  pub command : format.command_of r ≡ h.command
  pub decision : decide (setup_of w) c ams ≡ decide_request (setup_of w) c k r

-- what the examination of a packet says: what it leads to; and where something is answered, whose header it has
abbrev pub Examines : World → Client → List ℕ → Examined → Type 0
Examines w c ams examined.Silent = decide (setup_of w) c ams ≡ NoAnswer
Examines w c ams examined.Close =
    (h : AmsHeader) × ((header_of ams ≡ Some h) × (decide (setup_of w) c ams ≡ EndConnection))
Examines w c ams (examined.Error h code) =
    (header_of ams ≡ Some (ams_header_of h)) × (decide (setup_of w) c ams ≡ AmsError (number_of code))
Examines w c ams (examined.Refused h) =
    (header_of ams ≡ Some (ams_header_of h)) × (decide (setup_of w) c ams ≡ refuse invalid_size)
Examines w c ams (examined.Asked h rights request) =
    (header_of ams ≡ Some (ams_header_of h))
    × ((p : PlantPort) × IsAsked w c ams (ams_header_of h)
    (record { port = p; address = address_of h.source; rights = rights_of rights }) (request_meant request))
