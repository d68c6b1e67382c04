-- The answers of a session to packets, by what their checks said. No public clause cites this file.
use Rattle.std.specs.Prelude.{◌≡◌, ◌≤◌, ◌<◌, ◌^◌, ℕ, List, [], ◌++◌, length, drop}
use Rattle.return_codes.specs.declared.code.Code.{Code}
use Rattle.return_codes.specs.Code.{number_of}
use Rattle.spec_frames.specs.Frame.{frame_bytes}
use Rattle.spec_formats.specs.Codes.{no_error, invalid_size}
use Rattle.spec_formats.specs.Header.{AmsHeader}
use Rattle.spec_formats.specs.Request.{Request, command_of}
use Rattle.spec_machine.specs.Decisions.{acts_in}
use Rattle.spec_machine.specs.Device.{Answered}
use Rattle.spec_machine.specs.Replies.{response_packet, reply_payload}
use Rattle.port_device.specs.PortMemory.{PortsMemory}
use Rattle.port_device.specs.Holds.{HoldsPorts}
use Rattle.session.specs.declared.taken.Taken.{Taken}
use Rattle.session.specs.Asking.{Asking}
use Rattle.session.specs.Runs.{decision_of, ending_of, after_acts}
use Rattle.session.specs.SessionState.{SessionState}
use Rattle.session.specs.StandsFor.{StandsFor}
use Rattle.session.specs.Takes.{IsAnswer}

-- a frame stands behind the old bytes, with a header and a length that fits 32 bits
pub record AppendsFrame (old new : List ℕ) : Type 0 where
  pub begins : new ≡ old ++ drop (length old) new
  pub headed : 38 ≤ length (drop (length old) new)
  pub short : length (drop (length old) new) < 2 ^ 32

abbrev pub IsErrorFrame : AmsHeader → Code → List ℕ → Type 0
IsErrorFrame h code frame = frame ≡ frame_bytes (response_packet h (number_of code) [])

abbrev pub IsRefusedFrame : AmsHeader → List ℕ → Type 0
IsRefusedFrame h frame =
    frame ≡ frame_bytes (response_packet h no_error (reply_payload h.command (record { code = invalid_size; bytes = [] })))

-- the request of a packet with this header is answered
pub record AnswersAsked (a : Asking) (h : AmsHeader) (r : Request) (taken : Taken) (ports : PortsMemory) (s : SessionState) : Type 0 where
  pub answered : IsAnswer (Answered (response_packet h no_error
      (reply_payload (command_of r) (ending_of (decision_of a r) a.world.memory)))) taken
  pub held : HoldsPorts (after_acts a (acts_in (decision_of a r))).world ports
  pub stands : StandsFor a.world.plant (after_acts a (acts_in (decision_of a r))).client s
