-- Plain packets: a Read, a Write or a ReadState that passes the checks of its header. No public clause cites this file.
use Rattle.std.specs.Prelude.{◌≡◌, ℕ, ◌+◌, ◌≤◌, List, ◌∷◌, ◌++◌, length, drop, true, bytes_eq, Some, Option}
use Rattle.std.specs.Int.{w16, w32, to_le_bytes}
use Rattle.spec_formats.specs.Codes.{no_error}
use Rattle.spec_formats.specs.Header.{AmsHeader, header_bytes, header_of, payload_of, request_flags, response_flags, response_header}
use Rattle.spec_formats.specs.Numbers.{number32}
use Rattle.spec_formats.specs.Request.{Request, Read, Write, ReadState, command_of, request_of}
use Rattle.spec_frames.specs.Frame.{frame_bytes}
use Rattle.spec_machine.specs.Decisions.{acts_in}
use Rattle.spec_machine.specs.GivenRights.{given_rights}
use Rattle.spec_machine.specs.Replies.{response_packet, reply_payload}
use Rattle.ams_header.specs.Header.{ams_header_of}
use Rattle.type_layout.specs.Descriptions.{rights_of}
use Rattle.port_device.specs.PortMemory.{PortMemory}
use Rattle.net_routes.specs.Admitted.{Admitted}
use Rattle.session.specs.declared.plain.Plain.{Plain}
use Rattle.session.specs.declared.plain.Plain.TheVariants as plain
use Rattle.session.specs.declared.plain.PlainPacket.{PlainPacket}
use Rattle.session.specs.declared.requests.ReadRequest.{ReadRequest}
use Rattle.session.specs.declared.requests.WriteRequest.{WriteRequest}
use Rattle.session.specs.Asking.{Asking}
use Rattle.session.specs.Runs.{AsksSession, decision_of, ending_of, after_acts}
use Rattle.session.specs.SessionState.{SessionState}

-- the request that a payload is read as
abbrev pub plain_meant : Plain → List ℕ → Request
plain_meant plain.Read payload = Read (number32 0 payload) (number32 4 payload) (number32 8 payload)
plain_meant plain.Write payload = Write (number32 0 payload) (number32 4 payload) (drop 12 payload)
plain_meant plain.State payload = ReadState

-- the request that a value is
abbrev pub read_meant : ReadRequest → Request
read_meant asked = Read asked.group asked.offset asked.len

abbrev pub write_meant : WriteRequest → Request
write_meant asked = Write asked.group asked.offset asked.bytes.now

-- how many bytes a payload has at least
abbrev pub plain_len : Plain → ℕ
plain_len plain.Read = 12
plain_len plain.Write = 12
plain_len plain.State = 0

-- a payload of this command is a request of this kind
pub record IsPlainPayload (command : ℕ) (payload : List ℕ) (kind : Plain) : Type 0 where
  pub request_is : request_of command payload ≡ Some (plain_meant kind payload)
  pub command_is : command_of (plain_meant kind payload) ≡ command
  pub long : plain_len kind ≤ length payload

-- no check stops a packet with this header, but for those of its port, its command and its payload
pub record PassesHeader (ams net : List ℕ) (h : AmsHeader) : Type 0 where
  pub len_is : h.len ≡ length (payload_of ams)
  pub flags_are : h.flags ≡ request_flags
  pub target_is : bytes_eq h.target.net net ≡ true

-- a plain packet: no check stops it, but for that of its port
pub record IsPlain (ams net : List ℕ) (admitted : Admitted) (p : PlainPacket) : Type 0 where
  pub header : header_of ams ≡ Some (ams_header_of p.h)
  pub passes : PassesHeader ams net (ams_header_of p.h)
  pub rights_are : Some (rights_of p.rights) ≡ given_rights admitted.others p.h.source.net.bytes admitted.routes
  pub payload : IsPlainPayload p.h.command (payload_of ams) p.kind

-- what stands behind the addresses in the header of an answer without an AMS error: command 2, flags 2, data length 4, error code 4, invoke id 4
abbrev pub answer_fields : ℕ → ℕ → ℕ → List ℕ
answer_fields command len id =
    to_le_bytes w16 command ++ to_le_bytes w16 response_flags ++ to_le_bytes w32 len ++ to_le_bytes w32 no_error ++ to_le_bytes w32 id

-- what stands in front of an AMS packet of so many bytes: reserved 2, length 4
abbrev pub frame_front : ℕ → List ℕ
frame_front len = 0 ∷ 0 ∷ to_le_bytes w32 len

-- both headers of an answer without an AMS error, whose payload has so many bytes
abbrev pub answer_headers : AmsHeader → ℕ → List ℕ
answer_headers h len = frame_front (len + 32) ++ header_bytes (response_header h no_error len)

-- the payload of the reply to a Read or a ReadWrite: result 4, length 4, data
abbrev pub data_payload : ℕ → List ℕ → List ℕ
data_payload code bytes = to_le_bytes w32 code ++ (to_le_bytes w32 (length bytes) ++ bytes)

-- the request of a packet with this header is run: the frame of its reply stands behind the old bytes, and what it leaves
pub record RunsWhole (a : Asking) (h : AmsHeader) (r : Request) (old new : List ℕ) (port : PortMemory) (s : SessionState) : Type 0 where
  pub framed : new ≡ old ++ frame_bytes (response_packet h no_error (reply_payload (command_of r) (ending_of (decision_of a r) a.world.memory)))
  pub after : AsksSession (after_acts a (acts_in (decision_of a r))) port s
