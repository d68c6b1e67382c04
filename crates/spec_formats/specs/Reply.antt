-- The payloads of replies. Beckhoff Information System, "ADS Commands".
-- Every number is little-endian, and the first is the result.
use Rattle.std.specs.Prelude.{◌≡◌, ℕ, ◌+◌, ◌<◌, ◌^◌, List, [], ◌∷◌, ◌++◌, length, drop, slice_index, replicate, Option, None, ◌==◌, if◌then◌else◌}
use Rattle.std.specs.Int.{w16, w32, to_le_bytes}
use Rattle.spec_plant.specs.Description.{Facts}
use Rattle.spec_formats.specs.Numbers.{number16, number32, at_length}

pub data Reply : Type 0 where
  ReadDeviceInfo : (result : ℕ) (facts : Facts) → Reply
  Read : (result : ℕ) (bytes : List ℕ) → Reply
  Write : (result : ℕ) → Reply
  ReadState : (result ads device : ℕ) → Reply
  WriteControl : (result : ℕ) → Reply
  AddDeviceNotification : (result handle : ℕ) → Reply
  DeleteDeviceNotification : (result : ℕ) → Reply
  ReadWrite : (result : ℕ) (bytes : List ℕ) → Reply

abbrev pub command_of : Reply → ℕ
command_of (ReadDeviceInfo result facts) = 1
command_of (Read result bytes) = 2
command_of (Write result) = 3
command_of (ReadState result ads device) = 4
command_of (WriteControl result) = 5
command_of (AddDeviceNotification result handle) = 6
command_of (DeleteDeviceNotification result) = 7
command_of (ReadWrite result bytes) = 9

abbrev pub result_of : Reply → ℕ
result_of (ReadDeviceInfo result facts) = result
result_of (Read result bytes) = result
result_of (Write result) = result
result_of (ReadState result ads device) = result
result_of (WriteControl result) = result
result_of (AddDeviceNotification result handle) = result
result_of (DeleteDeviceNotification result) = result
result_of (ReadWrite result bytes) = result

-- major 1, minor 1, build 2, name 16
abbrev pub facts_bytes : Facts → List ℕ
facts_bytes facts = facts.major ∷ facts.minor ∷ [] ++ to_le_bytes w16 facts.build ++ facts.name

-- what stands behind the result
abbrev pub reply_fields : Reply → List ℕ
reply_fields (ReadDeviceInfo result facts) = facts_bytes facts
-- length 4, data
reply_fields (Read result bytes) = to_le_bytes w32 (length bytes) ++ bytes
reply_fields (Write result) = []
-- ADS state 2, device state 2
reply_fields (ReadState result ads device) = to_le_bytes w16 ads ++ to_le_bytes w16 device
reply_fields (WriteControl result) = []
-- notification handle 4
reply_fields (AddDeviceNotification result handle) = to_le_bytes w32 handle
reply_fields (DeleteDeviceNotification result) = []
-- length 4, data
reply_fields (ReadWrite result bytes) = to_le_bytes w32 (length bytes) ++ bytes

-- result 4, fields
abbrev pub reply_bytes : Reply → List ℕ
reply_bytes r = to_le_bytes w32 (result_of r) ++ reply_fields r

-- how many zeros stand behind the result of a command that is refused
abbrev pub refused_len : Reply → ℕ
refused_len (ReadDeviceInfo result facts) = 20
refused_len (Read result bytes) = 4
refused_len (ReadState result ads device) = 4
refused_len (AddDeviceNotification result handle) = 4
refused_len (ReadWrite result bytes) = 4
refused_len _ = 0

-- the refused form
abbrev pub refused_bytes : Reply → List ℕ
refused_bytes r = to_le_bytes w32 (result_of r) ++ replicate (refused_len r) 0

-- the payload as it is written: with a result other than 0 in its refused form
unfoldable pub written_bytes : Reply → List ℕ
written_bytes r = if result_of r == 0 then reply_bytes r else refused_bytes r

-- each number fits its field
abbrev pub FitsFields : Reply → Type 0
FitsFields (ReadDeviceInfo result facts) =
    (facts.major < 2 ^ 8) × (facts.minor < 2 ^ 8) × (facts.build < 2 ^ 16) × (length facts.name ≡ 16)
FitsFields (Read result bytes) = length bytes < 2 ^ 32
FitsFields (ReadState result ads device) = (ads < 2 ^ 16) × (device < 2 ^ 16)
FitsFields (AddDeviceNotification result handle) = handle < 2 ^ 32
FitsFields (ReadWrite result bytes) = length bytes < 2 ^ 32
FitsFields _ = Unit {0}

-- the payload is the text of this reply
pub record IsReplyPayload (command : ℕ) (payload : List ℕ) (reply : Reply) : Type 0 where
  pub command_is : command_of reply ≡ command
  pub result_fits : result_of reply < 2 ^ 32
  pub fields_fit : FitsFields reply
  pub whole : payload ≡ reply_bytes reply

-- a command's number, and what its reply is read as
pub record ReplyForm : Type 0 where
  pub command : ℕ
  pub read : List ℕ → Option Reply

abbrev form : ℕ → (List ℕ → Option Reply) → ReplyForm
form command read = record { command = command; read = read }

abbrev pub facts_at : ℕ → List ℕ → Facts
facts_at at p = record {
  major = slice_index p at;
  minor = slice_index p (at + 1);
  build = number16 (at + 2) p;
  name = drop (at + 4) p;
}

-- the commands by their replies' lengths
abbrev pub reply_forms : List ReplyForm
reply_forms =
    form 1 (λ p. at_length 24 p (ReadDeviceInfo (number32 0 p) (facts_at 4 p)))
    ∷ form 2 (λ p. at_length (8 + number32 4 p) p (Read (number32 0 p) (drop 8 p)))
    ∷ form 3 (λ p. at_length 4 p (Write (number32 0 p)))
    ∷ form 4 (λ p. at_length 8 p (ReadState (number32 0 p) (number16 4 p) (number16 6 p)))
    ∷ form 5 (λ p. at_length 4 p (WriteControl (number32 0 p)))
    ∷ form 6 (λ p. at_length 8 p (AddDeviceNotification (number32 0 p) (number32 4 p)))
    ∷ form 7 (λ p. at_length 4 p (DeleteDeviceNotification (number32 0 p)))
    ∷ form 9 (λ p. at_length (8 + number32 4 p) p (ReadWrite (number32 0 p) (drop 8 p)))
    ∷ []

unfoldable pub reply_in : List ReplyForm → ℕ → List ℕ → Option Reply
reply_in [] command payload = None
reply_in (f ∷ forms) command payload =
    if f.command == command then f.read payload else reply_in forms command payload

-- the reply whose text the payload is
unfoldable pub reply_of : ℕ → List ℕ → Option Reply
reply_of command payload = reply_in reply_forms command payload
