-- The payloads of requests. Beckhoff Information System, "ADS Commands".
-- Every number is little-endian.
use Rattle.std.specs.Prelude.{◌≡◌, ℕ, ◌+◌, ◌<◌, ◌^◌, List, [], ◌∷◌, ◌++◌, length, drop, replicate, Option, Some, None, ◌==◌, if◌then◌else◌}
use Rattle.std.specs.Int.{w16, w32, to_le_bytes}
use Rattle.spec_formats.specs.Numbers.{number16, number32, at_length}
use Rattle.spec_formats.specs.Commands.{READ_DEVICE_INFO, READ, WRITE, READ_STATE, WRITE_CONTROL, ADD_DEVICE_NOTIFICATION, DELETE_DEVICE_NOTIFICATION}
use Rattle.spec_formats.specs.Commands.{DEVICE_NOTIFICATION, READ_WRITE}

pub data Request : Type 0 where
  ReadDeviceInfo : Request
  Read : (group offset len : ℕ) → Request
  Write : (group offset : ℕ) (bytes : List ℕ) → Request
  ReadState : Request
  WriteControl : (ads device : ℕ) (bytes : List ℕ) → Request
  AddDeviceNotification : (group offset len mode delay cycle : ℕ) → Request
  DeleteDeviceNotification : (handle : ℕ) → Request
  DeviceNotification : (bytes : List ℕ) → Request
  ReadWrite : (group offset read_len : ℕ) (bytes : List ℕ) → Request

abbrev pub command_of : Request → ℕ
command_of ReadDeviceInfo = READ_DEVICE_INFO
command_of (Read group offset len) = READ
command_of (Write group offset bytes) = WRITE
command_of ReadState = READ_STATE
command_of (WriteControl ads device bytes) = WRITE_CONTROL
command_of (AddDeviceNotification group offset len mode delay cycle) = ADD_DEVICE_NOTIFICATION
command_of (DeleteDeviceNotification handle) = DELETE_DEVICE_NOTIFICATION
command_of (DeviceNotification bytes) = DEVICE_NOTIFICATION
command_of (ReadWrite group offset read_len bytes) = READ_WRITE

-- index group 4, index offset 4, length 4
abbrev pub access_bytes : ℕ → ℕ → ℕ → List ℕ
access_bytes group offset len = to_le_bytes w32 group ++ to_le_bytes w32 offset ++ to_le_bytes w32 len

-- length 4, data
abbrev pub data_bytes : List ℕ → List ℕ
data_bytes bytes = to_le_bytes w32 (length bytes) ++ bytes

-- the payload, up to the reserved bytes that AddDeviceNotification has at its end
abbrev pub request_fields : Request → List ℕ
request_fields ReadDeviceInfo = []
-- group 4, offset 4, length 4
request_fields (Read group offset len) = access_bytes group offset len
-- group 4, offset 4, length 4, data
request_fields (Write group offset bytes) = access_bytes group offset (length bytes) ++ bytes
request_fields ReadState = []
-- ADS state 2, device state 2, length 4, data
request_fields (WriteControl ads device bytes) =
    to_le_bytes w16 ads ++ to_le_bytes w16 device ++ to_le_bytes w32 (length bytes) ++ bytes
-- group 4, offset 4, length 4, transmission mode 4, max delay 4, cycle time 4
request_fields (AddDeviceNotification group offset len mode delay cycle) =
    access_bytes group offset len ++ to_le_bytes w32 mode ++ to_le_bytes w32 delay ++ to_le_bytes w32 cycle
-- notification handle 4
request_fields (DeleteDeviceNotification handle) = to_le_bytes w32 handle
-- taken as it is
request_fields (DeviceNotification bytes) = bytes
-- group 4, offset 4, read length 4, write length 4, data
request_fields (ReadWrite group offset read_len bytes) =
    access_bytes group offset read_len ++ to_le_bytes w32 (length bytes) ++ bytes

-- how many reserved bytes the payload of this command ends in
abbrev pub reserved_len : ℕ → ℕ
reserved_len command = if command == ADD_DEVICE_NOTIFICATION then 16 else 0

-- the payload as it is written: reserved bytes are zeros
abbrev pub request_bytes : Request → List ℕ
request_bytes r = request_fields r ++ replicate (reserved_len (command_of r)) 0

-- each number fits its field
abbrev pub FitsRequest : Request → Type 0
FitsRequest (Read group offset len) = (group < 2 ^ 32) × (offset < 2 ^ 32) × (len < 2 ^ 32)
FitsRequest (Write group offset bytes) = (group < 2 ^ 32) × (offset < 2 ^ 32) × (length bytes < 2 ^ 32)
FitsRequest (WriteControl ads device bytes) = (ads < 2 ^ 16) × (device < 2 ^ 16) × (length bytes < 2 ^ 32)
FitsRequest (AddDeviceNotification group offset len mode delay cycle) =
    (group < 2 ^ 32) × (offset < 2 ^ 32) × (len < 2 ^ 32) × (mode < 2 ^ 32) × (delay < 2 ^ 32) × (cycle < 2 ^ 32)
FitsRequest (DeleteDeviceNotification handle) = handle < 2 ^ 32
FitsRequest (ReadWrite group offset read_len bytes) =
    (group < 2 ^ 32) × (offset < 2 ^ 32) × (read_len < 2 ^ 32) × (length bytes < 2 ^ 32)
FitsRequest _ = Unit {0}

-- the payload is a text of this request: its fields, and reserved bytes that may hold anything
pub record IsRequestPayload (command : ℕ) (payload : List ℕ) (request : Request) : Type 0 where
  pub command_is : command_of request ≡ command
  pub fits : FitsRequest request
  pub reserved : List ℕ
  pub reserved_fills : length reserved ≡ reserved_len command
  pub whole : payload ≡ request_fields request ++ reserved

-- a command's number, and what its payload is read as
pub record RequestForm : Type 0 where
  pub command : ℕ
  pub read : List ℕ → Option Request

abbrev form : ℕ → (List ℕ → Option Request) → RequestForm
form command read = record { command = command; read = read }

-- the commands by their payloads' lengths
abbrev pub request_forms : List RequestForm
request_forms =
    form READ_DEVICE_INFO (λ p. at_length 0 p ReadDeviceInfo)
    ∷ form READ (λ p. at_length 12 p (Read (number32 0 p) (number32 4 p) (number32 8 p)))
    ∷ form WRITE (λ p. at_length (12 + number32 8 p) p (Write (number32 0 p) (number32 4 p) (drop 12 p)))
    ∷ form READ_STATE (λ p. at_length 0 p ReadState)
    ∷ form WRITE_CONTROL (λ p. at_length (8 + number32 4 p) p (WriteControl (number16 0 p) (number16 2 p) (drop 8 p)))
    ∷ form ADD_DEVICE_NOTIFICATION (λ p. at_length 40 p (AddDeviceNotification (number32 0 p) (number32 4 p) (number32 8 p)
    (number32 12 p) (number32 16 p) (number32 20 p)))
    ∷ form DELETE_DEVICE_NOTIFICATION (λ p. at_length 4 p (DeleteDeviceNotification (number32 0 p)))
    ∷ form DEVICE_NOTIFICATION (λ p. Some (DeviceNotification p))
    ∷ form READ_WRITE (λ p. at_length (16 + number32 12 p) p
    (ReadWrite (number32 0 p) (number32 4 p) (number32 8 p) (drop 16 p)))
    ∷ []

unfoldable pub request_in : List RequestForm → ℕ → List ℕ → Option Request
request_in [] command payload = None
request_in (f ∷ forms) command payload =
    if f.command == command then f.read payload else request_in forms command payload

-- the request whose text the payload is
unfoldable pub request_of : ℕ → List ℕ → Option Request
request_of command payload = request_in request_forms command payload
