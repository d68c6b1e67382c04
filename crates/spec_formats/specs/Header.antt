-- The AMS header: who is asked by whom, and what follows. Beckhoff Information System, "AMS Header".
-- Every number is little-endian.
use Rattle.std.specs.Prelude.{◌≡◌, ℕ, ◌<◌, ◌^◌, List, ◌++◌, length, take, drop, Bool, ◌&&◌, ◌==◌, bytes_eq, Option, Some, None, nat_lt, if◌then◌else◌}
use Rattle.std.specs.Int.{w16, w32, to_le_bytes}
use Rattle.spec_formats.specs.Numbers.{number16, number32}

-- an AMS address: a NetId of six bytes, and a port
pub record AmsAddress : Type 0 where
  pub net : List ℕ
  pub port : ℕ

pub record AmsHeader : Type 0 where
  pub target : AmsAddress
  pub source : AmsAddress
  pub command : ℕ
  pub flags : ℕ
  pub len : ℕ
  pub error : ℕ
  pub id : ℕ

abbrev pub is_same_address : AmsAddress → AmsAddress → Bool
is_same_address a b = bytes_eq a.net b.net && (a.port == b.port)

-- NetId 6, port 2
abbrev pub address_bytes : AmsAddress → List ℕ
address_bytes a = a.net ++ to_le_bytes w16 a.port

-- target 8, source 8, command 2, flags 2, data length 4, error code 4, invoke id 4
abbrev pub header_bytes : AmsHeader → List ℕ
header_bytes h = address_bytes h.target ++ address_bytes h.source
    ++ to_le_bytes w16 h.command ++ to_le_bytes w16 h.flags
    ++ to_le_bytes w32 h.len ++ to_le_bytes w32 h.error ++ to_le_bytes w32 h.id

pub record IsAddress (a : AmsAddress) : Type 0 where
  pub six_bytes : length a.net ≡ 6
  pub port : a.port < 2 ^ 16

-- a header whose numbers fit their fields
pub record IsHeader (h : AmsHeader) : Type 0 where
  pub target : IsAddress h.target
  pub source : IsAddress h.source
  pub command : h.command < 2 ^ 16
  pub flags : h.flags < 2 ^ 16
  pub len : h.len < 2 ^ 32
  pub error : h.error < 2 ^ 32
  pub id : h.id < 2 ^ 32

-- the address at this place
abbrev pub address_at : ℕ → List ℕ → AmsAddress
address_at at bytes = let address = drop at bytes in
    record { net = take 6 address; port = number16 6 address }

-- the header in front of an AMS packet
unfoldable pub header_of : List ℕ → Option AmsHeader
header_of ams = if nat_lt (length ams) 32 then None else Some (record {
  target = address_at 0 ams;
  source = address_at 8 ams;
  command = number16 16 ams;
  flags = number16 18 ams;
  len = number32 20 ams;
  error = number32 24 ams;
  id = number32 28 ams;
})

-- what stands behind the header
abbrev pub payload_of : List ℕ → List ℕ
payload_of ams = drop 32 ams

-- the flags of a request and of a notification: an ADS command
abbrev pub request_flags : ℕ
request_flags = 0x0004

-- the flags of a response
abbrev pub response_flags : ℕ
response_flags = 0x0005

-- the header of the response: addresses exchanged, command and invoke id kept
abbrev pub response_header : AmsHeader → ℕ → ℕ → AmsHeader
response_header h code payload_len = record {
  target = h.source;
  source = h.target;
  command = h.command;
  flags = response_flags;
  len = payload_len;
  error = code;
  id = h.id;
}
