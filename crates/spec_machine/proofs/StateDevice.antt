-- A small device for worked examples: it knows one request, ReadState, from one NetId, and answers any other frame as
-- an unknown command.
use Rattle.std.specs.Prelude.{ℕ, List, [], ◌∷◌, ◌++◌, length, take, drop, Bool, ◌&&◌, bytes_eq}
use Rattle.std.specs.Prelude.{◌==◌, if◌then◌else◌}
use Rattle.std.specs.Int.{w16, w32, to_le_bytes}
use Rattle.spec_machine.specs.Device.{Device, Answered, Refused, NoDocument}
use Rattle.spec_machine.specs.Moves.{EventStep}
use Rattle.spec_machine.specs.Events.{state_after_event}
use Rattle.spec_machine.specs.World.{RUN}

-- the target is 5.1.2.3.1.1, port 851; the source is 192.168.0.9.1.1, any port
abbrev pub TARGET : List ℕ
TARGET = 5 ∷ 1 ∷ 2 ∷ 3 ∷ 1 ∷ 1 ∷ to_le_bytes w16 851

abbrev pub SOURCE_NET : List ℕ
SOURCE_NET = 192 ∷ 168 ∷ 0 ∷ 9 ∷ 1 ∷ 1 ∷ []

-- command 4, flags 0x0004, data length 0
abbrev pub READ_STATE_FIELDS : List ℕ
READ_STATE_FIELDS = to_le_bytes w16 4 ++ to_le_bytes w16 0x0004 ++ to_le_bytes w32 0

-- AMS error 8: unknown command id
abbrev pub UNKNOWN_COMMAND : ℕ
UNKNOWN_COMMAND = 8

-- so many bytes of an AMS packet from an offset on
abbrev pub field : ℕ → ℕ → List ℕ → List ℕ
field offset len packet = take len (drop offset packet)

-- a ReadState without data; its error field is not looked at
abbrev pub is_read_state : List ℕ → Bool
is_read_state packet =
    bytes_eq (field 0 8 packet) TARGET && bytes_eq (field 8 6 packet) SOURCE_NET
    && bytes_eq (field 16 8 packet) READ_STATE_FIELDS && (length packet == 32)

-- The reply to a packet: addresses exchanged, its command, flags 0x0005, the data length, an error
-- code, its invoke id, and data.
abbrev pub reply_to : List ℕ → ℕ → List ℕ → List ℕ
reply_to packet error payload =
    field 8 8 packet ++ field 0 8 packet ++ field 16 2 packet ++ to_le_bytes w16 0x0005
    ++ to_le_bytes w32 (length payload) ++ to_le_bytes w32 error ++ field 28 4 packet ++ payload

-- result 0, ADS state, device state 0
abbrev pub state_payload : List ℕ
state_payload = to_le_bytes w32 0 ++ to_le_bytes w16 RUN ++ to_le_bytes w16 0

abbrev pub state_reply : List ℕ → List ℕ
state_reply packet =
    if is_read_state packet then reply_to packet 0 state_payload
    else reply_to packet UNKNOWN_COMMAND []

-- no world, nothing kept for a client; ticks do nothing, and no description is read
abbrev pub state_device : Device (Unit {0}) (Unit {0})
state_device = record {
  new_client = tt;
  take = λ world client packet.
      record { answer = Answered (state_reply packet); world = tt; client = tt };
  world_after_tick = λ world. tt;
  client_after_tick = λ moment world client. record { client = tt; frames = [] };
  reload = λ bytes world. Refused NoDocument;
  client_after_reload = λ moment old new client. record { client = tt; frames = [] };
}

abbrev pub state_step : EventStep (Unit {0}) (Unit {0})
state_step = state_after_event state_device
