-- Which bytes a move may change, and to what.
use Rattle.std.specs.Prelude.{◌≡◌, ◌≢◌, ℕ, ◌≤◌, List, [], map, length}
use Rattle.std.specs.Prelude.{min}
use Rattle.std.specs.Prelude.{Bool, true, false, Some, None, option_map, Result, Ok, Err}
use Rattle.std.specs.Int.{bit_at}
use Rattle.ads_outside.specs.declared.event.Event.TheVariants as event
use Rattle.ads_outside.specs.declared.moves.Move.{Move}
use Rattle.ads_outside.specs.declared.moves.Move.TheVariants as move
use Rattle.spec_plant.specs.Description.{Description}
use Rattle.spec_plant.specs.World.{ByteName, Block, byte_at}
use Rattle.spec_machine.specs.Device.{DescriptionFault}
use Rattle.spec_machine.specs.MachineState.{MachineState}
use Rattle.spec_machine.specs.Moves.{state_after_move}
use Rattle.spec_formats.specs.Groups.{value_by_handle}
use Rattle.spec_formats.specs.Request.{Write}
use Rattle.spec_machine.specs.World.{World, Setup}
use Rattle.spec_machine.specs.Access.{WholeByte, OneBit, addressed_name, values_at, Put, byte_after}
use Rattle.spec_machine.specs.Access.{memory_after_put, memory_after_puts}
use Rattle.spec_machine.specs.Handles.{Live, kept_status}
use Rattle.spec_machine.specs.Client.{Place, names_of_place, Client}
use Rattle.spec_machine.specs.Acts.{Access, Allowed, writes_of_acts}
use Rattle.spec_machine.specs.Writes.{Asker}
use Rattle.spec_machine.specs.Requests.{act_of}
use Rattle.spec_machine.specs.Ticks.{signal_puts}
use Rattle.spec_machine.specs.AdsDevice.{DescriptionReading, server_step}
use Rattle.spec_machine.specs.Projection.{acts_of_move}
use Rattle.spec_laws.specs.Isolation.{IsAmong}
use Rattle.spec_laws.specs.Soundness.{Each}

abbrev pub names_of_puts : List Put → List ByteName
names_of_puts puts = map (λ (p : Put). addressed_name p.place) puts

-- the names that a move writes: by accepted requests, or by the signals of a tick
abbrev pub writes_of_move : DescriptionReading → MachineState World Client → Move
    → List ByteName
writes_of_move reading s (move.Event (event.Piece c bytes)) =
    writes_of_acts (acts_of_move reading s (move.Event (event.Piece c bytes)))
writes_of_move reading s (move.Event (event.Tick t)) =
    names_of_puts (signal_puts s.world.plant.ports 0 s.world.signals)
writes_of_move reading s m = []

abbrev pub is_accepted : Result Description DescriptionFault → Bool
is_accepted (Ok d) = true
is_accepted (Err fault) = false

abbrev pub is_accepted_reload : DescriptionReading → MachineState World Client → Move → Bool
is_accepted_reload reading s (move.Event (event.Reload bytes)) =
    is_accepted (reading bytes (length s.world.signals))
is_accepted_reload reading s m = false

-- What stands under a name changes between two moves only where an accepted write or control, or a
-- signal, writes it, or by an accepted reload.
abbrev pub ChangesOnlyByWrites : Type 0
ChangesOnlyByWrites = (reading : DescriptionReading)
    (s : MachineState World Client) (m : Move) (n : ByteName)
    → is_accepted_reload reading s m ≡ false
    → (IsAmong n (writes_of_move reading s m) → ⊥)
    → byte_at (state_after_move (server_step reading) s m).world.memory n
    ≡ byte_at s.world.memory n

-- what one put leaves: that byte, or that bit of it, and all else as it was
pub record PutsExactly (memory : List Block) (p : Put) : Type 0 where
  pub here : byte_at (memory_after_put memory p) (addressed_name p.place)
      ≡ option_map (byte_after p.place p.value) (byte_at memory (addressed_name p.place))
  pub elsewhere : (n : ByteName) → addressed_name p.place ≢ n
      → byte_at (memory_after_put memory p) n ≡ byte_at memory n

abbrev pub PutsAreExact : Type 0
PutsAreExact = (memory : List Block) (p : Put) → PutsExactly memory p

-- a byte in which one bit is put
pub record IsBitPut (bit value old new : ℕ) : Type 0 where
  pub here : bit_at new bit ≡ value
  pub others : (i : ℕ) → i ≢ bit → bit_at new i ≡ bit_at old i

-- A put of a bit, 0 for 0 and 1 for any other value, leaves the other bits of its byte.
abbrev pub PutsBits : Type 0
PutsBits = (memory : List Block) (n : ByteName) (bit value byte : ℕ) → byte_at memory n ≡ Some byte
    → (new : ℕ) × (byte_at (memory_after_put memory (record { place = OneBit n bit; value = value })) n ≡ Some new)
    × IsBitPut bit (min value 1) byte new

-- what a write of bytes to the first ones of a place leaves
pub record WritesPlace (port : ℕ) (place : Place) (bytes : List ℕ) (old new : List Block) : Type 0 where
  -- they fit the place
  pub fits : length bytes ≤ place.len
  -- they stand there, where bytes stood there before
  pub written : Each (λ n. byte_at old n ≢ None) (names_of_place port place (length bytes))
      → values_at new (map WholeByte (names_of_place port place (length bytes))) ≡ bytes
  -- all else stays
  pub others : (n : ByteName) → (IsAmong n (names_of_place port place (length bytes)) → ⊥)
      → byte_at new n ≡ byte_at old n

-- An accepted write by a live handle writes the first bytes of its place.
abbrev pub WritesByHandle : Type 0
WritesByHandle = (d : Setup) (c : Client) (k : Asker) (handle : ℕ) (place : Place)
    (bytes : List ℕ) (access : Access) (memory : List Block)
    → kept_status c.handles handle k.port.number ≡ Live place
    → act_of d c k (Write value_by_handle handle bytes) ≡ Allowed access
    → WritesPlace k.port.number place bytes memory (memory_after_puts memory access.writes)
