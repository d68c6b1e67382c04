-- For private contracts, and cited by no public clause: a port whose bytes are written, and who may write a symbol of the table.
use Rattle.std.specs.Prelude.{ℕ, ◌+◌, List, length, min, Bool, true, not, ◌&&◌, ◌||◌, ◌==◌, bytes_eq, slice_get}
use Rattle.std.specs.List.{list_any}
use Rattle.std.specs.Option.{option_map_or}
use Rattle.spec_plant.specs.Description.{Area}
use Rattle.spec_plant.specs.World.{with_nth_byte}
use Rattle.spec_machine.specs.Access.{with_bit}
use Rattle.spec_machine.specs.PortBytes.{start_in, with_image_bytes}
use Rattle.symbol_table.specs.Tables.{TableSymbol}
use Rattle.port_device.specs.PortMemory.{PortMemory}

-- a port with another image
abbrev pub with_image : PortMemory → List ℕ → PortMemory
with_image m image = let b = m.bytes in record m { bytes = record b { image = image } }

-- bytes are put into an area
abbrev pub with_bytes_at : PortMemory → Area → ℕ → List ℕ → PortMemory
with_bytes_at m area offset bytes = with_image m (with_image_bytes m.table.sizes m.bytes.image area offset bytes)

-- a bit of a byte of an area is cleared by 0, and set by any other value
abbrev pub with_bit_at : PortMemory → Area → ℕ → ℕ → ℕ → PortMemory
with_bit_at m area offset bit value =
    with_image m (with_nth_byte m.bytes.image (start_in m.table.sizes area + offset) (with_bit bit (min value 1)))

-- the state words are set
abbrev pub with_states : PortMemory → ℕ → ℕ → PortMemory
with_states m ads device = let b = m.bytes in record m { bytes = record b { ads = ads; device = device } }

-- whether a machine of this NetId may write a symbol
abbrev pub is_writable_row : List ℕ → TableSymbol → Bool
is_writable_row net s = not s.read_only && ((length s.writers == 0) || list_any (bytes_eq net) s.writers)

-- whether it may write the symbol with this number
abbrev pub is_writable_number : List ℕ → List TableSymbol → ℕ → Bool
is_writable_number net symbols n = option_map_or (is_writable_row net) (slice_get symbols n) true
