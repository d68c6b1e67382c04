-- What a reload makes of what is watched, where the whole places of the kept symbols and the numbers of the new ports are known.
use Rattle.std.specs.Prelude.{ℕ, List, Bool, not, is_some, Option, None, option_map}
use Rattle.spec_plant.specs.Description as plant
use Rattle.spec_formats.specs.Header.{AmsAddress}
use Rattle.spec_formats.specs.Ranges.{Range, Bytes, Bit, Size}
use Rattle.spec_machine.specs.Watches.{Watch}
use Rattle.spec_machine.specs.WatchedRanges.{Watched, InArea, Own, kept_own}
use Rattle.type_layout.specs.Descriptions.{area_of}
use Rattle.type_layout.specs.declared.port.Area.{Area}
use Rattle.type_layout.specs.declared.port.Area.TheVariants as area
use Rattle.symbol_table.specs.declared.kept.KeptPlace.{KeptPlace}
use Rattle.symbol_table.specs.Moves.{moved_span}
use Rattle.notify_table.specs.declared.spec.Ended.{Ended}
use Rattle.notify_table.specs.Specs.{address_of}

-- the value of an area
abbrev pub value_of_area : plant.Area → Area
value_of_area plant.Inputs = area.Inputs
value_of_area plant.Outputs = area.Outputs
value_of_area plant.Memory = area.Memory
value_of_area plant.Process = area.Process

abbrev pub bytes_at : ℕ → Area × ℕ → Range
bytes_at len first = Bytes (area_of first.0) first.1 len

abbrev pub bit_at : ℕ → Area × ℕ → Range
bit_at bit byte = Bit (area_of byte.0) byte.1 bit

-- where bytes or a bit lie after the reload: all its bytes, or the byte of its bit, are of one kept
-- symbol; else nowhere
abbrev pub range_after : List KeptPlace → ℕ → Range → Option Range
range_after kept port (Bytes area offset len) =
    option_map (bytes_at len) (moved_span kept port (value_of_area area) offset len)
range_after kept port (Bit area offset bit) =
    option_map (bit_at bit) (moved_span kept port (value_of_area area) offset 1)
range_after kept port (Size area) = None

-- what is watched after the reload, where the new ports have these numbers
abbrev pub watched_after : List KeptPlace → List ℕ → ℕ → Watched → Option Watched
watched_after kept numbers port (InArea range) = option_map InArea (range_after kept port range)
watched_after kept numbers port (Own first len) = kept_own numbers port first len

-- what is told of a notification that ended
pub record EndedWatch : Type 0 where
  pub handle : ℕ
  pub port : ℕ
  pub address : AmsAddress

abbrev pub end_of : Watch Watched → EndedWatch
end_of w = record { handle = w.handle; port = w.port; address = w.address }

abbrev pub ended_meant : Ended → EndedWatch
ended_meant e = record { handle = e.handle; port = e.port; address = address_of e.to }

-- a reload ends the notification
abbrev pub is_ended : List KeptPlace → List ℕ → Watch Watched → Bool
is_ended kept numbers w = not (is_some (watched_after kept numbers w.port w.watched))
