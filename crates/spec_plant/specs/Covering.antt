-- At which bytes of an area a symbol stands.
use Rattle.std.specs.Prelude.{ℕ, ◌+◌, Bool, ◌&&◌, nat_le, nat_lt}
use Rattle.spec_plant.specs.Description.{Area}
use Rattle.spec_plant.specs.World.{PlantSymbol, symbol_size, is_same_area}

-- whether the byte at an offset of an area is one of the `len` bytes of the area `own` from `first` on
abbrev pub is_byte_of : Area → ℕ → ℕ → Area → ℕ → Bool
is_byte_of own first len area offset =
    is_same_area own area && nat_le first offset && nat_lt offset (first + len)

-- whether a symbol stands at a byte of an area
abbrev pub covers : Area → ℕ → PlantSymbol → Bool
covers area offset s = is_byte_of s.area s.offset (symbol_size s) area offset
