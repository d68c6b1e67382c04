-- Numbers in a payload, each little-endian and read at its place.
use Rattle.std.specs.Prelude.{ℕ, List, length, take, drop, Option, Some, None, ◌==◌, if◌then◌else◌}
use Rattle.std.specs.Int.{w16, w32, w64, from_le_bytes}
pub use Rattle.spec_frames.specs.Number.{AreBytes}

-- the number of 2 bytes at this place
abbrev pub number16 : ℕ → List ℕ → ℕ
number16 at bytes = from_le_bytes w16 (take 2 (drop at bytes))

-- the number of 4 bytes at this place
abbrev pub number32 : ℕ → List ℕ → ℕ
number32 at bytes = from_le_bytes w32 (take 4 (drop at bytes))

-- the number of 8 bytes at this place
abbrev pub number64 : ℕ → List ℕ → ℕ
number64 at bytes = from_le_bytes w64 (take 8 (drop at bytes))

-- the value, where the bytes have this length
abbrev pub at_length : {X : Type 0} → ℕ → List ℕ → X → Option X
at_length len bytes value = if length bytes == len then Some value else None
