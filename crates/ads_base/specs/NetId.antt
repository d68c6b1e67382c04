-- The text of an AMS NetId: its six bytes in decimal, joined by full stops.
-- Beckhoff Information System, "AMS NetId".
use Rattle.std.specs.Prelude.{◌≡◌, ◌<◌, ℕ, List, length, map, slice_index}
use Rattle.std.specs.List.{join_with_byte}
use Rattle.std.specs.Fmt.{decimal}

-- six bytes
pub record IsNetId (bytes : List ℕ) : Type 0 where
  pub six : length bytes ≡ 6
  pub are_bytes : (k : ℕ) → slice_index bytes k < 256

-- the text of a NetId; 46 is the full stop
abbrev pub net_text : List ℕ → List ℕ
net_text bytes = join_with_byte 46 (map decimal bytes)
