-- Frames of AMS/TCP: two reserved bytes, the length of the AMS packet, and the AMS packet.
-- Beckhoff Information System, "AMS/TCP Packet", AMS/TCP header.
use Rattle.std.specs.Prelude.{◌≡◌, ◌⊎◌, ℕ, ◌+◌, ◌<◌, ◌≤◌, List, ◌∷◌, ◌++◌, length, take}
use Rattle.std.specs.Int.{w32, to_le_bytes}

-- an AMS packet: the AMS header of 32 bytes and its data.
-- This project's own choice: at most 2,097,152 bytes.
pub record IsAmsPacket (ams : List ℕ) : Type 0 where
  pub least : 32 ≤ length ams
  pub most : length ams ≤ 2097152

-- what stands before an AMS packet: reserved 2, length 4
abbrev pub header_bytes : List ℕ → List ℕ
header_bytes ams = 0 ∷ 0 ∷ to_le_bytes w32 (length ams)

-- the frame of an AMS packet
abbrev pub frame_bytes : List ℕ → List ℕ
frame_bytes ams = header_bytes ams ++ ams

-- a text that begins with the header of this AMS packet
abbrev pub Begins : List ℕ → List ℕ → Type 0
Begins text ams = IsAmsPacket ams × (take 6 text ≡ header_bytes ams)

-- a broken text: its first six bytes are those of no frame
pub record IsBrokenText (text : List ℕ) : Type 0 where
  pub six : 6 ≤ length text
  pub no_frame : (ams : List ℕ) → Begins text ams → ⊥

-- a frame that is not all there
pub record IsBegunFrame (text : List ℕ) : Type 0 where
  pub ams : List ℕ
  pub begins : Begins text ams
  pub short : length text < 6 + length ams

-- an open text: fewer than six bytes, whatever they are, or a frame that is not all there
abbrev pub IsOpenText : List ℕ → Type 0
IsOpenText text = (length text < 6) ⊎ IsBegunFrame text
