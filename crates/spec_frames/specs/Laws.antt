-- The laws of numbers, of frames and of the division of a stream, which the public functions ensure.
use Rattle.std.specs.Prelude.{◌≡◌, ◌↔◌, ℕ, ◌^◌, ◌<◌, List, ◌++◌, length}
use Rattle.std.specs.Int.{w16, w32, w64, to_le_bytes, from_le_bytes}
use Rattle.spec_frames.specs.Number.{number_of}
use Rattle.spec_frames.specs.Frame.{IsAmsPacket, frame_bytes, IsOpenText, IsBrokenText}
use Rattle.spec_frames.specs.Division.{Divides, Whole, Open, Broken, front_of, frames_of, rest_of}

-- two, four and eight bytes have the number that Rust's `from_le_bytes` reads
pub record ReadsNumbers (bytes : List ℕ) : Type 0 where
  pub two : length bytes ≡ 2 → number_of bytes ≡ from_le_bytes w16 bytes
  pub four : length bytes ≡ 4 → number_of bytes ≡ from_le_bytes w32 bytes
  pub eight : length bytes ≡ 8 → number_of bytes ≡ from_le_bytes w64 bytes

-- the bytes that Rust's `to_le_bytes` writes have this number
pub record WritesNumbers (n : ℕ) : Type 0 where
  pub two : n < 2 ^ 16 → number_of (to_le_bytes w16 n) ≡ n
  pub four : n < 2 ^ 32 → number_of (to_le_bytes w32 n) ≡ n
  pub eight : n < 2 ^ 64 → number_of (to_le_bytes w64 n) ≡ n

-- Rust's `to_le_bytes` writes 2, 4 and 8 bytes
pub record HasWidths (n : ℕ) : Type 0 where
  pub two : length (to_le_bytes w16 n) ≡ 2
  pub four : length (to_le_bytes w32 n) ≡ 4
  pub eight : length (to_le_bytes w64 n) ≡ 8

-- two, four and eight bytes are those that Rust's `to_le_bytes` writes of their number
pub record WritesBack (bytes : List ℕ) : Type 0 where
  pub two : length bytes ≡ 2 → to_le_bytes w16 (number_of bytes) ≡ bytes
  pub four : length bytes ≡ 4 → to_le_bytes w32 (number_of bytes) ≡ bytes
  pub eight : length bytes ≡ 8 → to_le_bytes w64 (number_of bytes) ≡ bytes

-- a text that begins with a whole frame
pub record BeginsWithFrame (text : List ℕ) : Type 0 where
  pub ams : List ℕ
  pub behind : List ℕ
  pub packet : IsAmsPacket ams
  pub is : text ≡ frame_bytes ams ++ behind

-- what is computed of the front of a text is what stands there
pub record HasFront (text : List ℕ) : Type 0 where
  pub whole : (front_of text ≡ Whole) ↔ BeginsWithFrame text
  pub open_ : (front_of text ≡ Open) ↔ IsOpenText text
  pub broken : (front_of text ≡ Broken) ↔ IsBrokenText text

-- `frames_of` and `rest_of` are a division of the stream, and there is no other
pub record HasOneDivision (stream : List ℕ) : Type 0 where
  pub one : Divides stream (frames_of stream) (rest_of stream)
  pub no_other : (packets : List (List ℕ)) (rest : List ℕ) → Divides stream packets rest
      → (packets ≡ frames_of stream) × (rest ≡ rest_of stream)

-- appended bytes change no frame that is there, and frames and rest behind it are those of the old rest
-- with the new bytes: so the division does not hang on the pieces in which a stream comes
pub record Grows (stream more : List ℕ) : Type 0 where
  pub frames : frames_of (stream ++ more) ≡ frames_of stream ++ frames_of (rest_of stream ++ more)
  pub rest : rest_of (stream ++ more) ≡ rest_of (rest_of stream ++ more)
