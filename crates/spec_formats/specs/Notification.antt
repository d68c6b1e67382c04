-- The payload of command 8: stamps, each with the samples of one moment.
-- Every number is little-endian. Beckhoff Information System, "ADS Device Notification".
use Rattle.std.specs.Prelude.{◌≡◌, ℕ, ◌+◌, ◌<◌, ◌^◌, List, ◌++◌, length, ◌⊎◌}
use Rattle.std.specs.List.{flat_map, AllByRecursion}
use Rattle.std.specs.Int.{w32, w64, to_le_bytes}

-- what one notification reports: its handle, and the bytes of its symbol
pub record Sample : Type 0 where
  pub handle : ℕ
  pub bytes : List ℕ

-- the samples of one moment, which counts 100 ns from 1 January 1601
pub record Stamp : Type 0 where
  pub time : ℕ
  pub samples : List Sample

-- handle 4, size 4, data
abbrev pub sample_bytes : Sample → List ℕ
sample_bytes s = to_le_bytes w32 s.handle ++ to_le_bytes w32 (length s.bytes) ++ s.bytes

-- time 8, number of samples 4, samples
abbrev pub stamp_bytes : Stamp → List ℕ
stamp_bytes s = to_le_bytes w64 s.time ++ to_le_bytes w32 (length s.samples)
    ++ flat_map sample_bytes s.samples

-- number of stamps 4, stamps
abbrev pub stamps_bytes : List Stamp → List ℕ
stamps_bytes stamps = to_le_bytes w32 (length stamps) ++ flat_map stamp_bytes stamps

-- length 4, of what follows it; number of stamps 4, stamps
abbrev pub notification_bytes : List Stamp → List ℕ
notification_bytes stamps = to_le_bytes w32 (length (stamps_bytes stamps)) ++ stamps_bytes stamps

-- each number fits its field
pub record FitsSample (s : Sample) : Type 0 where
  pub handle : s.handle < 2 ^ 32
  pub size : length s.bytes < 2 ^ 32

pub record FitsStamp (s : Stamp) : Type 0 where
  pub time : s.time < 2 ^ 64
  pub count : length s.samples < 2 ^ 32
  pub samples : AllByRecursion FitsSample s.samples

-- the payload is a text of these stamps, where the stated length may be four greater than it is
pub record IsNotificationPayload (payload : List ℕ) (stamps : List Stamp) : Type 0 where
  pub count : length stamps < 2 ^ 32
  pub fits : AllByRecursion FitsStamp stamps
  pub stated : ℕ
  pub stated_fits : stated < 2 ^ 32
  pub stated_length : (stated ≡ length (stamps_bytes stamps)) ⊎ (stated ≡ length (stamps_bytes stamps) + 4)
  pub whole : payload ≡ to_le_bytes w32 stated ++ stamps_bytes stamps
