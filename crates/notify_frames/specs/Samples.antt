-- Which sample of the protocol a value of `OwnSample` or `Sample` is.
use Rattle.std.specs.Prelude.{ℕ, ◌≤◌, List, length, map, All}
use Rattle.notify_frames.specs.declared.samples.OwnSample.{OwnSample}
use Rattle.notify_frames.specs.declared.samples.Sample.{Sample}
use Rattle.spec_formats.specs.Notification as notification

abbrev pub sample_of : OwnSample → notification.Sample
sample_of s = record { handle = s.handle; bytes = s.bytes }

abbrev pub samples_of : List OwnSample → List notification.Sample
samples_of samples = map sample_of samples

abbrev pub sample_meant : Sample → notification.Sample
sample_meant s = record { handle = s.handle; bytes = s.bytes.now }

-- the stamp of one moment
abbrev pub stamp_of : ℕ → List OwnSample → notification.Stamp
stamp_of time samples = record { time = time; samples = samples_of samples }

-- at most 512 samples, each of at most 2,048 bytes
pub record IsWritable (samples : List OwnSample) : Type 0 where
  pub count : length samples ≤ 512
  pub sizes : All (λ s. length s.bytes ≤ 2048) samples
