use Rattle.std.proofs.Common.{◌≡◌, ◌≤◌, ◌*◌, length, take}
use Rattle.std.specs.List.{flat_map}
use Rattle.spec_formats.specs.Notification.{sample_bytes}
use Rattle.notify_frames.specs.Samples.{samples_of}
use Rattle.notify_frames.proofs.writing.size_of.Given as goal

-- the bytes of the samples before this one
abbrev pub invariant-loop-sample : goal.invariant-loop-sample
invariant-loop-sample l = record {
  counted : l.size ≡ length (flat_map sample_bytes (samples_of (take l.sample-index l.samples)));
  bound : l.size ≤ 2056 * l.sample-index;
}
