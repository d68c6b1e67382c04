use Rattle.std.proofs.Common.{◌≡◌, ◌++◌, take}
use Rattle.std.specs.List.{flat_map}
use Rattle.ads_base.specs.Octets.{Extends}
use Rattle.spec_formats.specs.Notification.{sample_bytes}
use Rattle.notify_frames.specs.Samples.{samples_of}
use Rattle.notify_frames.proofs.writing.append_samples.Given as goal

-- the samples before this one are written
abbrev pub invariant-loop-sample : goal.invariant-loop-sample
invariant-loop-sample l = record {
  written : l.out ≡ l.initial.out ++ flat_map sample_bytes (samples_of (take l.sample-index l.samples));
  extends : Extends l.initial.out l.out;
}
