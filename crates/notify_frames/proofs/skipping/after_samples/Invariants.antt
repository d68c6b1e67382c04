use Rattle.std.proofs.Common.{◌≡◌, ◌-◌}
use Rattle.std.specs.Prelude.{option_map}
use Rattle.spec_formats.specs.NotificationReading.{samples_of}
use Rattle.notify_frames.proofs.skipping.after_samples.Given as goal

-- what stands behind those that are left stands behind all
abbrev pub invariant-loop : goal.invariant-loop
invariant-loop l = option_map (λ x. x.1) (samples_of (l.count - l.counter) l.rest) ≡ option_map (λ x. x.1) (samples_of l.count l.bytes)
