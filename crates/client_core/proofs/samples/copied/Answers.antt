use Rattle.std.proofs.Common.{◌≡◌, List, ℕ, ap}
use Rattle.spec_client.specs.Heard.{StampedSample}
use Rattle.notify_frames.specs.Samples.{sample_meant}
use Rattle.client_core.specs.Samples.{stamped}
use Rattle.client_core.proofs.SamplesCopied.{copied_step}
use Rattle.client_core.proofs.samples.copied.Goals as goal

pub loop-time-preserved : goal.loop-time-preserved
loop-time-preserved c =
    let made : List ℕ → StampedSample = λ bs. record { time = c.in-Some.time; sample = record { handle = c.in-Some.sample.handle; bytes = bs } } in
    let same : made c.in_ok-bytes.bytes ≡ stamped (c.in-Some.time, sample_meant c.in-Some.sample) = ap made c.in_ok-bytes.ensures in
    copied_step c.loop-time.samples.items c.push_back.new.self.items c.loop-time.notes c.next.new.self _ (c.in-Some.time, sample_meant c.in-Some.sample)
    (made c.in_ok-bytes.bytes) c.loop-time.invariant c.in-Some.ensures.next same c.in_ok-push_back.ensures.items
