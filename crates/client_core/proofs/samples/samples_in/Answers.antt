use Rattle.spec_formats.specs.NotificationReading.{notification_of}
use Rattle.client_core.proofs.SamplesCopied.{samples_found}
use Rattle.client_core.proofs.samples.samples_in.Goals as goal

pub returns : goal.returns
returns c = samples_found (notification_of c.args.payload.now) c.in-Some.notes c.in_ok-samples.samples.items c.in-Some.ensures.read c.in_ok-samples.ensures
