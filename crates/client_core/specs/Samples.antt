-- The samples of a notification as the client keeps them. No public clause cites this file.
use Rattle.std.specs.Prelude.{ℕ}
use Rattle.spec_formats.specs.Notification.{Sample}
use Rattle.spec_client.specs.Heard.{StampedSample}

abbrev pub stamped : ℕ × Sample → StampedSample
stamped x = record { time = x.0; sample = x.1 }
