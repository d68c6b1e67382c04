-- A payload that was seen to be whole. No public clause cites this.
use Rattle.std.specs.Prelude.{◌≡◌, ◌≤◌, ℕ, List, length, drop, IsSome, option_map}
use Rattle.spec_formats.specs.NotificationReading.{notification_of}
use Rattle.notify_frames.specs.Notes.{left_in, samples_in}

-- the payload is a notification, whose samples are those of so many stamps behind its first eight bytes
pub record IsWhole (payload : List ℕ) (stamps : ℕ) : Type 0 where
  pub long : 8 ≤ length payload
  pub found : IsSome (left_in 0 0 stamps (drop 8 payload))
  pub samples : left_in 0 0 stamps (drop 8 payload) ≡ option_map samples_in (notification_of payload)
