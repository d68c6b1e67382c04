-- The samples of a notification in order, and what is left of them while they are given.
use Rattle.std.specs.Prelude.{ℕ, List, ◌++◌, map, Option, option_map, option_and_then}
use Rattle.std.specs.List.{flat_map}
use Rattle.spec_formats.specs.Notification.{Sample, Stamp, IsNotificationPayload}
use Rattle.spec_formats.specs.NotificationReading.{samples_of, stamps_of}

-- each sample with the moment of its stamp
abbrev pub timed : ℕ → List Sample → List (ℕ × Sample)
timed time samples = map (λ s. (time, s)) samples

-- the samples of all stamps, in order
abbrev pub samples_in : List Stamp → List (ℕ × Sample)
samples_in stamps = flat_map (λ s. timed s.time s.samples) stamps

-- so many samples of a stamp of this moment, and then those of so many stamps
unfoldable pub left_in : ℕ → ℕ → ℕ → List ℕ → Option (List (ℕ × Sample))
left_in time samples stamps bytes =
    option_and_then (λ x. option_map (λ y. timed time x.0 ++ samples_in y.0) (stamps_of stamps x.1)) (samples_of samples bytes)

-- no notification has this payload
abbrev pub IsNoNotification : List ℕ → Type 0
IsNoNotification payload = (stamps : List Stamp) → ¬ (IsNotificationPayload payload stamps)
