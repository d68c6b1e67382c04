-- Reading a notification's payload from left to right.
use Rattle.std.specs.Prelude.{ℕ, zero, suc, ◌+◌, List, [], ◌∷◌, length, take, drop, Option, Some, None, nat_lt, ◌==◌, ◌||◌, if◌then◌else◌}
use Rattle.std.specs.Option.{option_and_then}
use Rattle.spec_formats.specs.Numbers.{number32, number64}
use Rattle.spec_formats.specs.Notification.{Sample, Stamp}

-- the first sample, and the bytes after it
unfoldable pub sample_of : List ℕ → Option (Sample × List ℕ)
sample_of bytes = let end = 8 + number32 4 bytes in
    if nat_lt (length bytes) end then None
    else Some (record { handle = number32 0 bytes; bytes = take (number32 4 bytes) (drop 8 bytes) }, drop end bytes)

-- so many samples, and the bytes after them
unfoldable pub samples_of : ℕ → List ℕ → Option (List Sample × List ℕ)
samples_of zero bytes = Some ([], bytes)
samples_of (suc n) bytes =
    option_and_then (λ first. option_and_then (λ others. Some (first.0 ∷ others.0, others.1)) (samples_of n first.1))
    (sample_of bytes)

-- the first stamp, and the bytes after it
unfoldable pub stamp_of : List ℕ → Option (Stamp × List ℕ)
stamp_of bytes =
    if nat_lt (length bytes) 12 then None
    else option_and_then (λ samples. Some (record { time = number64 0 bytes; samples = samples.0 }, samples.1))
    (samples_of (number32 8 bytes) (drop 12 bytes))

-- so many stamps, and the bytes after them
unfoldable pub stamps_of : ℕ → List ℕ → Option (List Stamp × List ℕ)
stamps_of zero bytes = Some ([], bytes)
stamps_of (suc n) bytes =
    option_and_then (λ first. option_and_then (λ others. Some (first.0 ∷ others.0, others.1)) (stamps_of n first.1))
    (stamp_of bytes)

-- the stamps of a notification, of all of the bytes
unfoldable pub notification_of : List ℕ → Option (List Stamp)
notification_of payload =
    if nat_lt (length payload) 8 then None
    else if (number32 0 payload + 4 == length payload) || (number32 0 payload == length payload)
    then option_and_then (λ stamps. if length stamps.1 == 0 then Some stamps.0 else None)
    (stamps_of (number32 4 payload) (drop 8 payload))
    else None
