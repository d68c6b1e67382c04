-- The time of the steady clock in beats.
use Rattle.std.specs.Prelude.{ℕ, ◌+◌, ◌-◌, ◌*◌, ◌/◌, ◌%◌, ◌^◌, min, nat_lt, if◌then◌else◌}
use Rattle.std.specs.Time.{instant_nanos}
use Rattle.std.specs.declared.time.Instant.{Instant}
use Rattle.ads_edge.specs.declared.tick_clock.TickClock.{TickClock}

-- the nanoseconds since the clock's start; they stand still after 584 years
abbrev pub since : TickClock → Instant → ℕ
since clock now = min (instant_nanos now - instant_nanos clock.start) (2 ^ 64 - 1)

-- the beat after so many nanoseconds
abbrev pub beat_of : ℕ → ℕ
beat_of nanos = nanos / 10_000_000

-- the nanoseconds from a time till the next beat: none where one is due
abbrev pub left_at : TickClock → Instant → ℕ
left_at clock now = if nat_lt clock.beats.beat (beat_of (since clock now)) then 0 else 10_000_000 - since clock now % 10_000_000

-- the nanoseconds of a time that comes so much later, where a clock can tell it
abbrev pub later_than : ℕ → ℕ → ℕ
later_than time by = if nat_lt (time + by) (2 ^ 63 * 1_000_000_000) then time + by else time
