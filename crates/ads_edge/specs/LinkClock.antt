-- The moments of a link, in 100 ns since 1 January 1601, by the steady clock.
use Rattle.std.specs.Prelude.{ℕ, ◌≡◌, ◌+◌, ◌-◌, ◌/◌, ◌^◌, min, max, Option, Some}
use Rattle.std.specs.Time.{instant_nanos}
use Rattle.std.specs.declared.time.Instant.{Instant}
use Rattle.ads_edge.specs.declared.link_clock.LinkClock.{LinkClock}

-- how many 100 ns have passed since the clock's start
abbrev pub since : LinkClock → Instant → ℕ
since clock now = min ((instant_nanos now - instant_nanos clock.start) / 100) (2 ^ 64 - 1)

-- the moment at a time of the steady clock; it stands still at its type's end
abbrev pub steady_moment : LinkClock → Instant → ℕ
steady_moment clock now = min (clock.moment + since clock now) (2 ^ 64 - 1)

-- a moment that the steady clock tells, from the clock that was started; it is the last one where that is later
pub record IsSteady (clock : Option LinkClock) (last moment : ℕ) : Type 0 where
  pub started : LinkClock
  pub starts : clock ≡ Some started
  pub time : Instant
  pub told : moment ≡ max (steady_moment started time) last
