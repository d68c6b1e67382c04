-- Beats of 10 ms by the steady clock, counted from the start, and the moments of their ticks, in 100 ns since 1 January
-- 1601. This project's own choice: a tick's moment lies a whole number of beats behind the start's, and moments never fall.
use Rattle.std.specs.Prelude.{ℕ, ◌≡◌, ◌<◌, ◌+◌, ◌-◌, ◌*◌, ◌/◌, ◌%◌, ◌^◌, min, max, Bool, nat_lt, ◌&&◌, if◌then◌else◌}
use Rattle.ads_edge.specs.declared.beats.Beats.{Beats}
use Rattle.ads_edge.specs.declared.beats.TheConstants.{BEAT, SLACK, REST}

-- the moment so many beats later; it stands still at its type's end
abbrev pub later_by : ℕ → ℕ → ℕ
later_by moment beats = min (moment + min (beats * BEAT) (2 ^ 64 - 1)) (2 ^ 64 - 1)

-- the moment, brought forward by whole beats where the wall clock is more than a second ahead of it
abbrev pub followed : ℕ → ℕ → ℕ
followed moment wall = if nat_lt SLACK (wall - moment) then wall - (wall - moment) % BEAT else moment

-- one beat of a hundred rests while the last moment is more than a second ahead of the wall clock
abbrev pub rests : Beats → ℕ → ℕ → Bool
rests b beat wall = nat_lt SLACK (b.moment - wall) && nat_lt (b.beat / REST) (beat / REST)

-- by how many beats the moment goes on when this beat is come to
abbrev pub gained : Beats → ℕ → ℕ → ℕ
gained b beat wall = if rests b beat wall then beat - b.beat - 1 else beat - b.beat

-- the moment of the tick when this beat is come to
abbrev pub moment_at : Beats → ℕ → ℕ → ℕ
moment_at b beat wall = followed (later_by b.moment (gained b beat wall)) wall

-- the beats after this one was come to
abbrev pub after : Beats → ℕ → ℕ → Beats
after b beat wall = record {
  beat = max b.beat beat;
  moment = if nat_lt 0 (gained b beat wall) then moment_at b beat wall else b.moment;
}

-- a moment lies a whole number of beats behind another, at least one, unless it is the last of all
abbrev pub IsBeatsAfter : ℕ → ℕ → Type 0
IsBeatsAfter before moment = moment < 2 ^ 64 - 1 → (n : ℕ) × (0 < n) × (moment ≡ before + n * BEAT)
