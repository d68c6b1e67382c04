-- The values of the signals that a configuration names. This project's own choice.
use Rattle.std.specs.Prelude.{◌≡◌, ℕ, zero, suc, ◌+◌, ◌*◌, ◌<◌, List, [], ◌∷◌, ◌++◌, length, map, replicate}
use Rattle.std.specs.List.{range_with_len}
use Rattle.signals.specs.Wave.{Wave, wave_after_step}
use Rattle.daemon_words.specs.declared.signal_table.SignalTable.{SignalTable}
use Rattle.daemon_words.specs.declared.signal_table.SignalTable.TheVariants.{Ramp, Square, Values, File, Recording}

-- 0, the step, twice the step, .., as many as the period
unfoldable pub ramp_values : ℕ → ℕ → List ℕ
ramp_values step period = map (λ n. step * n) (range_with_len 0 period)

-- one value and then another, each as often as there are ticks
unfoldable pub square_values : ℕ → ℕ → ℕ → List ℕ
square_values low high ticks = replicate ticks low ++ replicate ticks high

-- a wave with these values, at the first
abbrev pub wave_of : List ℕ → Wave
wave_of vs = record { values = vs; place = 0 }

-- the wave after so many steps
abbrev pub wave_after : ℕ → Wave → Wave
wave_after zero w = w
wave_after (suc t) w = wave_after_step (wave_after t w)

-- a wave that is at its first value
abbrev pub starts : Wave → Type 0
starts w = w.place ≡ 0

-- a wave is what a table says; of a file and of a recording it is said that it begins at the first value
abbrev pub IsPlayed : SignalTable → Wave → Type 0
IsPlayed (Ramp t) w = w ≡ wave_of (ramp_values t.step t.period)
IsPlayed (Square t) w = w ≡ wave_of (square_values t.low t.high t.ticks)
IsPlayed (Values t) w = w ≡ wave_of t.values
IsPlayed (File name) w = starts w
IsPlayed (Recording t) w = starts w

-- waves are what tables say, one each, in their order
unfoldable pub ArePlayed : List SignalTable → List Wave → Type 0
ArePlayed [] [] = Unit {0}
ArePlayed [] (w ∷ ws) = ⊥
ArePlayed (t ∷ ts) [] = ⊥
ArePlayed (t ∷ ts) (w ∷ ws) = IsPlayed t w × ArePlayed ts ws
