-- What a signal is known by: a wave, and the place in it that the next step answers.
-- This project's own choice: the values that a simulated device sends, one a tick.
use Rattle.std.specs.Prelude.{ℕ, zero, suc, ◌+◌, ◌<◌, nat_lt, List, [], ◌∷◌, length, slice_index, if◌then◌else◌}

-- the values of a wave, in order, and a place in it
pub record Wave : Type 0 where
  pub values : List ℕ
  pub place : ℕ

-- a wave that is not empty, with a place in it
abbrev pub IsWave : Wave → Type 0
IsWave w = w.place < length w.values

-- the value at the place
abbrev pub value_of : Wave → ℕ
value_of w = slice_index w.values w.place

-- the place after a place, from the end to 0
abbrev pub place_after : ℕ → ℕ → ℕ
place_after place count = if nat_lt (place + 1) count then place + 1 else 0

-- the wave after a step
abbrev pub wave_after_step : Wave → Wave
wave_after_step w = record w { place = place_after w.place (length w.values) }

-- the waves after a step of the n-th, which leaves the others
abbrev pub waves_after_step : ℕ → List Wave → List Wave
waves_after_step n [] = []
waves_after_step zero (w ∷ ws) = wave_after_step w ∷ ws
waves_after_step (suc n) (w ∷ ws) = w ∷ waves_after_step n ws
