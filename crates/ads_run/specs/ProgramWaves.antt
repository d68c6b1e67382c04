-- The waves of the signals that the program has, each at its beginning. This project's own choice.
use Rattle.std.specs.Prelude.{List, [], ◌∷◌, ◌++◌, replicate}
use Rattle.std.specs.List.{range_with_len}
use Rattle.signals.specs.Wave.{Wave}

-- the numbers from 0 to 999
abbrev pub ramp_wave : Wave
ramp_wave = record { values = range_with_len 0 1000; place = 0 }

-- ten times 0, then ten times 1
abbrev pub square_wave : Wave
square_wave = record { values = replicate 10 0 ++ replicate 10 1; place = 0 }

abbrev pub table_wave : Wave
table_wave = record { values = 3 ∷ 1 ∷ 4 ∷ 1 ∷ 5 ∷ 9 ∷ 2 ∷ 6 ∷ []; place = 0 }

-- in the order of their numbers
abbrev pub program_waves : List Wave
program_waves = ramp_wave ∷ square_wave ∷ table_wave ∷ []
