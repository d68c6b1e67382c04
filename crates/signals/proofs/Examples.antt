-- Worked examples: a wave of three values, and two waves of which one is stepped.
use Rattle.std.specs.Prelude.{◌≡◌, [], ◌∷◌, refl}
use Rattle.signals.specs.Wave.{Wave, value_of, wave_after_step, waves_after_step}

abbrev three : Wave
three = record { values = 3 ∷ 1 ∷ 4 ∷ []; place = 1 }

abbrev at_its_end : Wave
at_its_end = record { values = 3 ∷ 1 ∷ 4 ∷ []; place = 2 }

value-three : value_of three ≡ 1
value-three = refl

after_step-three : wave_after_step three ≡ at_its_end
after_step-three = refl

after_step-at_its_end : wave_after_step at_its_end ≡ record { values = 3 ∷ 1 ∷ 4 ∷ []; place = 0 }
after_step-at_its_end = refl

one_stepped : waves_after_step 1 (three ∷ three ∷ []) ≡ three ∷ at_its_end ∷ []
one_stepped = refl
