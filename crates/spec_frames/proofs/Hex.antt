-- Bytes written as hexadecimal text, with spaces where they help the reader: for worked examples.
use Rattle.std.specs.Prelude.{ℕ, ◌+◌, ◌-◌, ◌*◌, List, [], ◌∷◌, nat_le, ◌==◌, if◌then◌else◌}

-- the value of a digit 0 to 9 or a to f
abbrev pub digit_value : ℕ → ℕ
digit_value b = if nat_le 97 b then b - 87 else b - 48

abbrev pub without_spaces : List ℕ → List ℕ
without_spaces [] = []
without_spaces (b ∷ bs) = if b == 32 then without_spaces bs else b ∷ without_spaces bs

abbrev pub pairs : List ℕ → List ℕ
pairs [] = []
pairs (a ∷ []) = []
pairs (a ∷ (b ∷ bs)) = (16 * digit_value a + digit_value b) ∷ pairs bs

-- the bytes of a text such as `codes "0000 20000000"`
abbrev pub hex : List ℕ → List ℕ
hex text = pairs (without_spaces text)
