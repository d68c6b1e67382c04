-- When a trouble that lasts is told. This project's own choice.
use Rattle.std.specs.Prelude.{ℕ, ◌-◌, Bool, true, nat_le, Option, Some, None, if◌then◌else◌}

-- it is told at once, and again where so many ticks have passed since it was told last
abbrev pub is_due : Option ℕ → ℕ → ℕ → Bool
is_due None tick each = true
is_due (Some told) tick each = nat_le each (tick - told)

-- the tick at which it was told last, then
abbrev pub told_then : Option ℕ → ℕ → ℕ → Option ℕ
told_then told tick each = if is_due told tick each then Some tick else told
