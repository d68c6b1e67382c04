-- Descriptors that are used up, as Linux numbers its errors.
use Rattle.std.specs.Prelude.{ℤ, pos, Bool, false, ◌||◌, Option, Some, None}
use Rattle.std.specs.Ordering.{int_eq}

-- EMFILE: the process has as many as it may; ENFILE: the system has
abbrev pub are_used_up : Option ℤ → Bool
are_used_up None = false
are_used_up (Some number) = int_eq number (pos 24) || int_eq number (pos 23)
