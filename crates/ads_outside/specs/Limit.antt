-- How long a file may be. This project's own choice.
use Rattle.std.specs.Prelude.{ℕ, length, ◌≤◌}
use Rattle.ads_outside.specs.declared.got.Got.{Got}
use Rattle.ads_outside.specs.declared.got.Got.TheVariants as got

-- the greatest length of a file that is read
abbrev pub file_limit : ℕ
file_limit = 16777216

-- bytes that are handed out are no more than that
abbrev pub IsWithinLimit : Got → Type 0
IsWithinLimit (got.Bytes bytes) = length bytes ≤ file_limit
IsWithinLimit got.TooLong = Unit {0}
IsWithinLimit got.Failed = Unit {0}
IsWithinLimit got.Memory = Unit {0}
