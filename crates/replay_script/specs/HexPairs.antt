-- What digits are worth in a pair, as tables have it. No public clause cites it.
use Rattle.std.specs.Prelude.{ℕ, ◌+◌, ◌*◌, Option, Some, None}
use Rattle.hex.specs.Hex.{hex_digit_value}

-- so many times the value of a digit, or 256 where there is none
abbrev pub times_or_mark : ℕ → Option ℕ → ℕ
times_or_mark times None = 256
times_or_mark times (Some value) = times * value

-- what a byte is worth as a digit that counts so many times
unfoldable pub worth : ℕ → ℕ → ℕ
worth times c = times_or_mark times (hex_digit_value c)

-- what a pair is worth: its byte, or 256 and more where one of them is no digit
abbrev pub pair_sum : ℕ → ℕ → ℕ
pair_sum first second = worth 16 first + worth 1 second
