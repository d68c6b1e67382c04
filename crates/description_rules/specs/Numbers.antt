-- For private contracts, and cited by no public clause: numbers in two's complement.
use Rattle.std.specs.Prelude.{ℕ, ◌-◌, ◌^◌, ℤ, pos, negsuc}

-- a number of 64 bits
abbrev pub unsigned_of : ℤ → ℕ
unsigned_of (pos n) = n
unsigned_of (negsuc n) = 2 ^ 64 - 1 - n
