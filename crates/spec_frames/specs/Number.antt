-- Little-endian numbers, as every number of AMS/TCP, AMS and ADS is written.
use Rattle.std.specs.Prelude.{ℕ, ◌+◌, ◌-◌, ◌*◌, ◌<◌, List, [], ◌∷◌, ◌++◌, length, replicate, slice_index}

-- the number of these bytes: the byte at place k, counted from 0, counts 256 ^ k
abbrev pub number_of : List ℕ → ℕ
number_of [] = 0
number_of (b ∷ bs) = b + 256 * number_of bs

-- each of these numbers is a byte; past its end a list reads as 0
abbrev pub AreBytes : List ℕ → Type 0
AreBytes bs = (k : ℕ) → slice_index bs k < 256

-- bytes that reach to this length at least: behind their end stand zeros
abbrev pub filled : ℕ → List ℕ → List ℕ
filled len bytes = bytes ++ replicate (len - length bytes) 0
