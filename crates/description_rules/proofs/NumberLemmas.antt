-- The bytes of a number of an enumeration.
use Rattle.std.proofs.Common.{◌≡◌, take, refl, ℤ, pos, negsuc}
use Rattle.std.specs.Int.{to_le_bytes, w64}
use Rattle.spec_plant.specs.Plain.{Kind, kind_size}
use Rattle.spec_plant.specs.Accepted.{number_bytes}
use Rattle.description_rules.specs.Numbers.{unsigned_of}

pub number_bytes-unsigned_of : (base : Kind) (n : ℤ) → number_bytes base n ≡ take (kind_size base) (to_le_bytes w64 (unsigned_of n))
number_bytes-unsigned_of base (pos n) = refl
number_bytes-unsigned_of base (negsuc n) = refl
