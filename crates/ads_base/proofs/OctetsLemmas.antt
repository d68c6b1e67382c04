-- Bytes that were appended to begin with those that were there.
use Rattle.std.proofs.Common.{◌≡◌, ℕ, List, ◌++◌, length, take, ◌∙◌, ap, arith, length-append}
use Rattle.std.proofs.lemmas.List.{take_all, take-append-le}
use Rattle.ads_base.specs.Octets.{Extends}

pub Extends-same : (old new : List ℕ) → new ≡ old → Extends old new
Extends-same old new e = record {
  longer = omega (arith, ap length e);
  begins = ap (take (length old)) e ∙ take_all (length old) old (omega arith);
}

pub Extends-append : (old mid more new : List ℕ) → Extends old mid → new ≡ mid ++ more → Extends old new
Extends-append old mid more new before e = record {
  longer = omega (arith, before.longer, ap length e, length-append mid more);
  begins = ap (take (length old)) e ∙ (take-append-le (length old) mid more before.longer ∙ before.begins);
}
