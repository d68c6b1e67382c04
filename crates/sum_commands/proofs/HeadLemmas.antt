-- The heads of a sum, taken one by one.
use Rattle.std.proofs.Common.{◌≡◌, ℕ, suc, ◌+◌, ◌*◌, ◌≤◌, List, drop, length, sum, ap, ◌∙◌, arith, length-drop}
use Rattle.std.proofs.Math.Nat.{mul-suc}
use Rattle.std.proofs.lemmas.List.Sums.{sum_by-cons}
use Rattle.spec_formats.specs.Numbers.{number32}
use Rattle.spec_machine.specs.Sums.{numbers_of_heads}

pub numbers-step : (m k width at : ℕ) (heads : List ℕ) → m ≡ suc k
    → sum (numbers_of_heads m width at heads)
    ≡ number32 at heads + sum (numbers_of_heads k width at (drop width heads))
numbers-step m k width at heads e =
    ap (λ x. sum (numbers_of_heads x width at heads)) e
    ∙ sum_by-cons (λ x. x) (number32 at heads) (numbers_of_heads k width at (drop width heads))

-- one more of a width
pub times-step : (m k width : ℕ) → m ≡ suc k → width * m ≡ width * k + width
times-step m k width e = ap (λ x. width * x) e ∙ mul-suc width k

-- the first head is there, and the others behind it
pub record HasHead (width k : ℕ) (heads : List ℕ) : Type 0 where
  pub head : width ≤ length heads
  pub behind : width * k ≤ length (drop width heads)

pub heads-step : (m k width : ℕ) (heads : List ℕ) → m ≡ suc k → width * m ≤ length heads
    → HasHead width k heads
heads-step m k width heads e there =
    let all = times-step m k width e in
    record { head = omega arith; behind = omega (arith, length-drop width heads) }
