-- The steps of a search that halves what is left.
use Rattle.std.proofs.Common.{◌≡◌, ℕ, ◌+◌, ◌*◌, ◌-◌, ◌<◌, ◌≤◌, max, arith}
use Rattle.std.specs.Prelude.{◌^◌}
use Rattle.std.proofs.Common.{mul_assoc, mul-le-mul_left}
use Rattle.std.proofs.Math.Nat.{mul-le-mul_right}
use Rattle.std.proofs.Math.Pow.{pow_mono}
use Rattle.std.proofs.lemmas.Nat.{pow-add}

-- p is 2 to the steps made so far, k what is left, and n the whole
abbrev pub Costs : ℕ → ℕ → ℕ → Type 0
Costs p k n = p * max 1 (2 * k) ≤ max 1 (2 * n)

halves : (p k j n : ℕ) → 0 < k → 2 * j ≤ k → Costs p k n → Costs (p * 2) j n
halves p k j n some half h =
    let a : 2 * max 1 (2 * j) ≤ max 1 (2 * k) = omega arith in
    let b = mul-le-mul_left p a in
    let e : p * 2 * max 1 (2 * j) ≡ p * (2 * max 1 (2 * j)) = mul_assoc p 2 (max 1 (2 * j)) in
    omega (arith, e, b, h)

-- the power of at most one step more
one_more : (old before now : ℕ) → old ≤ before → now ≤ before + 1 → 2 ^ (now - old) ≤ 2 ^ (before - old) * 2
one_more old before now rises step =
    let e : now - old ≤ before - old + 1 = omega (arith, rises, step) in
    let power : 2 ^ (before - old + 1) ≡ 2 ^ (before - old) * 2 = pow-add 2 (before - old) 1 in
    omega (arith, pow_mono e, power)

-- at most one step more, after which at most half is left
pub step_halves : (old before now k j n : ℕ) → old ≤ before → now ≤ before + 1
    → 0 < k → 2 * j ≤ k → Costs (2 ^ (before - old)) k n → Costs (2 ^ (now - old)) j n
step_halves old before now k j n rises step some half h =
    let b = mul-le-mul_right (max 1 (2 * j)) (one_more old before now rises step) in
    omega (arith, b, halves (2 ^ (before - old)) k j n some half h)

-- the last step
pub last_step : (old before now k n : ℕ) → old ≤ before → now ≤ before + 1 → 0 < k → Costs (2 ^ (before - old)) k n → 2 ^ (now - old) ≤ 2 * (n + 1)
last_step old before now k n rises step some h =
    let two : 2 ≤ max 1 (2 * k) = omega (arith, some) in
    let b = mul-le-mul_left (2 ^ (before - old)) two in
    let e = one_more old before now rises step in
    omega (arith, b, e, h)
