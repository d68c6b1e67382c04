-- A put of a bit leaves the other bits of its byte.
use Rattle.std.proofs.Common.{◌≡◌, ◌≢◌, ℕ, zero, suc, ◌+◌, ◌-◌, ◌*◌, ◌/◌, ◌%◌, ◌^◌, ◌<◌, ◌≤◌, refl, sym, ◌∙◌, ap, arith}
use Rattle.std.specs.Prelude.{min, option_map}
use Rattle.std.specs.Int.{bit_at}
use Rattle.std.proofs.lemmas.Nat.Bits.{bit_at-suc, bit_at_lowest}
use Rattle.std.proofs.lemmas.Nat.{div-mul-add, mod-mul-add}
use Rattle.std.proofs.Math.Nat.{div-mul-le_self, div-one, min-le_right, mod-le, mod-lt, mod-add-div', mul-le-mul_right, pow-suc}
use Rattle.spec_machine.specs.Access.{OneBit, with_bit, byte_after}
use Rattle.spec_laws.specs.ExactWrites.{PutsBits}
use Rattle.spec_laws.proofs.Memory.{byte_at-same}

-- a number is twice its half, and its lowest bit
halves : (n : ℕ) → n ≡ (n / 2) * 2 + n % 2
halves n = let e = mod-add-div' n 2 in omega (arith, e)

lowest : (n : ℕ) → n % 2 < 2
lowest n = mod-lt n (let l : 0 < 2 = omega arith in l)

-- the lowest bit is put
with_bit-zero : (v n : ℕ) → with_bit 0 v n ≡ (n / 2) * 2 + v
with_bit-zero v n =
    let e = halves n in
    ap (λ (m : ℕ). (n - m % 2 * 1) + v * 1) (div-one n) ∙ omega (arith, e)

-- a higher bit is put into the half
with_bit-suc : (k v n : ℕ) → with_bit (suc k) v n ≡ with_bit k v (n / 2) * 2 + n % 2
with_bit-suc k v n =
    let q = n / 2 in
    let b = bit_at q k in
    let within : b * 2 ^ k ≤ q = (
    let small = mul-le-mul_right (2 ^ k) (mod-le (q / 2 ^ k) 2) in
    let all = div-mul-le_self q (2 ^ k) in
    omega (arith, small, all)
    ) in
    let e = halves n in
    ap (λ (m : ℕ). (n - m * 2 ^ suc k) + v * 2 ^ suc k) (bit_at-suc n k)
    ∙ ap (λ (m : ℕ). (n - b * m) + v * m) (pow-suc 2 k)
    ∙ products n q (b * 2 ^ k) (v * 2 ^ k) (n % 2) b v (2 ^ k) e within refl refl
  where
    products : (n q x y r b v p : ℕ) → n ≡ q * 2 + r → x ≤ q → x ≡ b * p → y ≡ v * p → (n - b * (p * 2)) + v * (p * 2) ≡ ((q - x) + y) * 2 + r
    products n q x y r b v p e l s t = omega (arith, e, l, s, t)

half_of : (k v n : ℕ) → with_bit (suc k) v n / 2 ≡ with_bit k v (n / 2)
half_of k v n = ap (λ (m : ℕ). m / 2) (with_bit-suc k v n) ∙ div-mul-add (with_bit k v (n / 2)) 2 (n % 2) (lowest n)

bit_put-here : (k v n : ℕ) → v < 2 → bit_at (with_bit k v n) k ≡ v
bit_put-here zero v n l = ap (λ (m : ℕ). bit_at m 0) (with_bit-zero v n) ∙ bit_at_lowest ((n / 2) * 2 + v) ∙ mod-mul-add (n / 2) 2 v l
bit_put-here (suc k) v n l = bit_at-suc (with_bit (suc k) v n) k ∙ ap (λ (m : ℕ). bit_at m k) (half_of k v n) ∙ bit_put-here k v (n / 2) l

bit_put-others : (k v n i : ℕ) → v < 2 → i ≢ k → bit_at (with_bit k v n) i ≡ bit_at n i
bit_put-others zero v n zero l ne = absurd (ne refl)
bit_put-others zero v n (suc i) l ne =
    bit_at-suc (with_bit 0 v n) i ∙ ap (λ (m : ℕ). bit_at (m / 2) i) (with_bit-zero v n)
    ∙ ap (λ (m : ℕ). bit_at m i) (div-mul-add (n / 2) 2 v l) ∙ sym (bit_at-suc n i)
bit_put-others (suc k) v n zero l ne =
    ap (λ (m : ℕ). bit_at m 0) (with_bit-suc k v n) ∙ bit_at_lowest (with_bit k v (n / 2) * 2 + n % 2)
    ∙ mod-mul-add (with_bit k v (n / 2)) 2 (n % 2) (lowest n) ∙ sym (bit_at_lowest n)
bit_put-others (suc k) v n (suc i) l ne =
    bit_at-suc (with_bit (suc k) v n) i ∙ ap (λ (m : ℕ). bit_at m i) (half_of k v n)
    ∙ bit_put-others k v (n / 2) i l (λ e. ne (ap (λ (m : ℕ). suc m) e)) ∙ sym (bit_at-suc n i)

pub puts_bits : PutsBits
puts_bits memory n bit value byte e =
    let most = min-le_right value 1 in
    let below : min value 1 < 2 = omega (arith, most) in (
      with_bit bit (min value 1) byte,
      byte_at-same memory n (byte_after (OneBit n bit) value) ∙ ap (option_map (byte_after (OneBit n bit) value)) e,
      record { here = bit_put-here bit (min value 1) byte below; others = λ i ne. bit_put-others bit (min value 1) byte i below ne },
    )
