-- A wave comes round: its place after t steps is t modulo its length.
use Rattle.std.proofs.Common.{◌≡◌, ◌⊎◌, inl, inr, ℕ, zero, suc, ◌+◌, ◌%◌, ◌<◌, ◌≤◌, List, length, refl, ap, sym, ◌∙◌, arith}
use Rattle.std.specs.Prelude.{nat_lt, slice_index}
use Rattle.std.proofs.Math.Nat.{add-mod-mod, mod-eq_of_lt, mod-lt, mod_self}
use Rattle.std.proofs.lemmas.Bool.{cases_Bool, cond-true, cond-false, ltb-true, ltb-false}
use Rattle.signals.specs.Wave.{Wave, value_of, place_after, wave_after_step}
use Rattle.daemon_signals.specs.Values.{wave_of, wave_after}

-- the remainder of the next number
next_mod : (t n : ℕ) → (t % n + 1) % n ≡ suc t % n
next_mod t n = ap (λ k. k % n) (let e : t % n + 1 ≡ 1 + t % n = omega arith in e)
    ∙ (add-mod-mod 1 t n ∙ ap (λ k. k % n) (let e : 1 + t ≡ suc t = omega arith in e))

place_inside : (t n : ℕ) → t % n + 1 < n → t % n + 1 ≡ suc t % n
place_inside t n less = sym (mod-eq_of_lt less) ∙ next_mod t n

place_at_end : (t n : ℕ) → 0 < n → n ≤ t % n + 1 → 0 ≡ suc t % n
place_at_end t n some most =
    let inside : t % n < n = mod-lt t some in
    let is : n ≡ t % n + 1 = omega arith in
    sym (mod_self n) ∙ (ap (λ k. k % n) is ∙ next_mod t n)

place_step : (t n : ℕ) → 0 < n → place_after (t % n) n ≡ suc t % n
place_step t n some = elim (cases_Bool (nat_lt (t % n + 1) n)) [
  | inl is ↦ cond-true (nat_lt (t % n + 1) n) (t % n + 1) 0 is ∙ place_inside t n (ltb-true (t % n + 1) n is)
  | inr is ↦ cond-false (nat_lt (t % n + 1) n) (t % n + 1) 0 is ∙ place_at_end t n some (ltb-false (t % n + 1) n is)
]

-- the wave after t steps is at this place
pub wave_after_is : (vs : List ℕ) (t : ℕ) → 0 < length vs → wave_after t (wave_of vs) ≡ record { values = vs; place = t % length vs }
wave_after_is vs zero some = ap (λ p. record { values = vs; place = p }) (sym (mod-eq_of_lt some))
wave_after_is vs (suc t) some = ap wave_after_step (wave_after_is vs t some)
    ∙ ap (λ p. record { values = vs; place = p }) (place_step t (length vs) some)

pub value_after_is : (vs : List ℕ) (t : ℕ) → 0 < length vs → value_of (wave_after t (wave_of vs)) ≡ slice_index vs (t % length vs)
value_after_is vs t some = ap value_of (wave_after_is vs t some)
