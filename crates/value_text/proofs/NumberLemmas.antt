-- Numbers of two's complement and their texts.
use Rattle.std.proofs.Common.{◌≡◌, ◌≢◌, ℕ, suc, ◌-◌, ◌*◌, ◌^◌, ◌<◌, ◌≤◌, List, [], ◌∷◌, length, get_or, drop, refl, sym, ap, ◌∙◌, inl, inr, arith, lit≤}
use Rattle.std.specs.Fmt.{decimal}
use Rattle.std.proofs.Math.Nat.{pow-succ'}
use Rattle.std.proofs.lemmas.Bool.{cases_lt, lt-ltb, le-ltb}
use Rattle.std.proofs.lemmas.Fmt.{decimal_nonempty}
use Rattle.ads_base.proofs.DecimalLemmas.{decimal-free}
use Rattle.spec_frames.specs.Number.{number_of, AreBytes}
use Rattle.spec_formats.specs.ValueText.{signed_text}

pub number_of-lt : (bytes : List ℕ) → AreBytes bytes → number_of bytes < 256 ^ length bytes
number_of-lt [] each = lit≤ tt
number_of-lt (b ∷ bs) each =
    let range : 256 ^ length (b ∷ bs) ≡ 256 * 256 ^ length bs = pow-succ' 256 (length bs) in
    omega (arith, range, each 0, number_of-lt bs (λ k. each (suc k)))

-- no decimal number begins with a minus
pub decimal-first : (n : ℕ) (text : List ℕ) → n < 2 ^ 64 → text ≡ decimal n → get_or text 0 0 ≢ 45
decimal-first n text small e minus = decimal-free 45 n (lit≤ tt) small 0 (decimal_nonempty n small) (ap (λ t. get_or t 0 0) (sym e) ∙ minus)

pub signed_text-below : (range n : ℕ) → 2 * n < range → signed_text range n ≡ decimal n
unfolding signed_text
signed_text-below range n below = rw (lt-ltb (2 * n) range below) refl

pub signed_text-above : (range n : ℕ) → range ≤ 2 * n → signed_text range n ≡ 45 ∷ decimal (range - n)
unfolding signed_text
signed_text-above range n above = rw (le-ltb (2 * n) range above) refl

pub behind_minus : (text rest : List ℕ) → 0 < length text → get_or text 0 0 ≡ 45 → drop 1 text ≡ rest → text ≡ 45 ∷ rest
behind_minus [] rest some minus e = absurd (omega arith)
behind_minus (b ∷ bs) rest some minus e = cc

-- a text without a minus is the text of a number below half of the range alone
pub without_minus : (range n : ℕ) (text : List ℕ) → n < range → range ≤ 2 ^ 64
    → get_or text 0 0 ≢ 45 → text ≡ signed_text range n → (2 * n < range) × (text ≡ decimal n)
without_minus range n text in_range limit plain e = elim (cases_lt (2 * n) range) [
  | inl below ↦ (below, e ∙ signed_text-below range n below)
  | inr above ↦ absurd (plain (ap (λ t. get_or t 0 0) (e ∙ signed_text-above range n above)))
]

-- a text with a minus is the text of a number from there on
pub with_minus : (range n : ℕ) (text : List ℕ) → n < range → range ≤ 2 ^ 64 → get_or text 0 0 ≡ 45
    → text ≡ signed_text range n → (range ≤ 2 * n) × (drop 1 text ≡ decimal (range - n))
with_minus range n text in_range limit minus e = elim (cases_lt (2 * n) range) [
  | inl below ↦ absurd (decimal-first n text (omega arith) (e ∙ signed_text-below range n below) minus)
  | inr above ↦ (above, ap (drop 1) (e ∙ signed_text-above range n above))
]
