-- The numbers of a NetId one after another.
use Rattle.std.proofs.Common.{◌≡◌, ℕ, suc, ◌<◌, List, [], ◌∷◌, ◌++◌, length, get_or, drop, refl, sym, ◌∙◌, arith}
use Rattle.std.specs.Fmt.{decimal}
use Rattle.ads_base.specs.Decimal.{IsOnlyRest}
use Rattle.ads_base.specs.NetId.{IsNetId, net_text}

-- so many of the last numbers of a NetId
pub record AreLast (n : ℕ) (bytes : List ℕ) : Type 0 where
  pub count : length bytes ≡ n
  pub are_bytes : (k : ℕ) → get_or bytes k 0 < 256

pub AreLast-all : (bytes : List ℕ) → IsNetId bytes → AreLast 6 bytes
AreLast-all bytes net = record { count = net.six; are_bytes = net.are_bytes }

pub AreLast-drop : (n : ℕ) (bytes : List ℕ) → AreLast (suc n) bytes → AreLast n (drop 1 bytes)
AreLast-drop n [] last = absurd (omega (arith, last.count))
AreLast-drop n (b ∷ bs) last = record { count = omega (arith, last.count); are_bytes = λ k. last.are_bytes (suc k) }

-- the first of them, a full stop and the text of the others
pub net_text-more : (n : ℕ) (bytes : List ℕ) → AreLast (suc (suc n)) bytes → net_text bytes ≡ decimal (get_or bytes 0 0) ++ 46 ∷ net_text (drop 1 bytes)
net_text-more n [] last = absurd (omega (arith, last.count))
net_text-more n (b ∷ []) last = absurd (omega (arith, last.count))
net_text-more n (b ∷ (c ∷ bs)) last = refl

pub net_text-one : (bytes : List ℕ) → AreLast 1 bytes → net_text bytes ≡ decimal (get_or bytes 0 0)
net_text-one [] last = absurd (omega (arith, last.count))
net_text-one (b ∷ []) last = refl
net_text-one (b ∷ (c ∷ bs)) last = absurd (omega (arith, last.count))

-- a text of a NetId's last numbers from which one number was read leaves the text of the others
pub net_text-rest : (n : ℕ) (text rest bytes : List ℕ) → IsOnlyRest text rest
    → AreLast (suc (suc n)) bytes → text ≡ net_text bytes → rest ≡ net_text (drop 1 bytes)
net_text-rest n text rest bytes only last e = sym (only (get_or bytes 0 0) (net_text (drop 1 bytes)) (last.are_bytes 0) (e ∙ net_text-more n bytes last))

-- no number with a full stop behind it begins a text, so the text is none of a NetId's last numbers
pub net_text-none : (n : ℕ) (text bytes : List ℕ) → ((m : ℕ) (rest : List ℕ) → m < 256 → text ≡ decimal m ++ 46 ∷ rest → ⊥)
    → AreLast (suc (suc n)) bytes → text ≡ net_text bytes → ⊥
net_text-none n text bytes none last e = none (get_or bytes 0 0) (net_text (drop 1 bytes)) (last.are_bytes 0) (e ∙ net_text-more n bytes last)
