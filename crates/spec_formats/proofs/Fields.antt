-- A number that is read at a place is the number that was written there.
use Rattle.std.proofs.Common.{◌≡◌, ℕ, ◌+◌, ◌^◌, ◌<◌, ◌≤◌, List, [], ◌∷◌, ◌++◌, length, get_or, take, drop, refl, sym, ap, ◌∙◌, append_assoc, arith}
use Rattle.std.specs.Int.{w16, w32, w64, to_le_bytes}
use Rattle.std.proofs.lemmas.Bool.{cases_lt}
use Rattle.std.proofs.Common.{inl, inr}
use Rattle.std.proofs.lemmas.List.{append-nil, take-append-drop, drop-drop, length-drop, length-take, length-take-le, get_or-drop, get_or-take, drop_more}
use Rattle.std.proofs.lemmas.List.{get_or_past}
use Rattle.std.proofs.lemmas.Nat.{le_bytes_2, le_bytes_4, le_bytes_8}
use Rattle.spec_formats.specs.Numbers.{AreBytes, number16, number32, number64}

pub AreBytes-drop : (n : ℕ) (bytes : List ℕ) → AreBytes bytes → AreBytes (drop n bytes)
AreBytes-drop n bytes h i = rw get_or-drop (h (n + i))

pub AreBytes-take : (n : ℕ) (bytes : List ℕ) → AreBytes bytes → AreBytes (take n bytes)
AreBytes-take n bytes h i =
    elim (cases_lt i n) [
      | inl lt ↦ rw (get_or-take n bytes i 0 lt) (h i)
      | inr le ↦ rw (get_or_past (take n bytes) i 0 (omega (arith, length-take n bytes))) (omega arith)
    ]

front : (w at : ℕ) (bytes text : List ℕ) → text ≡ take w (drop at bytes) → text ++ drop (at + w) bytes ≡ drop at bytes
front w at bytes text e =
    rw (e, ← drop-drop w at bytes) (take-append-drop w (drop at bytes))

taken : (w at : ℕ) (bytes : List ℕ) → at + w ≤ length bytes → length (take w (drop at bytes)) ≡ w
taken w at bytes within = length-take-le w (drop at bytes) (omega (arith, length-drop at bytes))

fits : (w at : ℕ) (bytes : List ℕ) → AreBytes bytes → AreBytes (take w (drop at bytes))
fits w at bytes h = AreBytes-take w (drop at bytes) (AreBytes-drop at bytes h)

-- the field of 2 bytes at a place, and what follows it
pub number16-front : (at : ℕ) (bytes : List ℕ) → AreBytes bytes → at + 2 ≤ length bytes
    → to_le_bytes w16 (number16 at bytes) ++ drop (at + 2) bytes ≡ drop at bytes
number16-front at bytes h within =
    front 2 at bytes _ (le_bytes_2 (take 2 (drop at bytes)) _ (taken 2 at bytes within) (fits 2 at bytes h) refl)

pub number32-front : (at : ℕ) (bytes : List ℕ) → AreBytes bytes → at + 4 ≤ length bytes
    → to_le_bytes w32 (number32 at bytes) ++ drop (at + 4) bytes ≡ drop at bytes
number32-front at bytes h within =
    front 4 at bytes _ (le_bytes_4 (take 4 (drop at bytes)) _ (taken 4 at bytes within) (fits 4 at bytes h) refl)

pub number64-front : (at : ℕ) (bytes : List ℕ) → AreBytes bytes → at + 8 ≤ length bytes
    → to_le_bytes w64 (number64 at bytes) ++ drop (at + 8) bytes ≡ drop at bytes
number64-front at bytes h within =
    front 8 at bytes _ (le_bytes_8 (take 8 (drop at bytes)) _ (taken 8 at bytes within) (fits 8 at bytes h) refl)

-- a field of plain bytes at a place, and what follows it
pub bytes-front : (at len : ℕ) (bytes : List ℕ) → take len (drop at bytes) ++ drop (at + len) bytes ≡ drop at bytes
bytes-front at len bytes = front len at bytes _ refl

-- a number that is read fits its width
pub number16-lt : (at : ℕ) (bytes : List ℕ) → AreBytes bytes → number16 at bytes < 2 ^ 16
number16-lt at bytes h = let b = fits 2 at bytes h in omega (arith, b 0, b 1)

pub number32-lt : (at : ℕ) (bytes : List ℕ) → AreBytes bytes → number32 at bytes < 2 ^ 32
number32-lt at bytes h = let b = fits 4 at bytes h in omega (arith, b 0, b 1, b 2, b 3)

pub number64-lt : (at : ℕ) (bytes : List ℕ) → AreBytes bytes → number64 at bytes < 2 ^ 64
number64-lt at bytes h = let b = fits 8 at bytes h in omega (arith, b 0, b 1, b 2, b 3, b 4, b 5, b 6, b 7)

-- one field after another
pub next_field : (whole before rest field after : List ℕ) → before ++ rest ≡ whole → field ++ after ≡ rest
    → (before ++ field) ++ after ≡ whole
next_field whole before rest field after e f = append_assoc before field after ∙ ap (λ (l : List ℕ). before ++ l) f ∙ e

-- the next number of a payload
pub next16 : (before : List ℕ) (at : ℕ) (p : List ℕ) → AreBytes p → at + 2 ≤ length p → before ++ drop at p ≡ p
    → (before ++ to_le_bytes w16 (number16 at p)) ++ drop (at + 2) p ≡ p
next16 before at p h within e = next_field p before (drop at p) (to_le_bytes w16 (number16 at p)) (drop (at + 2) p) e (number16-front at p h within)

pub next32 : (before : List ℕ) (at : ℕ) (p : List ℕ) → AreBytes p → at + 4 ≤ length p → before ++ drop at p ≡ p
    → (before ++ to_le_bytes w32 (number32 at p)) ++ drop (at + 4) p ≡ p
next32 before at p h within e = next_field p before (drop at p) (to_le_bytes w32 (number32 at p)) (drop (at + 4) p) e (number32-front at p h within)

-- the next byte of a payload
pub next8 : (before : List ℕ) (at : ℕ) (p : List ℕ) → at < length p → before ++ drop at p ≡ p
    → (before ++ get_or p at 0 ∷ []) ++ drop (at + 1) p ≡ p
next8 before at p within e = next_field p before (drop at p) (get_or p at 0 ∷ []) (drop (at + 1) p) e (sym (drop_more p at 0 within))

-- nothing follows the last field
pub no_more : (before rest p : List ℕ) → before ++ rest ≡ p → rest ≡ [] → before ≡ p
no_more before rest p e none = sym (append-nil before) ∙ (ap (λ (l : List ℕ). before ++ l) (sym none) ∙ e)
