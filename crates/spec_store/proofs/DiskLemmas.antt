-- What a write leaves, whole or cut short.
use Rattle.std.proofs.Common.{◌≡◌, ℕ, ◌+◌, ◌-◌, ◌≤◌, min, List, [], ◌∷◌, ◌++◌, length, get_or, take, drop, refl, sym, ◌∙◌, ap, inl, inr, arith, length-append}
use Rattle.std.specs.Prelude.{replicate}
use Rattle.std.proofs.lemmas.Bool.{cases_lt}
use Rattle.std.proofs.lemmas.List.{length-take-le, length-drop, length-replicate, take-take, take-append-le, take_all, drop-drop, drop_at, drop_more}
use Rattle.spec_store.specs.Disk.{filled, written, Torn}

length-filled : (at : ℕ) (f : List ℕ) → length (filled at f) ≡ length f + (at - length f)
length-filled at f = length-append f (replicate (at - length f) 0) ∙ ap (λ (n : ℕ). length f + n) (length-replicate (at - length f) 0)

front : (at : ℕ) (f : List ℕ) → length (take at (filled at f)) ≡ at
front at f = length-take-le at (filled at f) (omega (arith, length-filled at f))

-- the bytes stand at their place, and behind them what stood there
pub drop-written : (at : ℕ) (bytes f : List ℕ) → drop at (written at bytes f) ≡ bytes ++ drop (at + length bytes) f
drop-written at bytes f =
    let rest = drop (at + length bytes) f in
    ap (λ (l : List ℕ). drop at l) (append_right (take at (filled at f)) bytes rest) ∙ drop_at (take at (filled at f)) (bytes ++ rest) at (front at f)
  where
    append_right : (a b c : List ℕ) → a ++ b ++ c ≡ a ++ (b ++ c)
    append_right [] b c = refl
    append_right (x ∷ a) b c = ap (λ (l : List ℕ). x ∷ l) (append_right a b c)

pub length-written : (at : ℕ) (bytes f : List ℕ) → length (written at bytes f) ≡ at + length bytes + (length f - (at + length bytes))
length-written at bytes f =
    let rest = drop (at + length bytes) f in
    let whole = length-append (take at (filled at f) ++ bytes) rest in
    let first = length-append (take at (filled at f)) bytes in
    omega (arith, whole, first, front at f, length-drop (at + length bytes) f)

before-written : (at : ℕ) (bytes f : List ℕ) → take (min at (length f)) (written at bytes f) ≡ take at f
before-written at bytes f =
    let n = min at (length f) in
    let rest = drop (at + length bytes) f in
    let head = take at (filled at f) in
    let whole = length-append head bytes in
    let first : take n (head ++ bytes ++ rest) ≡ take n (head ++ bytes) = take-append-le n (head ++ bytes) rest (omega (arith, whole, front at f)) in
    let second : take n (head ++ bytes) ≡ take n head = take-append-le n head bytes (omega (arith, front at f)) in
    let third : take n head ≡ take n (filled at f) = take-take n at (filled at f) (omega arith) in
    let fourth : take n (filled at f) ≡ take n f = take-append-le n f (replicate (at - length f) 0) (omega arith) in
    first ∙ second ∙ third ∙ fourth ∙ same at f
  where
    same : (at : ℕ) (f : List ℕ) → take (min at (length f)) f ≡ take at f
    same at f = elim (cases_lt at (length f)) [
      | inl lt ↦ let e : min at (length f) ≡ at = omega (arith, lt) in ap (λ (n : ℕ). take n f) e
      | inr ge ↦ take_all (min at (length f)) f (omega (arith, ge)) ∙ sym (take_all at f ge)
    ]

-- a write that is over is one that might have been cut short
pub torn-written : (at : ℕ) (bytes f : List ℕ) → Torn at (length bytes) f (written at bytes f)
torn-written at bytes f = record {
  before = before-written at bytes f;
  after = sym (drop-drop (length bytes) at (written at bytes f)) ∙ ap (λ (l : List ℕ). drop (length bytes) l) (drop-written at bytes f)
      ∙ drop_at bytes (drop (at + length bytes) f) (length bytes) refl;
  no_shorter = omega (arith, length-written at bytes f);
  no_longer = omega (arith, length-written at bytes f);
}

-- nothing before the range is changed, and nothing behind it
pub torn_front : (at n : ℕ) (f c : List ℕ) → at ≤ length f → Torn at n f c → take at c ≡ take at f
torn_front at n f c le torn =
    let e : min at (length f) ≡ at = omega (arith, le) in
    ap (λ (k : ℕ). take k c) (sym e) ∙ torn.before

pub torn_behind : (at n m : ℕ) (f c : List ℕ) → at + n ≤ m → Torn at n f c → drop m c ≡ drop m f
torn_behind at n m f c le torn =
    let e : m ≡ at + n + (m - (at + n)) = omega (arith, le) in
    let k = m - (at + n) in
    ap (λ (i : ℕ). drop i c) e ∙ sym (drop-drop k (at + n) c) ∙ ap (λ (l : List ℕ). drop k l) torn.after
    ∙ drop-drop k (at + n) f ∙ ap (λ (i : ℕ). drop i f) (sym e)

-- one byte within the file
pub torn_byte : (at : ℕ) (f c : List ℕ) → at + 1 ≤ length f → Torn at 1 f c → drop at c ≡ get_or c at 0 ∷ drop (at + 1) f
torn_byte at f c le torn = drop_more c at 0 (omega (arith, le, torn.no_shorter)) ∙ ap (λ (l : List ℕ). get_or c at 0 ∷ l) torn.after
