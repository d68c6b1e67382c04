-- Six bytes, compared as a number of four and one of two.
use Rattle.std.proofs.Common.{◌≡◌, ℕ, zero, suc, ◌<◌, ◌+◌, List, [], ◌∷◌, ◌++◌, length, take, drop, get_or, sym, ◌∙◌, ap, arith, length-take, length-drop, refl}
use Rattle.std.specs.Prelude.{◌==◌, bytes_eq}
use Rattle.std.specs.Int.{w16, w32, from_le_bytes, to_le_bytes}
use Rattle.std.proofs.lemmas.Bool.Decides.{same_from_decides, Decides-eqb}
use Rattle.std.proofs.lemmas.List.{take_all, take-append-drop, get_or-drop}
use Rattle.std.proofs.lemmas.Nat.{le_bytes_2, le_bytes_4}
use Rattle.std.proofs.lemmas.Slice.Eq.{bytes_eq-Decides}

-- each is a byte
abbrev pub AreBytes : List ℕ → Type 0
AreBytes xs = (i : ℕ) → get_or xs i 0 < 256

taken-bytes : (n : ℕ) (xs : List ℕ) → AreBytes xs → AreBytes (take n xs)
taken-bytes zero xs small i = omega arith
taken-bytes (suc n) [] small i = omega arith
taken-bytes (suc n) (x ∷ xs) small zero = small 0
taken-bytes (suc n) (x ∷ xs) small (suc i) = taken-bytes n xs (λ j. small (suc j)) i

left-bytes : (n : ℕ) (xs : List ℕ) → AreBytes xs → AreBytes (drop n xs)
left-bytes n xs small i = rw (get_or-drop n xs i 0) (small (n + i))

first_same : (xs ys : List ℕ) → length xs ≡ 6 → length ys ≡ 6 → AreBytes xs → AreBytes ys
    → from_le_bytes w32 (take 4 xs) ≡ from_le_bytes w32 (take 4 ys) → take 4 xs ≡ take 4 ys
first_same xs ys l m small small' e =
    let written : to_le_bytes w32 (from_le_bytes w32 (take 4 xs)) ≡ take 4 xs =
    le_bytes_4 (take 4 xs) _ (omega (arith, length-take 4 xs, l)) (taken-bytes 4 xs small) refl in
    let written' : to_le_bytes w32 (from_le_bytes w32 (take 4 ys)) ≡ take 4 ys =
    le_bytes_4 (take 4 ys) _ (omega (arith, length-take 4 ys, m)) (taken-bytes 4 ys small') refl in
    sym written ∙ ap (to_le_bytes w32) e ∙ written'

last_same : (xs ys : List ℕ) → length xs ≡ 6 → length ys ≡ 6 → AreBytes xs → AreBytes ys
    → from_le_bytes w16 (take 2 (drop 4 xs)) ≡ from_le_bytes w16 (take 2 (drop 4 ys)) → drop 4 xs ≡ drop 4 ys
last_same xs ys l m small small' e =
    let all : take 2 (drop 4 xs) ≡ drop 4 xs = take_all 2 (drop 4 xs) (omega (arith, length-drop 4 xs, l)) in
    let all' : take 2 (drop 4 ys) ≡ drop 4 ys = take_all 2 (drop 4 ys) (omega (arith, length-drop 4 ys, m)) in
    let written : to_le_bytes w16 (from_le_bytes w16 (drop 4 xs)) ≡ drop 4 xs =
    le_bytes_2 (drop 4 xs) _ (omega (arith, length-drop 4 xs, l)) (left-bytes 4 xs small) refl in
    let written' : to_le_bytes w16 (from_le_bytes w16 (drop 4 ys)) ≡ drop 4 ys =
    le_bytes_2 (drop 4 ys) _ (omega (arith, length-drop 4 ys, m)) (left-bytes 4 ys small') refl in
    let e' : from_le_bytes w16 (drop 4 xs) ≡ from_le_bytes w16 (drop 4 ys) = ap (from_le_bytes w16) (sym all) ∙ e ∙ ap (from_le_bytes w16) all' in
    sym written ∙ ap (to_le_bytes w16) e' ∙ written'

-- where the first number is the same, the second decides
pub same_nets : (xs ys : List ℕ) → length xs ≡ 6 → length ys ≡ 6 → AreBytes xs → AreBytes ys
    → from_le_bytes w32 (take 4 xs) ≡ from_le_bytes w32 (take 4 ys)
    → (from_le_bytes w16 (take 2 (drop 4 xs)) == from_le_bytes w16 (take 2 (drop 4 ys))) ≡ bytes_eq xs ys
same_nets xs ys l m small small' e =
    let d = Decides-eqb (from_le_bytes w16 (take 2 (drop 4 xs))) (from_le_bytes w16 (take 2 (drop 4 ys))) in
    let together : drop 4 xs ≡ drop 4 ys → xs ≡ ys = λ r.
    sym (take-append-drop 4 xs) ∙ ap (λ zs. zs ++ drop 4 xs) (first_same xs ys l m small small' e) ∙ ap (λ zs. take 4 ys ++ zs) r ∙ take-append-drop 4 ys in
    same_from_decides _ (bytes_eq xs ys)
    (λ t. together (last_same xs ys l m small small' (d.0 t)), λ r. d.1 (ap (λ zs. from_le_bytes w16 (take 2 (drop 4 zs))) r))
    (bytes_eq-Decides xs ys)
