-- What is left of frames after so many bytes.
use Rattle.std.proofs.Common.{◌≡◌, ℕ, ◌+◌, ◌-◌, ◌≤◌, List, [], ◌∷◌, ◌++◌, map, length, take, drop, true, refl, sym, ◌∙◌, ap, inl, inr, arith, length-append}
use Rattle.std.specs.Prelude.{nat_le}
use Rattle.std.proofs.lemmas.Bool.{cases_Bool, leb-true, leb-false, le-leb}
use Rattle.std.proofs.lemmas.List.{take-append-le, drop-append-le, length-drop}
use Rattle.std.proofs.Math.Seq.{drop-append-add}
use Rattle.spec_machine.specs.Device.{Produced}
use Rattle.spec_machine.specs.Connection.{bytes_of, bytes_of_all}
use Rattle.spec_machine.specs.Offers.{left_after}
use Rattle.spec_machine.specs.Turns.{IsOffer}

abbrev pub joined : List (List ℕ) → List ℕ
joined [] = []
joined (f ∷ fs) = f ++ joined fs

pub joined_bytes : (fs : List Produced) → joined (map bytes_of fs) ≡ bytes_of_all fs
joined_bytes [] = refl
joined_bytes (f ∷ fs) = ap (λ xs. bytes_of f ++ xs) (joined_bytes fs)

-- what is offered is what comes next
pub offer_next : (fs : List (List ℕ)) (n offered : ℕ) (bytes : List ℕ) → IsOffer (left_after n fs) offered bytes
    → (bytes ≡ take (length bytes) (drop n (joined fs))) × (n + length bytes ≤ length (joined fs))
unfolding left_after
offer_next [] n offered bytes h = absurd h
offer_next (f ∷ fs) n offered bytes h =
    elim (cases_Bool (nat_le (length f) n)) [
      | inr t ↦
          let o = rw t at h in
          let l = leb-false (length f) n t in
          let m : n ≤ length f = omega (arith, l) in
          let d = length-drop n f in
          let k : length bytes ≤ length (drop n f) = o.1 in
          let all = length-append f (joined fs) in (
            o.2 ∙ sym (ap (take (length bytes)) (drop-append-le n f (joined fs) m) ∙ take-append-le (length bytes) (drop n f) (joined fs) k),
            omega (arith, k, d, all, m),
          )
      | inl t ↦
          let o = rw t at h in
          let l = leb-true (length f) n t in
          let r = offer_next fs (n - length f) offered bytes o in
          let s = r.1 in
          let all = length-append f (joined fs) in
          let e : n ≡ length f + (n - length f) = omega (arith, l) in
          let d : drop n (f ++ joined fs) ≡ drop (n - length f) (joined fs) =
          ap (λ i. drop i (f ++ joined fs)) e ∙ drop-append-add f (joined fs) (n - length f) in
          (r.0 ∙ ap (take (length bytes)) (sym d), omega (arith, s, all, l))
    ]

-- nothing is left where all is taken
pub left_none : (fs : List (List ℕ)) (n : ℕ) → left_after n fs ≡ [] → length (joined fs) ≤ n
unfolding left_after
left_none [] n e = omega arith
left_none (f ∷ fs) n e =
    elim (cases_Bool (nat_le (length f) n)) [
      | inr t ↦ let g = rw t at e in cc
      | inl t ↦
          let g : left_after (n - length f) fs ≡ [] = rw t at e in
          let r = left_none fs (n - length f) g in
          let l = leb-true (length f) n t in
          let all = length-append f (joined fs) in
          omega (arith, r, l, all)
    ]

-- once the first of them is taken whole, the others are left
pub left_after_first : (fs : List (List ℕ)) (n : ℕ) (g : List ℕ) (gs : List (List ℕ)) → left_after n fs ≡ g ∷ gs → left_after (n + length g) fs ≡ gs
unfolding left_after
left_after_first [] n g gs e = cc
left_after_first (f ∷ fs) n g gs e =
    elim (cases_Bool (nat_le (length f) n)) [
      | inl t ↦
          let l = leb-true (length f) n t in
          let h : left_after (n - length f) fs ≡ g ∷ gs = rw t at e in
          let r = left_after_first fs (n - length f) g gs h in
          let m : length f ≤ n + length g = omega (arith, l) in
          let u = le-leb (length f) (n + length g) m in
          let d : (n + length g) - length f ≡ (n - length f) + length g = omega (arith, l) in
          rw u (ap (λ i. left_after i fs) d ∙ r)
      | inr t ↦
          let l = leb-false (length f) n t in
          let h : drop n f ∷ left_after 0 fs ≡ g ∷ gs = rw t at e in
          let first : drop n f ≡ g = cc in
          let others : left_after 0 fs ≡ gs = cc in
          let d = length-drop n f in
          let m : n + length g ≡ length f = omega (arith, l, d, ap length first) in
          let u : nat_le (length f) (n + length g) ≡ true = le-leb (length f) (n + length g) (omega (arith, m)) in
          let z : (n + length g) - length f ≡ 0 = omega (arith, m) in
          rw u (ap (λ i. left_after i fs) z ∙ others)
    ]
