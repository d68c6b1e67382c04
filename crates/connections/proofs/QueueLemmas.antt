-- A queue against the frames that a connection was given and the bytes that it took.
use Rattle.std.proofs.Common.{◌≡◌, ℕ, ◌+◌, ◌-◌, ◌<◌, ◌≤◌, List, [], ◌∷◌, ◌++◌, length, drop, false, refl, sym, ap, ◌∙◌, ◌⊎◌, inl, inr, arith}
use Rattle.std.specs.Prelude.{nat_le, IsSomeAnd}
use Rattle.std.proofs.lemmas.Bool.{cases_Bool, leb-true, leb-false, le-leb, lt-leb, eq-eqb, ne_eqb, cases_lt, cond-true, cond-false}
use Rattle.std.proofs.lemmas.List.Sums.{sum_by-cons}
use Rattle.std.proofs.lemmas.List.{length-append, length-drop, drop-drop}
use Rattle.spec_machine.specs.Offers.{left_after}
use Rattle.spec_machine.proofs.Waiting.{joined}
use Rattle.out_queue.specs.Queue.{queued, front_of, frames_after, FitsFront}

-- a frame more waits behind the others
pub left_after-push : (fs : List (List ℕ)) (n : ℕ) (f : List ℕ) → n ≤ length (joined fs)
    → 0 < length f → left_after n (fs ++ f ∷ []) ≡ left_after n fs ++ f ∷ []
unfolding left_after
left_after-push [] n f fits some =
    let none : n ≡ 0 = omega (arith, fits) in
    let more = lt-leb (length f) 0 some in
    rw (none, more) refl
left_after-push (g ∷ gs) n f fits some =
    let all = length-append g (joined gs) in
    elim (cases_Bool (nat_le (length g) n)) [
      | inl t ↦
          let l = leb-true (length g) n t in
          rw t (left_after-push gs (n - length g) f (omega (arith, l, all, fits)) some)
      | inr t ↦ rw t (ap (λ xs. drop n g ∷ xs) (left_after-push gs 0 f (omega arith) some))
    ]

queued-cons : (f : List ℕ) (fs : List (List ℕ)) → queued (f ∷ fs) ≡ length f + queued fs
queued-cons f fs = sum_by-cons length f fs

-- the bytes that wait are those that were given, less those that were taken
pub queued-left_after : (fs : List (List ℕ)) (n : ℕ) → queued (left_after n fs) ≡ length (joined fs) - n
unfolding left_after
queued-left_after [] n = omega arith
queued-left_after (g ∷ gs) n =
    let all = length-append g (joined gs) in
    elim (cases_Bool (nat_le (length g) n)) [
      | inl t ↦
          let l = leb-true (length g) n t in
          let rest = queued-left_after gs (n - length g) in
          ap queued (cond-true (nat_le (length g) n) (left_after (n - length g) gs) (drop n g ∷ left_after 0 gs) t) ∙ omega (arith, l, rest, all)
      | inr t ↦
          let l = leb-false (length g) n t in
          let rest = queued-left_after gs 0 in
          let d = length-drop n g in
          let one = queued-cons (drop n g) (left_after 0 gs) in
          ap queued (cond-false (nat_le (length g) n) (left_after (n - length g) gs) (drop n g ∷ left_after 0 gs) t) ∙ omega (arith, l, rest, all, d, one)
    ]

-- bytes of the first frame that waits are taken
pub left_after-took : (fs : List (List ℕ)) (n m : ℕ) → FitsFront m (left_after n fs) → frames_after m (left_after n fs) ≡ left_after (n + m) fs
unfolding left_after
left_after-took [] n m fits = refl
left_after-took (g ∷ gs) n m fits =
    elim (cases_Bool (nat_le (length g) n)) [
      | inl t ↦
          let l = leb-true (length g) n t in
          let u = le-leb (length g) (n + m) (omega (arith, l)) in
          let e : (n + m) - length g ≡ (n - length g) + m = omega (arith, l) in
          rw (t, u) (left_after-took gs (n - length g) m (rw t at fits) ∙ ap (λ i. left_after i gs) (sym e))
      | inr t ↦ first t (leb-false (length g) n t) (cases_lt (n + m) (length g))
    ]
  where
    first : nat_le (length g) n ≡ false → n < length g → (n + m < length g) ⊎ (length g ≤ n + m)
        → frames_after m (left_after n (g ∷ gs)) ≡ left_after (n + m) (g ∷ gs)
    first t l (inl below) =
        let d = length-drop n g in
        let u = lt-leb (length g) (n + m) below in
        let part = ne_eqb (length (drop n g)) m (λ e. absurd (omega (arith, e, d, below))) in
        rw (t, u, part) (ap (λ x. x ∷ left_after 0 gs) (drop-drop m n g))
    first t l (inr above) =
        let d = length-drop n g in
        let most : m ≤ length (drop n g) = rw t at fits in
        let u = le-leb (length g) (n + m) above in
        let whole = eq-eqb (length (drop n g)) m (omega (arith, d, above, most)) in
        let e : (n + m) - length g ≡ 0 = omega (arith, d, above, most) in
        rw (t, u, whole) (ap (λ i. left_after i gs) (sym e))

-- the first frame that waits is among the bytes that were not taken
pub took_fits : (fs : List (List ℕ)) (n m : ℕ) → n ≤ length (joined fs) → FitsFront m (left_after n fs) → n + m ≤ length (joined fs)
took_fits fs n m fits front =
    let q = queued-left_after fs n in
    let f = front_within (left_after n fs) m front in
    omega (arith, q, f, fits)
  where
    front_within : (xs : List (List ℕ)) (m : ℕ) → FitsFront m xs → m ≤ queued xs
    front_within [] m h = h
    front_within (x ∷ xs) m h = let one = queued-cons x xs in omega (arith, h, one)

-- so many bytes are left of the first frame, which is there
pub fits_front : (n : ℕ) (frames : List (List ℕ)) → IsSomeAnd (front_of frames) (λ left. n ≤ length left) → FitsFront n frames
fits_front n [] h = absurd h
fits_front n (f ∷ fs) h = h
