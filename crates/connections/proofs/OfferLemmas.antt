-- What is offered of frames that wait, and what is left once bytes of it were taken.
use Rattle.std.proofs.Common.{◌≡◌, ℕ, ◌<◌, ◌≤◌, List, [], ◌∷◌, length, true, false, cond, sym, ap, ◌∙◌, subst, inl, inr, arith}
use Rattle.std.specs.Prelude.{Bool, nat_lt, drop, ◌==◌, Some, None, IsSomeAnd}
use Rattle.std.proofs.lemmas.Bool.{cases_Bool, ltb-false, cond-true, cond-false}
use Rattle.spec_machine.proofs.Find.{test_same}
use Rattle.out_queue.specs.Queue.{front_of, frames_after}
use Rattle.connections.specs.Offering.{offer_of, offers_of, FitsFirst, first_left}

-- what is offered: it is not blocked, and its first frame is there
pub record IsOffer (blocked : Bool) (out : List (List ℕ)) (left : List ℕ) : Type 0 where
  pub free : blocked ≡ false
  pub front : front_of out ≡ Some left

pub is_offer : (blocked : Bool) (out : List (List ℕ)) (left : List ℕ) → offer_of blocked out ≡ Some left → IsOffer blocked out left
is_offer blocked out left e = elim (cases_Bool blocked) [
  | inl held ↦ absurd (let both = sym (cond-true blocked None (front_of out) held) ∙ e in cc)
  | inr free ↦ record { free = free; front = sym (cond-false blocked None (front_of out) free) ∙ e }
]

pub fits_first : (n : ℕ) (blocked : Bool) (out : List (List ℕ)) → IsSomeAnd (offer_of blocked out) (λ left. n ≤ length left) → FitsFirst n out
fits_first n blocked out h = elim (cases_Bool blocked) [
  | inl held ↦ absurd (subst (λ o. IsSomeAnd o (λ left. n ≤ length left)) (cond-true blocked None (front_of out) held) h)
  | inr free ↦ subst (λ o. IsSomeAnd o (λ left. n ≤ length left)) (cond-false blocked None (front_of out) free) h
]

-- fewer offers are left once bytes of one were taken
pub fewer_left : (n : ℕ) (blocked after_blocked : Bool) (out after_out : List (List ℕ)) → IsSomeAnd (offer_of blocked out) (λ left. n ≤ length left)
    → after_out ≡ frames_after n out → after_blocked ≡ nat_lt n (length (first_left out))
    → offers_of after_blocked after_out < offers_of blocked out
fewer_left n blocked after_blocked out after_out h same mark = elim (cases_Bool blocked) [
  | inl held ↦ absurd (subst (λ o. IsSomeAnd o (λ left. n ≤ length left)) (cond-true blocked None (front_of out) held) h)
  | inr free ↦
      let fits = subst (λ o. IsSomeAnd o (λ left. n ≤ length left)) (cond-false blocked None (front_of out) free) h in
      let before = cond-false blocked 0 (length out) free in
      let after = ap (λ b. cond b 0 (length after_out)) mark ∙ ap (λ (fs : List (List ℕ)). cond (nat_lt n (length (first_left out))) 0 (length fs)) same in
      let less = by out fits in
      omega (arith, before, after, less)
]
  where
    by : (fs : List (List ℕ)) → IsSomeAnd (front_of fs) (λ left. n ≤ length left)
        → cond (nat_lt n (length (first_left fs))) 0 (length (frames_after n fs)) < length fs
    by [] h = absurd h
    by (f ∷ fs) h = elim (cases_Bool (nat_lt n (length f))) [
      | inl t ↦ let e = cond-true (nat_lt n (length f)) 0 (length (frames_after n (f ∷ fs))) t in omega (arith, e)
      | inr t ↦
          let not_less = ltb-false n (length f) t in
          let e = cond-false (nat_lt n (length f)) 0 (length (frames_after n (f ∷ fs))) t in
          let whole : (length f == n) ≡ true = test_same (length f) n (omega (arith, h, not_less)) in
          let gone = ap (λ (gs : List (List ℕ)). length gs) (cond-true (length f == n) fs (drop n f ∷ fs) whole) in
          omega (arith, e, gone)
    ]
