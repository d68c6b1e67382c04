-- All frames that wait are lent in one run, and taken, each whole.
use Rattle.std.proofs.Common.{◌≡◌, ℕ, List, [], ◌∷◌, length, drop, false}
use Rattle.std.proofs.Common.{refl, sym, ap, ◌∙◌, inl, inr, arith}
use Rattle.std.specs.Prelude.{Bool, ◌==◌, nat_lt, Option, Some, None}
use Rattle.std.proofs.lemmas.Bool.{cases_Bool, le-ltb, eq-eqb, cond-true, cond-false}
use Rattle.out_queue.specs.Queue.{frames_after}
use Rattle.connections.specs.Offering.{some_frames, run_of}

-- what is lent: it is not blocked, these frames wait, and there is one
pub record IsLent (blocked : Bool) (waiting frames : List (List ℕ)) : Type 0 where
  pub free : blocked ≡ false
  pub out : waiting ≡ frames
  pub some : some_frames frames ≡ Some frames

frames_are : (fs frames : List (List ℕ)) → some_frames fs ≡ Some frames → fs ≡ frames
frames_are [] frames e = absurd (let none : ◌≡◌ {A = Option (List (List ℕ))} None (Some frames) = e in cc)
frames_are (f ∷ fs) frames e = let all : ◌≡◌ {A = Option (List (List ℕ))} (Some (f ∷ fs)) (Some frames) = e in cc

pub is_lent : (blocked : Bool) (waiting frames : List (List ℕ)) → run_of blocked waiting ≡ Some frames → IsLent blocked waiting frames
is_lent blocked waiting frames e = elim (cases_Bool blocked) [
  | inl held ↦ absurd (let both = sym (cond-true blocked None (some_frames waiting) held) ∙ e in cc)
  | inr free ↦
      let some : some_frames waiting ≡ Some frames = sym (cond-false blocked None (some_frames waiting) free) ∙ e in
      let all = frames_are waiting frames some in
      record { free = free; out = all; some = sym (ap some_frames all) ∙ some }
]

-- a frame that is taken whole is gone, and that does not block
pub whole_after : (f : List ℕ) (fs : List (List ℕ)) → frames_after (length f) (f ∷ fs) ≡ fs
whole_after f fs = cond-true (length f == length f) fs (drop (length f) f ∷ fs) (eq-eqb (length f) (length f) refl)

pub not_short : (n : ℕ) → nat_lt n n ≡ false
not_short n = le-ltb n n (omega arith)
