-- A saver that begins, and one to which less is shown than may be. No public clause cites it.
use Rattle.std.proofs.Common.{◌≡◌, ℕ, ◌+◌, List, [], refl, sym, ap, ◌∙◌, subst, append-nil, arith}
use Rattle.std.proofs.Math.Nat.{le_refl}
use Rattle.std.specs.Prelude.{Option, false}
use Rattle.spec_store.specs.Slots as slots
use Rattle.spec_store.specs.Runs as runs
use Rattle.persist_store.proofs.Moments.{started}
use Rattle.persist_store.specs.Marks.{Mark}
use Rattle.persist_store.specs.Store.{StoreState, IsReady}
use Rattle.keep_loop.specs.Bodies.{paced, saves_in, is_any_over}
use Rattle.keep_loop.specs.Keeping.{left_behind}
use Rattle.keep_loop.specs.Saver.{MayBeShown, BeginsAnew, SavesShown}

-- where so many more may be shown, one less may
pub fewer_shown : {D : Type 0} (contents : D → Option (List ℕ)) (may_leave : D → List ℕ → Type 0) (n every saved : ℕ) (store : StoreState) (disk : D)
    → MayBeShown contents may_leave (n + 1) every saved store disk → MayBeShown contents may_leave n every saved store disk
fewer_shown contents may_leave n every saved store disk may =
    record { some = may.some; few = (let few = may.few in omega (arith, few)); ready = may.ready; open_ = may.open_ }

-- nothing is shown yet
pub sees_none : {D : Type 0} (contents : D → Option (List ℕ)) (may_leave : D → List ℕ → Type 0) (moment : D → ℕ) (left_since : D → ℕ → List ℕ → Type 0)
    (marked : D → List Mark → Type 0) (names : D → Option (List (List ℕ))) (fault_count : D → ℕ)
    (only : (d : D) (c : List ℕ) → left_since d (moment d) c → may_leave d c) (every left saved : ℕ) (first : StoreState) (disk : D)
    → BeginsAnew every left saved → IsReady contents may_leave disk first → first.shut ≡ false
    → SavesShown contents moment left_since marked names fault_count every every left saved first first disk disk [] []
unfolding saves_in paced left_behind is_any_over runs.standing_after_all runs.IsOneOf
sees_none contents may_leave moment left_since marked names fault_count only every left saved first disk anew ready open_ = record {
  same = refl;
  are = refl;
  pace = anew.pace;
  counted = anew.none;
  within = refl;
  standing = refl;
  open_ = open_;
  told = λ file told. (file, told);
  left = λ file told.
      let here = ready file told open_ in
      started moment left_since disk (λ c. runs.IsOneOf first.standing [] (slots.standing_of c))
      (λ c left. ap slots.standing_of (here.0 c (only disk c left)) ∙ here.1);
  marks = λ marks told. record { marked = []; told = subst (marked disk) (sym (append-nil marks)) told; each = refl; are = tt };
  keeps = record { untold = λ e. e; named = refl; later = le_refl _ };
}
