-- The three steps of a save over a disk that tells its file.
use Rattle.std.proofs.Common.{◌≡◌, ◌⊎◌, inl, inr, ℕ, ◌+◌, ◌^◌, ◌<◌, ◌≤◌, List, [], ◌∷◌, length, true, false, refl, sym, subst, ◌∙◌, ap}
use Rattle.std.specs.Prelude.{Bool, Option, Some, None, unwrap_or}
use Rattle.spec_store.specs.Disk.{written, Torn, Only, WhereTold, Elapses, LeavesOnly}
use Rattle.spec_store.specs.Slots.{MAX_BODY, Slot, behind_gate, Standing, standing_of}
use Rattle.spec_store.specs.Saves.{goes_second, next_place, next_sequence, next_slot, standing_after, has_closed_gate}
use Rattle.spec_store.specs.Laws.{MaySave, IsBeforeOrAfter, ClosesGate, IsFilled, FillsSlot, OpensGate}
use Rattle.spec_store.proofs.StepLemmas.{closes_gate, fills_slot, opens_gate}
use Rattle.persist_store.specs.Steps.{IsAt, Stays, IsShut, IsFull, StandsFor, IsSaving}
use Rattle.persist_store.proofs.Moments.{started, goes_on, weaker, joins}

-- the steps at a place
pub closes_at : (place : ℕ) (file : List ℕ) → place ≡ next_place (standing_of file) → has_closed_gate place file ≡ false → ClosesGate file place
closes_at place file e h =
    let Q : ℕ → Type 0 = λ p. has_closed_gate p file ≡ false in
    let P : ℕ → Type 0 = λ p. ClosesGate file p in
    subst P (sym e) (closes_gate (goes_second (standing_of file)) file refl (subst Q e h))

pub fills_at : (place : ℕ) (file : List ℕ) (slot : Slot) → place ≡ next_place (standing_of file)
    → has_closed_gate place file ≡ true → length slot.body ≤ MAX_BODY → FillsSlot file place slot
fills_at place file slot e h short =
    let Q : ℕ → Type 0 = λ p. has_closed_gate p file ≡ true in
    let P : ℕ → Type 0 = λ p. FillsSlot file p slot in
    subst P (sym e) (fills_slot (goes_second (standing_of file)) file slot refl (subst Q e h) short)

pub opens_at : (place : ℕ) (file body : List ℕ) → place ≡ next_place (standing_of file)
    → MaySave file body → IsFilled place (next_slot (standing_of file) body) file → OpensGate file body place
opens_at place file body e m filled =
    let Q : ℕ → Type 0 = λ p. IsFilled p (next_slot (standing_of file) body) file in
    let P : ℕ → Type 0 = λ p. OpensGate file body p in
    subst P (sym e) (opens_gate (goes_second (standing_of file)) file body refl m.is_text m.short m.number (subst Q e filled))

-- a body that may be saved into one file may be saved into another that stands for the same
pub may_save_too : (file other body : List ℕ) → standing_of other ≡ standing_of file → MaySave file body → MaySave other body
may_save_too file other body e m =
    let P : Option Standing → Type 0 = λ s. next_sequence s < 2 ^ 64 in
    record { is_text = m.is_text; short = m.short; number = subst P (sym e) m.number }

pub same_either : (file other body c : List ℕ) → standing_of other ≡ standing_of file → IsBeforeOrAfter other body c → IsBeforeOrAfter file body c
same_either file other body c e either =
    let P : Option Standing → Type 0 = λ s. (standing_of c ≡ s) ⊎ (standing_of c ≡ Some (standing_after s body)) in
    subst P e either

-- what was not told is not told after a write
pub untold_after : (holds : List ℕ → List ℕ → Type 0) (old new : Option (List ℕ)) → WhereTold holds old new → old ≡ None → new ≡ None
untold_after holds None None told is = refl
untold_after holds None (Some f) told is = absurd told
untold_after holds (Some f) None told is = refl
untold_after holds (Some f) (Some g) told is = absurd (let no : Some f ≡ None = is in cc)

pub told_after : (holds : List ℕ → List ℕ → Type 0) (old new : Option (List ℕ)) → WhereTold holds old new → new ≡ None → old ≡ None
told_after holds None None told is = refl
told_after holds None (Some f) told is = refl
told_after holds (Some f) None told is = absurd told
told_after holds (Some f) (Some g) told is = absurd (let no : Some g ≡ None = is in cc)

module _ {D : Type 0} (contents : D → Option (List ℕ)) (may_leave : D → List ℕ → Type 0) (moment : D → ℕ) (left_since : D → ℕ → List ℕ → Type 0) where
  -- a call that changes nothing
  pub at_after : (old new : D) (file : List ℕ) → Stays contents may_leave old new → IsAt contents may_leave old file → IsAt contents may_leave new file
  at_after old new file stays here = record { told = stays.same ∙ here.told; only = λ c left. here.only c (stays.stop c left) }

  pub only_file : (disk : D) (file : List ℕ) (P : List ℕ → Type 0) → IsAt contents may_leave disk file → P file → (c : List ℕ) → may_leave disk c → P c
  only_file disk file P here p c left = subst P (sym (here.only c left)) p

  -- before the first call, and after one that changes nothing
  pub starts : (disk : D) (file : List ℕ) (P : List ℕ → Type 0)
      → ((d : D) (c : List ℕ) → left_since d (moment d) c → may_leave d c) → IsAt contents may_leave disk file → P file
      → LeavesOnly moment left_since disk disk P
  starts disk file P now here p = started moment left_since disk P (λ c left. only_file disk file P here p c (now disk c left))

  pub looks : (old new : D) (file : List ℕ) (P : List ℕ → Type 0)
      → ((d : D) (c : List ℕ) → left_since d (moment d) c → may_leave d c) → Stays contents may_leave old new
      → Elapses (moment old) (moment new) (left_since old) (left_since new) (may_leave new)
      → IsAt contents may_leave old file → P file → LeavesOnly moment left_since old new P
  looks old new file P now stays time here p =
      goes_on moment left_since old old new P (may_leave new) (starts old file P now here p) time (only_file new file P (at_after old new file stays here) p)

  -- the gate is closed
  pub shut_by_write : (new : D) (place : ℕ) (file : List ℕ) → place ≡ next_place (standing_of file) → has_closed_gate place file ≡ false
      → IsAt contents may_leave new (written place (0 ∷ []) file) → IsShut contents may_leave new file place
  shut_by_write new place file e h here =
      let closes = closes_at place file e h in
      record { now = written place (0 ∷ []) file; here = here; standing = closes.standing; closed = closes.closed }

  pub shut_before : (new : D) (place : ℕ) (file : List ℕ) → has_closed_gate place file ≡ true
      → IsAt contents may_leave new file → IsShut contents may_leave new file place
  shut_before new place file h here = record { now = file; here = here; standing = refl; closed = h }

  pub close_leaves : (old mid new : D) (place : ℕ) (file : List ℕ)
      → ((d : D) (c : List ℕ) → left_since d (moment d) c → may_leave d c) → Stays contents may_leave old mid
      → Elapses (moment old) (moment mid) (left_since old) (left_since mid) (may_leave mid)
      → IsAt contents may_leave old file → place ≡ next_place (standing_of file) → has_closed_gate place file ≡ false
      → LeavesOnly moment left_since mid new (Torn place 1 file) → LeavesOnly moment left_since old new (λ c. standing_of c ≡ standing_of file)
  close_leaves old mid new place file now stays time here e h torn =
      let P : List ℕ → Type 0 = λ c. standing_of c ≡ standing_of file in
      joins moment left_since old mid new P (looks old mid file P now stays time here refl)
      (weaker moment left_since mid new (Torn place 1 file) P (closes_at place file e h).stop torn)

  -- the slot is filled
  pub full_by_write : (new : D) (place : ℕ) (file bytes : List ℕ) (slot : Slot) → place ≡ next_place (standing_of file)
      → has_closed_gate place file ≡ true → bytes ≡ behind_gate slot → length slot.body ≤ MAX_BODY
      → IsAt contents may_leave new (written (place + 1) bytes file) → IsFull contents may_leave new file place slot
  full_by_write new place file bytes slot e h is short here =
      let fills = fills_at place file slot e h short in
      let P : List ℕ → Type 0 = λ b. IsAt contents may_leave new (written (place + 1) b file) in
      record { now = written (place + 1) (behind_gate slot) file; here = subst P is here; standing = fills.standing; filled = fills.filled }

  pub fill_leaves : (old new : D) (place : ℕ) (file bytes : List ℕ) (slot : Slot) → place ≡ next_place (standing_of file)
      → has_closed_gate place file ≡ true → bytes ≡ behind_gate slot → length slot.body ≤ MAX_BODY
      → LeavesOnly moment left_since old new (Torn (place + 1) (length bytes) file)
      → LeavesOnly moment left_since old new (λ c. standing_of c ≡ standing_of file)
  fill_leaves old new place file bytes slot e h is short torn =
      let Q : List ℕ → Type 0 = λ b. LeavesOnly moment left_since old new (Torn (place + 1) (length b) file) in
      weaker moment left_since old new (Torn (place + 1) (length (behind_gate slot)) file)
      (λ c. standing_of c ≡ standing_of file) (fills_at place file slot e h short).stop (subst Q is torn)

  -- the gate is opened
  pub stands_by_write : (new : D) (place : ℕ) (file body : List ℕ) → place ≡ next_place (standing_of file)
      → MaySave file body → IsFilled place (next_slot (standing_of file) body) file
      → IsAt contents may_leave new (written place (1 ∷ []) file) → StandsFor contents may_leave new (standing_after (standing_of file) body)
  stands_by_write new place file body e m filled here =
      record { now = written place (1 ∷ []) file; here = here; standing_is = (opens_at place file body e m filled).standing }

  pub open_leaves : (old new : D) (place : ℕ) (file body : List ℕ) → place ≡ next_place (standing_of file)
      → MaySave file body → IsFilled place (next_slot (standing_of file) body) file
      → LeavesOnly moment left_since old new (Torn place 1 file) → LeavesOnly moment left_since old new (IsBeforeOrAfter file body)
  open_leaves old new place file body e m filled torn =
      weaker moment left_since old new (Torn place 1 file) (IsBeforeOrAfter file body) (opens_at place file body e m filled).stop torn

  -- the second step behind the first
  pub full_after : (mid new : D) (place : ℕ) (file body behind : List ℕ) → IsSaving file body place behind → IsShut contents may_leave mid file place
      → ((f : List ℕ) (slot : Slot) → IsAt contents may_leave mid f → place ≡ next_place (standing_of f) → has_closed_gate place f ≡ true
      → behind ≡ behind_gate slot → length slot.body ≤ MAX_BODY → IsFull contents may_leave new f place slot)
      → IsFull contents may_leave new file place (next_slot (standing_of file) body)
  full_after mid new place file body behind saving shut fill =
      let full = fill shut.now (next_slot (standing_of file) body) shut.here
      (saving.place_is ∙ ap next_place (sym shut.standing)) shut.closed saving.behind_is saving.may.short in
      record { now = full.now; here = full.here; standing = full.standing ∙ shut.standing; filled = full.filled }

  pub two_leave : (old mid new : D) (place : ℕ) (file body behind : List ℕ) → IsSaving file body place behind
      → LeavesOnly moment left_since old mid (λ c. standing_of c ≡ standing_of file) → IsShut contents may_leave mid file place
      → ((f : List ℕ) (slot : Slot) → IsAt contents may_leave mid f → place ≡ next_place (standing_of f)
      → has_closed_gate place f ≡ true → behind ≡ behind_gate slot → length slot.body ≤ MAX_BODY
      → LeavesOnly moment left_since mid new (λ c. standing_of c ≡ standing_of f))
      → LeavesOnly moment left_since old new (λ c. standing_of c ≡ standing_of file)
  two_leave old mid new place file body behind saving first shut fill =
      let P : List ℕ → Type 0 = λ c. standing_of c ≡ standing_of file in
      let second = fill shut.now (next_slot (standing_of file) body) shut.here
      (saving.place_is ∙ ap next_place (sym shut.standing)) shut.closed saving.behind_is saving.may.short in
      joins moment left_since old mid new P first
      (weaker moment left_since mid new (λ c. standing_of c ≡ standing_of shut.now) P (λ c e. e ∙ shut.standing) second)

  -- a stop leaves what stood before, or the new body
  pub before_at_least : (old new : D) (file body : List ℕ) → LeavesOnly moment left_since old new (λ c. standing_of c ≡ standing_of file)
      → LeavesOnly moment left_since old new (IsBeforeOrAfter file body)
  before_at_least old new file body l = weaker moment left_since old new (λ c. standing_of c ≡ standing_of file) (IsBeforeOrAfter file body) (λ c e. inl e) l

  -- the third step behind the others
  pub three_leave : (old mid new : D) (place : ℕ) (file body behind : List ℕ) → IsSaving file body place behind
      → LeavesOnly moment left_since old mid (λ c. standing_of c ≡ standing_of file)
      → IsFull contents may_leave mid file place (next_slot (standing_of file) body)
      → ((f b : List ℕ) → IsAt contents may_leave mid f → MaySave f b → place ≡ next_place (standing_of f)
      → IsFilled place (next_slot (standing_of f) b) f → LeavesOnly moment left_since mid new (IsBeforeOrAfter f b))
      → LeavesOnly moment left_since old new (IsBeforeOrAfter file body)
  three_leave old mid new place file body behind saving so_far full open_ =
      let e = full.standing in
      let P : Option Standing → Type 0 = λ s. IsFilled place (next_slot s body) full.now in
      let third = open_ full.now body full.here (may_save_too file full.now body e saving.may)
      (saving.place_is ∙ ap next_place (sym e)) (subst P (sym e) full.filled) in
      joins moment left_since old mid new (IsBeforeOrAfter file body) (before_at_least old mid file body so_far)
      (weaker moment left_since mid new (IsBeforeOrAfter full.now body)
      (IsBeforeOrAfter file body) (λ c either. same_either file full.now body c e either) third)

  pub stands_after : (mid new : D) (place : ℕ) (file body behind : List ℕ) → IsSaving file body place behind
      → IsFull contents may_leave mid file place (next_slot (standing_of file) body)
      → ((f b : List ℕ) → IsAt contents may_leave mid f → MaySave f b → place ≡ next_place (standing_of f) → IsFilled place (next_slot (standing_of f) b) f
      → StandsFor contents may_leave new (standing_after (standing_of f) b))
      → StandsFor contents may_leave new (standing_after (standing_of file) body)
  stands_after mid new place file body behind saving full open_ =
      let e = full.standing in
      let P : Option Standing → Type 0 = λ s. IsFilled place (next_slot s body) full.now in
      let Q : Option Standing → Type 0 = λ s. StandsFor contents may_leave new (standing_after s body) in
      subst Q e (open_ full.now body full.here (may_save_too file full.now body e saving.may)
      (saving.place_is ∙ ap next_place (sym e)) (subst P (sym e) full.filled))

  -- a save that is done leaves the store ready for the next one
  pub ready_after : (old new : D) (standing : Option Standing) (body : List ℕ)
      → ((file : List ℕ) → contents old ≡ Some file → Only file (may_leave old) × (standing_of file ≡ standing))
      → (contents old ≡ None → contents new ≡ None)
      → ((file : List ℕ) → contents old ≡ Some file → StandsFor contents may_leave new (standing_after (standing_of file) body))
      → (file : List ℕ) → contents new ≡ Some file → Only file (may_leave new) × (standing_of file ≡ Some (standing_after standing body))
  ready_after old new standing body ready untold done file told = go (contents old) refl
    where
      go : (o : Option (List ℕ)) → contents old ≡ o → Only file (may_leave new) × (standing_of file ≡ Some (standing_after standing body))
      go None e = absurd (let no : Some file ≡ None = sym told ∙ untold e in cc)
      go (Some f) e =
          let after = done f e in
          let same : after.now ≡ file = ap (λ (o : Option (List ℕ)). unwrap_or o []) (sym after.here.told ∙ told) in
          let P : List ℕ → Type 0 = λ n. Only n (may_leave new) × (standing_of n ≡ Some (standing_after standing body)) in
          let Q : Option Standing → Type 0 = λ s. standing_of after.now ≡ Some (standing_after s body) in
          subst P same (after.here.only, subst Q (ready f e).1 after.standing_is)

  -- a store that was opened is ready
  pub opened_ready : (old new : D) (standing : Option Standing) → contents new ≡ contents old
      → ((file : List ℕ) → contents old ≡ Some file → IsAt contents may_leave new file × (standing ≡ standing_of file))
      → (file : List ℕ) → contents new ≡ Some file → Only file (may_leave new) × (standing_of file ≡ standing)
  opened_ready old new standing same opened file told =
      let both = opened file (sym same ∙ told) in
      (both.0.only, sym both.1)
