-- A save in terms of the store: what a stop leaves of it, and why it was not refused.
use Rattle.std.proofs.Common.{◌≡◌, ℕ, List, [], ◌∷◌, true, false, refl, sym, ap, ◌∙◌, inl, inr}
use Rattle.std.specs.Prelude.{Bool, ◌⊎◌, Option, Some, None}
use Rattle.std.proofs.lemmas.Slice.Eq.{bytes_eq-Decides}
use Rattle.ads_served.specs.Standing as served
use Rattle.spec_store.specs.Disk.{LeavesOnly}
use Rattle.spec_store.specs.Laws.{IsBeforeOrAfter}
use Rattle.spec_store.specs.Slots.{Standing, standing_of}
use Rattle.spec_store.specs.Saves.{is_over_limit, standing_after}
use Rattle.spec_store.specs.Runs.{IsOneOf}
use Rattle.persist_store.specs.Steps.{StandsFor}
use Rattle.persist_store.specs.Store.{StoreState, body_of, IsReady, IsRefused}
use Rattle.persist_store.specs.declared.saved.Saved.{Saved}
use Rattle.persist_store.specs.declared.saved.Saved.TheVariants as saved
use Rattle.persist_store.proofs.Moments.{weaker}
use Rattle.keep_loop.specs.declared.save_end.SaveEnd.{SaveEnd}
use Rattle.keep_loop.specs.declared.save_end.SaveEnd.TheVariants as save
use Rattle.keep_loop.specs.Bodies.{BodyOf, is_standing}
use Rattle.keep_loop.specs.Saving.{LeavesEach, StaysTold, StandsForSome, StaysSame, AfterSave}

before_or_after : (standing of_file : Option Standing) (body : List ℕ) (one : Option Standing) → of_file ≡ standing
    → (one ≡ of_file) ⊎ (one ≡ Some (standing_after of_file body)) → IsOneOf standing (body ∷ []) one
unfolding IsOneOf
before_or_after standing of_file body one same (inl before) = inl (before ∙ same)
before_or_after standing of_file body one same (inr after) = inr (after ∙ ap (λ t. Some (standing_after t body)) same)

module _ {D : Type 0} (contents : D → Option (List ℕ)) (may_leave : D → List ℕ → Type 0) (moment : D → ℕ) (left_since : D → ℕ → List ℕ → Type 0) where
  -- what a stop leaves of a save, whatever it answered
  pub left_by_save : (old new : D) (store : StoreState) (body : List ℕ) → IsReady contents may_leave old store → store.shut ≡ false
      → ((file : List ℕ) → contents old ≡ Some file → store.shut ≡ false → LeavesOnly moment left_since old new (IsBeforeOrAfter file body))
      → LeavesEach contents moment left_since old new store.standing (body ∷ [])
  left_by_save old new store body ready open_ stop = λ file told.
      let here = ready file told open_ in
      weaker moment left_since old new (IsBeforeOrAfter file body) (λ c. IsOneOf store.standing (body ∷ []) (standing_of c))
      (λ c either. before_or_after store.standing (standing_of file) body (standing_of c) here.1 either) (stop file told open_)

  -- the disk still tells after a save that is done
  pub told_by_save : (old new : D) (body : List ℕ) (answer : Saved) → answer ≡ saved.Done
      → (answer ≡ saved.Done → (file : List ℕ) → contents old ≡ Some file → StandsFor contents may_leave new (standing_after (standing_of file) body))
      → StaysTold contents old new
  told_by_save old new body answer is done = λ file told. let stands = done is file told in (stands.now, stands.here.told)

not_over : (over : Bool) → (over ≡ true → ⊥) → over ≡ false
not_over true no_ = absurd (no_ refl)
not_over false no_ = refl

-- a save that was begun is not over the limit
pub done_within : (store : StoreState) (body : List ℕ) → store.shut ≡ false → IsRefused store body saved.Done → is_over_limit store.standing body ≡ false
done_within store body open_ refused = not_over (is_over_limit store.standing body) (λ over. (let e : saved.Done ≡ saved.Limit = refused.1.1 open_ over in cc))

pub failed_within : (store : StoreState) (body : List ℕ) → store.shut ≡ false → IsRefused store body saved.Failed → is_over_limit store.standing body ≡ false
failed_within store body open_ refused =
    not_over (is_over_limit store.standing body) (λ over. (let e : saved.Failed ≡ saved.Limit = refused.1.1 open_ over in cc))

-- a body may be seen otherwise
pub saved_to : {D : Type 0} (by : SaveEnd) (First Then : List ℕ → Type 0) (contents : D → Option (List ℕ))
    (moment : D → ℕ) (left_since : D → ℕ → List ℕ → Type 0) (old_disk new_disk : D) (old new : StoreState)
    → ((body : List ℕ) → First body → Then body) → AfterSave by First contents moment left_since old_disk new_disk old new
    → AfterSave by Then contents moment left_since old_disk new_disk old new
saved_to save.Same First Then contents moment left_since old_disk new_disk old new to s =
    record { body = s.body; is = to s.body s.is; stands = s.stands; disk = s.disk; store = s.store }
saved_to save.Saved First Then contents moment left_since old_disk new_disk old new to s =
    record { body = s.body; is = to s.body s.is; differs = s.differs; within = s.within; store = s.store; told = s.told; left = s.left }
saved_to save.Failed First Then contents moment left_since old_disk new_disk old new to s =
    (record { body = s.0.body; is = to s.0.body s.0.is; differs = s.0.differs; left = s.0.left }, s.1)
saved_to save.Limit First Then contents moment left_since old_disk new_disk old new to s =
    (record { body = s.0.body; is = to s.0.body s.0.is; differs = s.0.differs }, s.1, s.2)
saved_to save.Memory First Then contents moment left_since old_disk new_disk old new to (inl same) = inl same
saved_to save.Memory First Then contents moment left_since old_disk new_disk old new to (inr s) =
    inr (record { body = s.body; is = to s.body s.is; differs = s.differs; left = s.left })

-- the body of what is served stands already
pub stays_same : {W C D : Type 0} (of_world : BodyOf W) (serves : served.Standing W C → Type 0) (disk : D) (store : StoreState) → StandsForSome serves
    → ((x : served.Standing W C) → serves x → true ≡ is_standing (body_of store) (of_world x.running.state.world))
    → StaysSame (λ body. (x : served.Standing W C) → serves x → body ≡ of_world x.running.state.world) disk disk store store
stays_same {W} {C} {D} of_world serves disk store some same = by_stood (body_of store) refl same
  where
    by_stood : (stood : Option (List ℕ)) → body_of store ≡ stood
        → ((x : served.Standing W C) → serves x → true ≡ is_standing stood (of_world x.running.state.world))
        → StaysSame (λ body. (x : served.Standing W C) → serves x → body ≡ of_world x.running.state.world) disk disk store store
    by_stood None e is = absurd (let never : true ≡ false = is some.standing some.stands in cc)
    by_stood (Some body) e is = record {
      body = body;
      is = λ x stands. (bytes_eq-Decides body (of_world x.running.state.world)).0 (sym (is x stands));
      stands = ap (λ o. is_standing o body) e ∙ (bytes_eq-Decides body body).1 refl;
      disk = refl;
      store = refl;
    }
