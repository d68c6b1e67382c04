-- Saves that go on: which bodies are saved, what stands after them, and what a stop leaves.
use Rattle.std.proofs.Common.{◌≡◌, ℕ, List, [], ◌∷◌, ◌++◌, true, false, refl, sym, ap, ◌∙◌, subst, inl, inr}
use Rattle.std.specs.Prelude.{Bool, ◌||◌, Option, Some, option_map}
use Rattle.std.proofs.lemmas.Bool.{cases_Bool}
use Rattle.spec_store.specs.Disk.{LeavesOnly}
use Rattle.spec_store.specs.Slots.{Standing, standing_of}
use Rattle.spec_store.specs.Saves.{is_over_limit, standing_after}
use Rattle.spec_store.specs.Runs.{standing_after_all, IsOneOf}
use Rattle.persist_store.proofs.Moments.{weaker, joins}
use Rattle.keep_loop.specs.Bodies.{is_standing, saves_in, is_any_over}
use Rattle.keep_loop.specs.Saving.{LeavesEach, StaysTold}

-- the last of some bodies, or what stood before
pub last_of : Option (List ℕ) → List (List ℕ) → Option (List ℕ)
last_of stood [] = stood
last_of stood (body ∷ bodies) = last_of (Some body) bodies

abbrev pub body_in : Option Standing → Option (List ℕ)
body_in standing = option_map (λ (t : Standing). t.slot.body) standing

pub saves-append : (bodies more : List (List ℕ)) (stood : Option (List ℕ))
    → saves_in stood (bodies ++ more) ≡ saves_in stood bodies ++ saves_in (last_of stood (saves_in stood bodies)) more
unfolding saves_in last_of
saves-append [] more stood = refl
saves-append (body ∷ bodies) more stood = elim (cases_Bool (is_standing stood body)) [
  | inl same ↦ rw same (saves-append bodies more stood)
  | inr other ↦ rw other (ap (λ l. body ∷ l) (saves-append bodies more (Some body)))
]

-- a body that stands is not saved
pub saves-same : (stood : Option (List ℕ)) (body : List ℕ) → is_standing stood body ≡ true → saves_in stood (body ∷ []) ≡ []
unfolding saves_in
saves-same stood body same = rw same refl

pub saves-other : (stood : Option (List ℕ)) (body : List ℕ) → is_standing stood body ≡ false → saves_in stood (body ∷ []) ≡ body ∷ []
unfolding saves_in
saves-other stood body other = rw other refl

-- the body that stands after saves
pub body_after : (saves : List (List ℕ)) (standing : Option Standing) → body_in (standing_after_all standing saves) ≡ last_of (body_in standing) saves
unfolding standing_after_all last_of
body_after [] standing = refl
body_after (body ∷ saves) standing = body_after saves (Some (standing_after standing body))

pub standing-append : (saves more : List (List ℕ)) (standing : Option Standing)
    → standing_after_all standing (saves ++ more) ≡ standing_after_all (standing_after_all standing saves) more
unfolding standing_after_all
standing-append [] more standing = refl
standing-append (body ∷ saves) more standing = standing-append saves more (Some (standing_after standing body))

pub standing-one : (standing : Option Standing) (body : List ℕ) → standing_after_all standing (body ∷ []) ≡ Some (standing_after standing body)
unfolding standing_after_all
standing-one standing body = refl

or_assoc : (a b c : Bool) → (a || (b || c)) ≡ ((a || b) || c)
or_assoc true b c = refl
or_assoc false b c = refl

or_false : (a : Bool) → (a || false) ≡ a
or_false true = refl
or_false false = refl

pub over-append : (saves more : List (List ℕ)) (standing : Option Standing)
    → is_any_over standing (saves ++ more) ≡ (is_any_over standing saves || is_any_over (standing_after_all standing saves) more)
unfolding is_any_over standing_after_all
over-append [] more standing = refl
over-append (body ∷ saves) more standing =
    let later = Some (standing_after standing body) in
    ap (λ b. is_over_limit standing body || b) (over-append saves more later)
    ∙ or_assoc (is_over_limit standing body) (is_any_over later saves) (is_any_over (standing_after_all later saves) more)

pub over-one : (standing : Option Standing) (body : List ℕ) → is_any_over standing (body ∷ []) ≡ is_over_limit standing body
unfolding is_any_over
over-one standing body = or_false (is_over_limit standing body)

-- whether a save more is over the limit, where none before it was
pub over_then : (saves : List (List ℕ)) (body : List ℕ) (standing now : Option Standing) (over : Bool)
    → is_any_over standing saves ≡ false → now ≡ standing_after_all standing saves → is_over_limit now body ≡ over
    → is_any_over standing (saves ++ body ∷ []) ≡ over
over_then saves body standing now over none is so =
    over-append saves (body ∷ []) standing ∙ (ap (λ b. b || is_any_over (standing_after_all standing saves) (body ∷ [])) none
    ∙ (over-one (standing_after_all standing saves) body ∙ (ap (λ t. is_over_limit t body) (sym is) ∙ so)))

pub standing_then : (saves : List (List ℕ)) (body : List ℕ) (standing now : Option Standing)
    → now ≡ standing_after_all standing saves → Some (standing_after now body) ≡ standing_after_all standing (saves ++ body ∷ [])
standing_then saves body standing now is =
    ap (λ t. Some (standing_after t body)) is ∙ (sym (standing-one (standing_after_all standing saves) body) ∙ sym (standing-append saves (body ∷ []) standing))

pub first_standing : (saves : List (List ℕ)) (standing one : Option Standing) → one ≡ standing → IsOneOf standing saves one
unfolding IsOneOf
first_standing [] standing one is = is
first_standing (body ∷ saves) standing one is = inl is

-- what is one of some is one of more
pub one_of_first : (saves more : List (List ℕ)) (standing one : Option Standing) → IsOneOf standing saves one → IsOneOf standing (saves ++ more) one
unfolding IsOneOf
one_of_first [] more standing one is = first_standing more standing one is
one_of_first (body ∷ saves) more standing one (inl is) = inl is
one_of_first (body ∷ saves) more standing one (inr later) = inr (one_of_first saves more (Some (standing_after standing body)) one later)

pub one_of_last : (saves more : List (List ℕ)) (standing one : Option Standing)
    → IsOneOf (standing_after_all standing saves) more one → IsOneOf standing (saves ++ more) one
unfolding IsOneOf standing_after_all
one_of_last [] more standing one is = is
one_of_last (body ∷ saves) more standing one later = inr (one_of_last saves more (Some (standing_after standing body)) one later)

module _ {D : Type 0} (contents : D → Option (List ℕ)) (moment : D → ℕ) (left_since : D → ℕ → List ℕ → Type 0) where
  -- a save more, from where the saves before it ended
  pub left_then : (old mid new : D) (standing now : Option Standing) (saves more : List (List ℕ))
      → LeavesEach contents moment left_since old mid standing saves → StaysTold contents old mid
      → now ≡ standing_after_all standing saves → LeavesEach contents moment left_since mid new now more
      → LeavesEach contents moment left_since old new standing (saves ++ more)
  left_then old mid new standing now saves more first told is second = λ file told_old.
      let here = told file told_old in
      let P : Option Standing → Type 0 = λ t. LeavesOnly moment left_since mid new (λ c. IsOneOf t more (standing_of c)) in
      joins moment left_since old mid new (λ c. IsOneOf standing (saves ++ more) (standing_of c))
      (weaker moment left_since old mid (λ c. IsOneOf standing saves (standing_of c)) (λ c. IsOneOf standing (saves ++ more) (standing_of c))
      (λ c one. one_of_first saves more standing (standing_of c) one) (first file told_old))
      (weaker moment left_since mid new (λ c. IsOneOf (standing_after_all standing saves) more (standing_of c))
      (λ c. IsOneOf standing (saves ++ more) (standing_of c))
      (λ c one. one_of_last saves more standing (standing_of c) one) (subst P is (second here.0 here.1)))

  -- a save that was refused, where nothing was done
  pub left_more : (old mid new : D) (standing : Option Standing) (saves more : List (List ℕ))
      → LeavesEach contents moment left_since old mid standing saves → new ≡ mid → LeavesEach contents moment left_since old new standing (saves ++ more)
  left_more old mid new standing saves more first same = λ file told_old.
      let P : D → Type 0 = λ d. LeavesOnly moment left_since old d (λ c. IsOneOf standing (saves ++ more) (standing_of c)) in
      subst P (sym same) (weaker moment left_since old mid (λ c. IsOneOf standing saves (standing_of c)) (λ c. IsOneOf standing (saves ++ more) (standing_of c))
      (λ c one. one_of_first saves more standing (standing_of c) one) (first file told_old))

  pub left_same : (old mid new : D) (standing : Option Standing) (saves : List (List ℕ))
      → LeavesEach contents moment left_since old mid standing saves → new ≡ mid → LeavesEach contents moment left_since old new standing saves
  left_same old mid new standing saves first same =
      let P : D → Type 0 = λ d. LeavesEach contents moment left_since old d standing saves in
      subst P (sym same) first

  pub told_then : (old mid new : D) → StaysTold contents old mid → StaysTold contents mid new → StaysTold contents old new
  told_then old mid new first second = λ file told. let here = first file told in second here.0 here.1

  pub told_same : (old mid new : D) → StaysTold contents old mid → new ≡ mid → StaysTold contents old new
  told_same old mid new first same = let P : D → Type 0 = λ d. StaysTold contents old d in subst P (sym same) first
