-- Entries of a map by their numbers: where a number is found.
use Rattle.std.proofs.Common.{◌≡◌, ◌≢◌, ◌⊎◌, ℕ, zero, suc, ◌+◌, ◌<◌, ◌≤◌, List, [], ◌∷◌, ◌++◌, length, get_or}
use Rattle.std.proofs.Common.{false, refl, sym, ap, ◌∙◌, inl, inr, nat_eq, true, arith}
use Rattle.std.specs.Prelude.{◌==◌, not, nat_lt, slice_get, option_map, Option, Some, None, IfSome, IfNone, position}
use Rattle.std.specs.List.{IsDistinct, AllByRecursion, prefix_len}
use Rattle.std.specs.Map.{keys_of}
use Rattle.std.proofs.lemmas.List.Quantifiers.{position-Some}
use Rattle.std.proofs.lemmas.Bool.{cases_Bool, cond-true, cond-false, eqb-true, ltb-false, not_from_true, not_from_false}
use Rattle.indexmap.specs.IndexMap.{insert_entry}
use Rattle.spec_machine.proofs.Find.{test_same, test_other}
use Rattle.connections.specs.Entries.{IsEntry, IsNoEntry}

pub keys_length : {X : Type 0} (es : List (ℕ × X)) → length (keys_of es) ≡ length es
keys_length [] = refl
keys_length (e ∷ es) = ap suc (keys_length es)

pub found_at : {X : Type 0} (es : List (ℕ × X)) (n i : ℕ) → position (λ k. n == k) (keys_of es) ≡ Some i → IsEntry es n i
found_at es n i e =
    let at = position-Some (λ k. n == k) (keys_of es) i in
    record {
      within = omega (arith, (at 0 e).0, keys_length es);
      number = λ d. sym (eqb-true n (get_or (keys_of es) i d) (at d e).1);
      first = λ k d below same. let no = sym ((at d e).2 k below) ∙ test_same n (get_or (keys_of es) k d) (sym same) in cc;
    }

-- the entry behind the first
pub entry_behind : {X : Type 0} (e : ℕ × X) (es : List (ℕ × X)) (n i : ℕ) → IsEntry (e ∷ es) n (suc i) → IsEntry es n i
entry_behind e es n i at = record {
  within = omega (arith, at.within);
  number = at.number;
  first = λ k d below. at.first (suc k) d (omega (arith, below));
}

-- among keys of which none is equal to one before it, the place of a number is the first
none_before : {X : Type 0} (es : List (ℕ × X)) (x n i : ℕ) → AllByRecursion (λ y. nat_eq x y ≡ false) (keys_of es)
    → option_map (λ (e : ℕ × X). e.0) (slice_get es i) ≡ Some n → x ≢ n
none_before [] x n i none there same = absurd (let e : ◌≡◌ {A = Option ℕ} None (Some n) = there in cc)
none_before (e ∷ es) x n zero none there same =
    let some : ◌≡◌ {A = Option ℕ} (Some e.0) (Some n) = there in
    let at : e.0 ≡ n = cc in
    let yes : nat_eq x e.0 ≡ true = test_same x e.0 (same ∙ sym at) in
    let not_there : nat_eq x e.0 ≡ false = none.0 in
    cc
none_before (e ∷ es) x n (suc i) none there same = none_before es x n i none.1 there same

first_or_later : {X : Type 0} (e : ℕ × X) (es : List (ℕ × X)) (n i : ℕ) → e.0 ≢ n → ((k d : ℕ) → k < i → get_or (keys_of es) k d ≢ n)
    → (k d : ℕ) → k < suc i → get_or (keys_of (e ∷ es)) k d ≢ n
first_or_later e es n i head rest zero d below same = head same
first_or_later e es n i head rest (suc k) d below same = rest k d (omega (arith, below)) same

pub entry_of_key : {X : Type 0} (es : List (ℕ × X)) (n i : ℕ) → IsDistinct nat_eq (keys_of es)
    → option_map (λ (e : ℕ × X). e.0) (slice_get es i) ≡ Some n → IsEntry es n i
unfolding IsDistinct
entry_of_key [] n i distinct there = absurd (let e : ◌≡◌ {A = Option ℕ} None (Some n) = there in cc)
entry_of_key (e ∷ es) n zero distinct there =
    let some : ◌≡◌ {A = Option ℕ} (Some e.0) (Some n) = there in
    let at : e.0 ≡ n = cc in
    record {
      within = omega arith;
      number = λ d. at;
      first = λ k d below same. absurd (omega (arith, below));
    }
entry_of_key (e ∷ es) n (suc i) distinct there =
    let rest = entry_of_key es n i distinct.1 there in
    record {
      within = omega (arith, rest.within);
      number = λ d. rest.number d;
      first = λ k d below. first_or_later e es n i (none_before es e.0 n i distinct.0 there) rest.first k d below;
    }

-- what holds of each key behind the first, and of the first
none_of_all : (j : ℕ) (js : List ℕ) (n : ℕ) → (n == j) ≡ false
    → ((k d : ℕ) → k < length js → get_or js k d ≢ n) → (k d : ℕ) → k < length (j ∷ js) → get_or (j ∷ js) k d ≢ n
none_of_all j js n other rest zero d below same = let no = sym other ∙ test_same n j (sym same) in cc
none_of_all j js n other rest (suc k) d below same = rest k d (omega (arith, below)) same

none_at : (ks : List ℕ) (n : ℕ) → length ks ≤ prefix_len (λ k. not (n == k)) ks → (k d : ℕ) → k < length ks → get_or ks k d ≢ n
none_at [] n all k d below same = absurd (omega (arith, below))
none_at (j ∷ js) n all k d below same = elim (cases_Bool (n == j)) [
  | inl t ↦
      let stop = cond-false (not (n == j)) (1 + prefix_len (λ k. not (n == k)) js) 0 (not_from_true (n == j) t) in
      absurd (omega (arith, stop, all))
  | inr t ↦
      let go = cond-true (not (n == j)) (1 + prefix_len (λ k. not (n == k)) js) 0 (not_from_false (n == j) t) in
      none_of_all j js n t (λ i e. none_at js n (omega (arith, go, all)) i e) k d below same
]

none_found : (ks : List ℕ) (n : ℕ) → position (λ k. n == k) ks ≡ None → (k d : ℕ) → k < length ks → get_or ks k d ≢ n
none_found ks n e = elim (cases_Bool (nat_lt (prefix_len (λ k. not (n == k)) ks) (length ks))) [
  | inl t ↦ absurd (let some = sym
      (cond-true (nat_lt (prefix_len (λ k. not (n == k)) ks) (length ks)) (Some (prefix_len (λ k. not (n == k)) ks)) None t) ∙ e in cc)
  | inr t ↦ none_at ks n (ltb-false (prefix_len (λ k. not (n == k)) ks) (length ks) t)
]

pub entry_found : {X : Type 0} (o : Option ℕ) (es : List (ℕ × X)) (n : ℕ) → o ≡ position (λ k. n == k) (keys_of es) → IfSome o (IsEntry es n)
entry_found None es n e = tt
entry_found (Some i) es n e = found_at es n i (sym e)

pub entry_absent : {X : Type 0} (o : Option ℕ) (es : List (ℕ × X)) (n : ℕ) → o ≡ position (λ k. n == k) (keys_of es) → IfNone o (IsNoEntry es n)
entry_absent None es n e = none_found (keys_of es) n (sym e)
entry_absent (Some i) es n e = tt

-- a number is there or not
pub record HasEntry {X : Type 0} (es : List (ℕ × X)) (n : ℕ) : Type 0 where
  pub i : ℕ
  pub place : IsEntry es n i

pub entry_or_not : {X : Type 0} (es : List (ℕ × X)) (n : ℕ) → HasEntry es n ⊎ IsNoEntry es n
entry_or_not es n = by (position (λ k. n == k) (keys_of es)) refl
  where
    by : (o : Option ℕ) → o ≡ position (λ k. n == k) (keys_of es) → HasEntry es n ⊎ IsNoEntry es n
    by None e = inr (entry_absent None es n e)
    by (Some i) e = inl (record { i = i; place = entry_found (Some i) es n e })

-- the first of all has another number, and so have those behind it
pub no_first : {X : Type 0} (e : ℕ × X) (es : List (ℕ × X)) (n : ℕ) → IsNoEntry (e ∷ es) n → e.0 ≢ n
no_first e es n none = none 0 0 (omega arith)

pub none_behind_first : {X : Type 0} (e : ℕ × X) (es : List (ℕ × X)) (n : ℕ) → IsNoEntry (e ∷ es) n → IsNoEntry es n
none_behind_first e es n none k d below = none (suc k) d (omega (arith, below))

-- a new number goes last
pub entry_added : {X : Type 0} (es : List (ℕ × X)) (n : ℕ) (x : X) → IsNoEntry es n → insert_entry nat_eq es n x ≡ es ++ (n, x) ∷ []
entry_added [] n x none = refl
entry_added (e ∷ es) n x none =
    cond-false (nat_eq n e.0) ((e.0, x) ∷ es) (e ∷ insert_entry nat_eq es n x) (test_other n e.0 (λ same. no_first e es n none (sym same)))
    ∙ ap (λ fs. e ∷ fs) (entry_added es n x (none_behind_first e es n none))
