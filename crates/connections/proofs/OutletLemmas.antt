-- An outlet by its number and by its place: what is read of it, and its changes.
use Rattle.std.proofs.Common.{◌≡◌, ℕ, zero, suc, ◌≤◌, List, [], ◌∷◌, length, get_or, refl, sym, ap, ◌∙◌, arith}
use Rattle.std.specs.Prelude.{◌==◌, remove, Option, Some, None, Result, Ok, Err, OnOk, OnErr}
use Rattle.std.specs.Map.{keys_of}
use Rattle.std.proofs.lemmas.Bool.{cond-true, cond-false}
use Rattle.indexmap.specs.IndexMap.{set_value_at}
use Rattle.spec_machine.proofs.Find.{test_same, test_other}
use Rattle.connections.specs.declared.outlet.Outlet.{Outlet}
use Rattle.connections.specs.Entries.{IsEntry, IsNoEntry}
use Rattle.connections.specs.Outlets.{Outlets, outlet_at, read_among, change_of, change_at, without_number}
use Rattle.connections.proofs.EntryLemmas.{entry_behind, no_first, none_behind_first}

-- what is read of a number, at its place
pub read_at : {X : Type 0} (read : Outlet → X) (none : X) (es : Outlets) (n i : ℕ) (o : Outlet)
    → IsEntry es n i → outlet_at es i ≡ Some o → read_among read none es n ≡ read o
read_at read none [] n i o at value = absurd (omega (arith, at.within))
read_at read none (e ∷ es) n zero o at value =
    let same : e.1 ≡ o = cc in
    cond-true (e.0 == n) (read e.1) (read_among read none es n) (test_same e.0 n (at.number 0)) ∙ ap read same
read_at read none (e ∷ es) n (suc i) o at value =
    cond-false (e.0 == n) (read e.1) (read_among read none es n) (test_other e.0 n (at.first 0 0 (omega arith)))
    ∙ read_at read none es n i o (entry_behind e es n i at) value

pub read_absent : {X : Type 0} (read : Outlet → X) (none : X) (es : Outlets) (n : ℕ) → IsNoEntry es n → read_among read none es n ≡ none
read_absent read none [] n absent_ = refl
read_absent read none (e ∷ es) n absent_ =
    cond-false (e.0 == n) (read e.1) (read_among read none es n) (test_other e.0 n (no_first e es n absent_))
    ∙ read_absent read none es n (none_behind_first e es n absent_)

-- after a change
pub read_changed : {X : Type 0} (read : Outlet → X) (none : X) (change : Outlet → Outlet) (es : Outlets) (n i : ℕ) (o : Outlet)
    → IsEntry es n i → outlet_at es i ≡ Some o → read_among read none (change_of change n es) n ≡ read (change o)
read_changed read none change [] n i o at value = absurd (omega (arith, at.within))
read_changed read none change (e ∷ es) n zero o at value =
    let same : e.1 ≡ o = cc in
    let t = test_same e.0 n (at.number 0) in
    ap (λ (fs : Outlets). read_among read none fs n) (cond-true (e.0 == n) ((e.0, change e.1) ∷ es) (e ∷ change_of change n es) t)
    ∙ cond-true (e.0 == n) (read (change e.1)) (read_among read none es n) t ∙ ap (λ p. read (change p)) same
read_changed read none change (e ∷ es) n (suc i) o at value =
    let t = test_other e.0 n (at.first 0 0 (omega arith)) in
    ap (λ (fs : Outlets). read_among read none fs n) (cond-false (e.0 == n) ((e.0, change e.1) ∷ es) (e ∷ change_of change n es) t)
    ∙ cond-false (e.0 == n) (read e.1) (read_among read none (change_of change n es) n) t
    ∙ read_changed read none change es n i o (entry_behind e es n i at) value

-- a value that is set at a place is a change there
pub set_is : (change : Outlet → Outlet) (es : Outlets) (i : ℕ) (o p : Outlet) → outlet_at es i ≡ Some o → p ≡ change o
    → set_value_at es i p ≡ change_at change i es
set_is change [] i o p value same = refl
set_is change (e ∷ es) zero o p value same = let at : e.1 ≡ o = cc in ap (λ q. (e.0, q) ∷ es) (same ∙ ap change (sym at))
set_is change (e ∷ es) (suc i) o p value same = ap (λ fs. e ∷ fs) (set_is change es i o p value same)

-- a change of a number is one at its place
pub changed_at : (change : Outlet → Outlet) (es : Outlets) (n i : ℕ) → IsEntry es n i → change_of change n es ≡ change_at change i es
changed_at change [] n i at = refl
changed_at change (e ∷ es) n zero at = cond-true (e.0 == n) ((e.0, change e.1) ∷ es) (e ∷ change_of change n es) (test_same e.0 n (at.number 0))
changed_at change (e ∷ es) n (suc i) at =
    cond-false (e.0 == n) ((e.0, change e.1) ∷ es) (e ∷ change_of change n es) (test_other e.0 n (at.first 0 0 (omega arith)))
    ∙ ap (λ fs. e ∷ fs) (changed_at change es n i (entry_behind e es n i at))

-- the same, where these are the outlets that a contract sees
pub set_of : (change : Outlet → Outlet) (es seen : Outlets) (n i : ℕ) (o p : Outlet) → es ≡ seen
    → IsEntry seen n i → outlet_at es i ≡ Some o → p ≡ change o → set_value_at es i p ≡ change_of change n seen
set_of change es seen n i o p view at value same =
    set_is change es i o p value same ∙ ap (λ (fs : Outlets). change_at change i fs) view ∙ sym (changed_at change seen n i at)

pub set_seen : (change : Outlet → Outlet) (es seen : Outlets) (i : ℕ) (o p : Outlet) → es ≡ seen
    → outlet_at es i ≡ Some o → p ≡ change o → set_value_at es i p ≡ change_at change i seen
set_seen change es seen i o p view value same = set_is change es i o p value same ∙ ap (λ (fs : Outlets). change_at change i fs) view

set_itself : (es : Outlets) (i : ℕ) (o : Outlet) → outlet_at es i ≡ Some o → set_value_at es i o ≡ es
set_itself [] i o value = refl
set_itself (e ∷ es) zero o value = let at : e.1 ≡ o = cc in ap (λ q. (e.0, q) ∷ es) (sym at)
set_itself (e ∷ es) (suc i) o value = ap (λ fs. e ∷ fs) (set_itself es i o value)

pub set_ok : {A E : Type 0} (r : Result A E) (change : Outlet → Outlet) (es seen : Outlets) (i : ℕ) (o p : Outlet) → es ≡ seen
    → outlet_at es i ≡ Some o → OnOk r (p ≡ change o) → OnOk r (set_value_at es i p ≡ change_at change i seen)
set_ok (Ok a) change es seen i o p view value same = set_seen change es seen i o p view value same
set_ok (Err e) change es seen i o p view value same = tt

pub set_err : {A E : Type 0} (r : Result A E) (es seen : Outlets) (i : ℕ) (o p : Outlet) → es ≡ seen
    → outlet_at es i ≡ Some o → OnErr r (p ≡ o) → OnErr r (set_value_at es i p ≡ seen)
set_err (Ok a) es seen i o p view value same = tt
set_err (Err e) es seen i o p view value same = ap (λ q. set_value_at es i q) same ∙ set_itself es i o value ∙ view

pub unchanged_of : (change : Outlet → Outlet) (es : Outlets) (n : ℕ) → IsNoEntry es n → change_of change n es ≡ es
unchanged_of change [] n none = refl
unchanged_of change (e ∷ es) n none =
    cond-false (e.0 == n) ((e.0, change e.1) ∷ es) (e ∷ change_of change n es) (test_other e.0 n (no_first e es n none))
    ∙ ap (λ fs. e ∷ fs) (unchanged_of change es n (none_behind_first e es n none))

pub unchanged_at : (change : Outlet → Outlet) (es : Outlets) (i : ℕ) → length es ≤ i → change_at change i es ≡ es
unchanged_at change [] i past = refl
unchanged_at change (e ∷ es) zero past = absurd (omega (arith, past))
unchanged_at change (e ∷ es) (suc i) past = ap (λ fs. e ∷ fs) (unchanged_at change es i (omega (arith, past)))

-- nothing is read behind the last
pub no_outlet : (es : Outlets) (i : ℕ) → length es ≤ i → outlet_at es i ≡ None
no_outlet [] i past = refl
no_outlet (e ∷ es) zero past = absurd (omega (arith, past))
no_outlet (e ∷ es) (suc i) past = no_outlet es i (omega (arith, past))

-- one that goes is taken out at its place
pub without_at : (es : Outlets) (n i : ℕ) → IsEntry es n i → without_number n es ≡ remove es i
without_at [] n i at = absurd (omega (arith, at.within))
without_at (e ∷ es) n zero at = cond-true (e.0 == n) es (e ∷ without_number n es) (test_same e.0 n (at.number 0))
without_at (e ∷ es) n (suc i) at =
    cond-false (e.0 == n) es (e ∷ without_number n es) (test_other e.0 n (at.first 0 0 (omega arith)))
    ∙ ap (λ fs. e ∷ fs) (without_at es n i (entry_behind e es n i at))

pub without_none : (es : Outlets) (n : ℕ) → IsNoEntry es n → without_number n es ≡ es
without_none [] n none = refl
without_none (e ∷ es) n none =
    cond-false (e.0 == n) es (e ∷ without_number n es) (test_other e.0 n (no_first e es n none))
    ∙ ap (λ fs. e ∷ fs) (without_none es n (none_behind_first e es n none))

-- a change keeps the numbers
pub keys_changed : (change : Outlet → Outlet) (es : Outlets) (i : ℕ) → keys_of (change_at change i es) ≡ keys_of es
keys_changed change [] i = refl
keys_changed change (e ∷ es) zero = refl
keys_changed change (e ∷ es) (suc i) = ap (λ ks. e.0 ∷ ks) (keys_changed change es i)

pub length_changed : (change : Outlet → Outlet) (es : Outlets) (i : ℕ) → length (change_at change i es) ≡ length es
length_changed change [] i = refl
length_changed change (e ∷ es) zero = refl
length_changed change (e ∷ es) (suc i) = ap suc (length_changed change es i)

pub entry_changed : (change : Outlet → Outlet) (es : Outlets) (n i j : ℕ) → IsEntry es n i → IsEntry (change_at change j es) n i
entry_changed change es n i j at = record {
  within = omega (arith, at.within, length_changed change es j);
  number = λ d. ap (λ (ks : List ℕ). get_or ks i d) (keys_changed change es j) ∙ at.number d;
  first = λ k d below same. at.first k d below (sym (ap (λ (ks : List ℕ). get_or ks k d) (keys_changed change es j)) ∙ same);
}

-- what is there after a change
pub outlet_changed : (change : Outlet → Outlet) (es : Outlets) (i : ℕ) (o : Outlet) → outlet_at es i ≡ Some o
    → outlet_at (change_at change i es) i ≡ Some (change o)
outlet_changed change [] i o here = absurd (let none : ◌≡◌ {A = Option Outlet} None (Some o) = here in cc)
outlet_changed change (e ∷ es) zero o here = let same : e.1 ≡ o = cc in ap (λ p. Some (change p)) same
outlet_changed change (e ∷ es) (suc i) o here = outlet_changed change es i o here

-- changes that make the same of what is there
pub change_same : (first second : Outlet → Outlet) (es : Outlets) (i : ℕ) (o : Outlet) → outlet_at es i ≡ Some o → first o ≡ second o
    → change_at first i es ≡ change_at second i es
change_same first second [] i o here same = refl
change_same first second (e ∷ es) zero o here same =
    let at : e.1 ≡ o = cc in
    ap (λ p. (e.0, p) ∷ es) (ap first at ∙ same ∙ ap second (sym at))
change_same first second (e ∷ es) (suc i) o here same = ap (λ fs. e ∷ fs) (change_same first second es i o here same)

-- two changes, one after the other
pub change_twice : (first second : Outlet → Outlet) (es : Outlets) (i : ℕ) → change_at second i (change_at first i es) ≡ change_at (λ o. second (first o)) i es
change_twice first second [] i = refl
change_twice first second (e ∷ es) zero = refl
change_twice first second (e ∷ es) (suc i) = ap (λ fs. e ∷ fs) (change_twice first second es i)
