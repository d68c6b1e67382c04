-- Which connections are idle while one is touched, opened or gone.
use Rattle.std.proofs.Common.{◌≡◌, ◌≢◌, ℕ, zero, suc, ◌+◌, ◌<◌, ◌≤◌, List, [], ◌∷◌, ◌++◌, length, false, refl, sym, ap, ◌∙◌, subst, inl, inr}
use Rattle.std.proofs.Common.{nat_eq, add-one, arith}
use Rattle.std.specs.Prelude.{remove, Result, Ok, Err, OnOk, OnErr}
use Rattle.std.proofs.lemmas.Bool.{cases_lt}
use Rattle.indexmap.specs.IndexMap.{set_value_at, insert_entry}
use Rattle.connections.specs.declared.touched.Touched.{Touched}
use Rattle.connections.specs.declared.outlet.Outlet.{Outlet}
use Rattle.connections.specs.Entries.{IsNoEntry}
use Rattle.connections.specs.Outlets.{Outlets, outlet_at, fresh_outlet, test_in, is_due_outlet}
use Rattle.connections.specs.Touched.{IsUntouched, OthersIdle, due_at}
use Rattle.connections.proofs.EntryLemmas.{entry_added}

-- the others are as they were
get_value-other : (es : Outlets) (i k : ℕ) (o : Outlet) → k ≢ i → outlet_at (set_value_at es i o) k ≡ outlet_at es k
get_value-other [] i k o other = refl
get_value-other (e ∷ es) zero zero o other = absurd (other refl)
get_value-other (e ∷ es) zero (suc k) o other = refl
get_value-other (e ∷ es) (suc i) zero o other = refl
get_value-other (e ∷ es) (suc i) (suc k) o other = get_value-other es i k o (λ same. other (ap suc same))

-- one that is touched may be anything
pub idle_set : (old new : Touched) (es : Outlets) (i : ℕ) (o : Outlet) → OthersIdle old es
    → ((k : ℕ) → IsUntouched new k → IsUntouched old k × (k ≢ i)) → OthersIdle new (set_value_at es i o)
idle_set old new es i o idle touches k untouched =
    let was = touches k untouched in
    ap (test_in is_due_outlet) (get_value-other es i k o was.1) ∙ idle k was.0

-- one that comes is idle
due_pushed : (es : Outlets) (n k : ℕ) → due_at es k ≡ false → due_at (es ++ (n, fresh_outlet) ∷ []) k ≡ false
due_pushed [] n zero e = refl
due_pushed [] n (suc k) e = refl
due_pushed (d ∷ es) n zero e = e
due_pushed (d ∷ es) n (suc k) e = due_pushed es n k e

-- one that is put in where its number is not there, or is not, for want of memory
pub idle_inserted : {A E : Type 0} (r : Result A E) (touched : Touched) (old new : Outlets) (n : ℕ) (o : Outlet) → o ≡ fresh_outlet
    → OnOk r (new ≡ insert_entry nat_eq old n o) → OnErr r (new ≡ old) → IsNoEntry old n → OthersIdle touched old → OthersIdle touched new
idle_inserted (Ok a) touched old new n o fresh put kept none idle =
    subst (λ (es : Outlets). OthersIdle touched es) (sym (put ∙ entry_added old n o none ∙ ap (λ p. old ++ (n, p) ∷ []) fresh))
    (λ k untouched. due_pushed old n k (idle k untouched))
idle_inserted (Err e) touched old new n o fresh put kept none idle = subst (λ (es : Outlets). OthersIdle touched es) (sym kept) idle

-- one is taken out, and those behind it move up
due_before : (es : Outlets) (i k : ℕ) → k < i → due_at (remove es i) k ≡ due_at es k
due_before es zero k before = absurd (omega (arith, before))
due_before [] (suc i) k before = refl
due_before (e ∷ es) (suc i) zero before = refl
due_before (e ∷ es) (suc i) (suc k) before = due_before es i k (omega (arith, before))

due_behind : (es : Outlets) (i k : ℕ) → i ≤ k → due_at (remove es i) k ≡ due_at es (suc k)
due_behind [] zero k behind = refl
due_behind [] (suc i) k behind = refl
due_behind (e ∷ es) zero k behind = refl
due_behind (e ∷ es) (suc i) zero behind = absurd (omega (arith, behind))
due_behind (e ∷ es) (suc i) (suc k) behind = due_behind es i k (omega (arith, behind))

pub idle_removed : (old new : Touched) (es : Outlets) (i : ℕ)
    → OthersIdle old es → ((k : ℕ) → k < i → IsUntouched new k → IsUntouched old k)
    → ((k : ℕ) → i ≤ k → IsUntouched new k → IsUntouched old (k + 1)) → OthersIdle new (remove es i)
idle_removed old new es i idle before behind k untouched = elim (cases_lt k i) [
  | inl below ↦ due_before es i k below ∙ idle k (before k below untouched)
  | inr above ↦ due_behind es i k above ∙ idle (suc k) (subst (λ m. IsUntouched old m) (add-one k) (behind k above untouched))
]

-- nothing is taken out behind the end
pub remove_past : {X : Type 0} (xs : List X) (i : ℕ) → length xs ≤ i → xs ≡ remove xs i
remove_past [] zero past = refl
remove_past [] (suc i) past = refl
remove_past (x ∷ xs) zero past = absurd (omega (arith, past))
remove_past (x ∷ xs) (suc i) past = ap (λ ys. x ∷ ys) (remove_past xs i (omega (arith, past)))
