-- The numbers of the connections that are to be served.
use Rattle.std.proofs.Common.{◌≡◌, ◌≢◌, ℕ, zero, suc, ◌<◌, List, [], ◌∷◌, ◌++◌, take, false}
use Rattle.std.proofs.Common.{refl, sym, ap, ◌∙◌, subst, inl, inr, arith}
use Rattle.std.specs.Prelude.{filter, slice_get, Some, Result, OnOk}
use Rattle.std.proofs.lemmas.Result.{on_ok_weaker}
use Rattle.std.proofs.lemmas.Bool.{cases_Bool, cond-true, cond-false}
use Rattle.std.proofs.lemmas.List.{append-nil, append_assoc}
use Rattle.connections.specs.declared.outlet.Outlet.{Outlet}
use Rattle.connections.specs.Outlets.{Outlets, is_due_outlet, numbers_of, numbers_due}
use Rattle.connections.specs.declared.touched.Touched.{Touched}
use Rattle.connections.specs.declared.touched.Touched.TheVariants.{Nothing}
use Rattle.connections.specs.Touched.{IsUntouched, OthersIdle, due_at, number_if_due}

-- the first, and those behind it
pub due_cons : (e : ℕ × Outlet) (es : Outlets) → numbers_due (e ∷ es) ≡ number_if_due (Some e) ++ numbers_due es
due_cons e es = elim (cases_Bool (is_due_outlet e.1)) [
  | inl t ↦ ap numbers_of (cond-true (is_due_outlet e.1) (e ∷ due es) (due es) t)
      ∙ sym (ap (λ ns. ns ++ numbers_due es) (cond-true (is_due_outlet e.1) (e.0 ∷ []) [] t))
  | inr t ↦ ap numbers_of (cond-false (is_due_outlet e.1) (e ∷ due es) (due es) t)
      ∙ sym (ap (λ ns. ns ++ numbers_due es) (cond-false (is_due_outlet e.1) (e.0 ∷ []) [] t))
]
  where
    due : Outlets → Outlets
    due fs = filter (λ (f : ℕ × Outlet). is_due_outlet f.1) fs

idle_first : (e : ℕ × Outlet) (es : Outlets) → is_due_outlet e.1 ≡ false → numbers_due (e ∷ es) ≡ numbers_due es
idle_first e es idle = due_cons e es ∙ ap (λ ns. ns ++ numbers_due es) (cond-false (is_due_outlet e.1) (e.0 ∷ []) [] idle)

-- all are idle
pub none_due : (es : Outlets) → ((k : ℕ) → due_at es k ≡ false) → numbers_due es ≡ []
none_due [] idle = refl
none_due (e ∷ es) idle = idle_first e es (idle 0) ∙ none_due es (λ k. idle (suc k))

-- all but one
pub one_due : (es : Outlets) (a : ℕ) → ((k : ℕ) → k ≢ a → due_at es k ≡ false) → numbers_due es ≡ number_if_due (slice_get es a)
one_due [] a idle = refl
one_due (e ∷ es) zero idle =
    due_cons e es ∙ ap (λ ns. number_if_due (Some e) ++ ns) (none_due es (λ k. idle (suc k) (λ same. omega (arith, same))))
    ∙ append-nil (number_if_due (Some e))
one_due (e ∷ es) (suc a) idle =
    idle_first e es (idle 0 (λ same. omega (arith, same))) ∙ one_due es a (λ k other. idle (suc k) (λ same. other (omega (arith, same))))

-- all but two
pub two_due : (es : Outlets) (a b : ℕ) → a < b → ((k : ℕ) → k ≢ a → k ≢ b → due_at es k ≡ false)
    → numbers_due es ≡ number_if_due (slice_get es a) ++ number_if_due (slice_get es b)
two_due [] a b below idle = refl
two_due (e ∷ es) a zero below idle = absurd (omega (arith, below))
two_due (e ∷ es) zero (suc b) below idle =
    due_cons e es ∙ ap (λ ns. number_if_due (Some e) ++ ns)
    (one_due es b (λ k other. idle (suc k) (λ same. omega (arith, same)) (λ same. other (omega (arith, same)))))
two_due (e ∷ es) (suc a) (suc b) below idle =
    idle_first e es (idle 0 (λ same. omega (arith, same)) (λ same. omega (arith, same)))
    ∙ two_due es a b (omega (arith, below)) (λ k first second. idle (suc k) (λ same. first (omega (arith, same))) (λ same. second (omega (arith, same))))

-- one more of the first
pub more_due : (es : Outlets) (i : ℕ) → numbers_due (take i es) ++ number_if_due (slice_get es i) ≡ numbers_due (take (suc i) es)
more_due [] zero = refl
more_due [] (suc i) = refl
more_due (e ∷ es) zero = sym (due_cons e [] ∙ append-nil (number_if_due (Some e)))
more_due (e ∷ es) (suc i) =
    ap (λ ns. ns ++ number_if_due (slice_get es i)) (due_cons e (take i es))
    ∙ append_assoc (number_if_due (Some e)) (numbers_due (take i es)) (number_if_due (slice_get es i))
    ∙ ap (λ ns. number_if_due (Some e) ++ ns) (more_due es i) ∙ sym (due_cons e (take (suc i) es))

-- numbers that are put into room in which none stands
pub one_put : {A E : Type 0} (r : Result A E) (es : Outlets) (a : ℕ) (old new : List ℕ) → ((k : ℕ) → k ≢ a → due_at es k ≡ false)
    → old ≡ [] → OnOk r (new ≡ old ++ number_if_due (slice_get es a)) → OnOk r (new ≡ numbers_due es)
one_put r es a old new idle none put = on_ok_weaker r (λ e. e ∙ ap (λ ns. ns ++ number_if_due (slice_get es a)) none ∙ sym (one_due es a idle)) put

pub two_put : {A E : Type 0} (r : Result A E) (es : Outlets) (a b : ℕ) (old mid new : List ℕ) → a < b
    → ((k : ℕ) → k ≢ a → k ≢ b → due_at es k ≡ false) → old ≡ [] → mid ≡ old ++ number_if_due (slice_get es a)
    → OnOk r (new ≡ mid ++ number_if_due (slice_get es b)) → OnOk r (new ≡ numbers_due es)
two_put r es a b old mid new order idle none first put = on_ok_weaker r
    (λ e. e ∙ ap (λ ns. ns ++ number_if_due (slice_get es b)) (first ∙ ap (λ ns. ns ++ number_if_due (slice_get es a)) none)
    ∙ sym (two_due es a b order idle)) put

-- none is touched
pub no_number_due : (touched : Touched) (es seen : Outlets) → es ≡ seen → OthersIdle touched es → touched ≡ Nothing → [] ≡ numbers_due seen
no_number_due touched es seen view idle none =
    sym (none_due es (λ k. idle k (subst (λ (t : Touched). IsUntouched t k) (sym none) tt))) ∙ ap numbers_due view
