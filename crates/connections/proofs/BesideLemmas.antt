-- A column beside the connections, read by their numbers.
use Rattle.std.proofs.Common.{◌≡◌, ◌≢◌, ℕ, zero, suc, List, [], ◌∷◌, ◌++◌, length, set, cond, refl, sym, ap, ◌∙◌, arith}
use Rattle.std.specs.Prelude.{◌==◌, remove, slice_get, Some, None}
use Rattle.std.proofs.lemmas.Bool.{cond-true, cond-false}
use Rattle.spec_machine.proofs.Find.{test_same, test_other}
use Rattle.connections.specs.declared.outlet.Outlet.{Outlet}
use Rattle.connections.specs.Entries.{IsEntry, IsNoEntry}
use Rattle.connections.specs.Outlets.{Outlets, beside, without_number}
use Rattle.connections.proofs.EntryLemmas.{entry_behind, no_first, none_behind_first}
use Rattle.connections.proofs.OutletLemmas.{without_at}

module _ {X : Type 0} where
  -- the place of a number is where it stands
  pub beside_at : (es : Outlets) (xs : List X) (n i : ℕ) → IsEntry es n i → length xs ≡ length es → beside n es xs ≡ slice_get xs i
  beside_at [] xs n i at same = absurd (omega (arith, at.within))
  beside_at (e ∷ es) [] n i at same = absurd (omega (arith, same))
  beside_at (e ∷ es) (x ∷ xs) n zero at same = cond-true (e.0 == n) (Some x) (beside n es xs) (test_same e.0 n (at.number 0))
  beside_at (e ∷ es) (x ∷ xs) n (suc i) at same =
      cond-false (e.0 == n) (Some x) (beside n es xs) (test_other e.0 n (at.first 0 0 (omega arith)))
      ∙ beside_at es xs n i (entry_behind e es n i at) (omega (arith, same))

  -- one element of the column changes
  pub beside_set_own : (es : Outlets) (xs : List X) (n i : ℕ) (x : X) → IsEntry es n i → length xs ≡ length es → beside n es (set xs i x) ≡ Some x
  beside_set_own [] xs n i x at same = absurd (omega (arith, at.within))
  beside_set_own (e ∷ es) [] n i x at same = absurd (omega (arith, same))
  beside_set_own (e ∷ es) (y ∷ ys) n zero x at same = cond-true (e.0 == n) (Some x) (beside n es ys) (test_same e.0 n (at.number 0))
  beside_set_own (e ∷ es) (y ∷ ys) n (suc i) x at same =
      cond-false (e.0 == n) (Some y) (beside n es (set ys i x)) (test_other e.0 n (at.first 0 0 (omega arith)))
      ∙ beside_set_own es ys n i x (entry_behind e es n i at) (omega (arith, same))

  pub beside_set_other : (es : Outlets) (xs : List X) (n m i : ℕ) (x : X) → IsEntry es n i → m ≢ n → beside m es (set xs i x) ≡ beside m es xs
  beside_set_other [] xs n m i x at other = refl
  beside_set_other (e ∷ es) [] n m zero x at other = refl
  beside_set_other (e ∷ es) [] n m (suc i) x at other = refl
  beside_set_other (e ∷ es) (y ∷ ys) n m zero x at other =
      let t = test_other e.0 m (λ same. other (sym same ∙ at.number 0)) in
      cond-false (e.0 == m) (Some x) (beside m es ys) t ∙ sym (cond-false (e.0 == m) (Some y) (beside m es ys) t)
  beside_set_other (e ∷ es) (y ∷ ys) n m (suc i) x at other =
      ap (λ o. cond (e.0 == m) (Some y) o) (beside_set_other es ys n m i x (entry_behind e es n i at) other)

  -- one goes
  pub beside_removed : (es : Outlets) (xs : List X) (n m i : ℕ) → IsEntry es n i → m ≢ n → beside m (remove es i) (remove xs i) ≡ beside m es xs
  beside_removed [] xs n m i at other = absurd (omega (arith, at.within))
  beside_removed (e ∷ es) [] n m zero at other = none_beside es
    where
      none_beside : (fs : Outlets) → beside {X = X} m fs [] ≡ None
      none_beside [] = refl
      none_beside (f ∷ fs) = refl
  beside_removed (e ∷ es) [] n m (suc i) at other = refl
  beside_removed (e ∷ es) (y ∷ ys) n m zero at other =
      sym (cond-false (e.0 == m) (Some y) (beside m es ys) (test_other e.0 m (λ same. other (sym same ∙ at.number 0))))
  beside_removed (e ∷ es) (y ∷ ys) n m (suc i) at other =
      ap (λ o. cond (e.0 == m) (Some y) o) (beside_removed es ys n m i (entry_behind e es n i at) other)

  pub beside_without : (es : Outlets) (xs : List X) (n m i : ℕ) → IsEntry es n i → m ≢ n → beside m (without_number n es) (remove xs i) ≡ beside m es xs
  beside_without es xs n m i at other = ap (λ fs. beside m fs (remove xs i)) (without_at es n i at) ∙ beside_removed es xs n m i at other

  -- one comes
  pub beside_added_own : (es : Outlets) (xs : List X) (n : ℕ) (o : Outlet) (x : X) → IsNoEntry es n → length xs ≡ length es
      → beside n (es ++ (n, o) ∷ []) (xs ++ x ∷ []) ≡ Some x
  beside_added_own [] [] n o x none same = cond-true (n == n) (Some x) None (test_same n n refl)
  beside_added_own [] (y ∷ ys) n o x none same = absurd (omega (arith, same))
  beside_added_own (e ∷ es) [] n o x none same = absurd (omega (arith, same))
  beside_added_own (e ∷ es) (y ∷ ys) n o x none same =
      cond-false (e.0 == n) (Some y) (beside n (es ++ (n, o) ∷ []) (ys ++ x ∷ [])) (test_other e.0 n (no_first e es n none))
      ∙ beside_added_own es ys n o x (none_behind_first e es n none) (omega (arith, same))

  pub beside_added_other : (es : Outlets) (xs : List X) (n m : ℕ) (o : Outlet) (x : X) → m ≢ n → length xs ≡ length es
      → beside m (es ++ (n, o) ∷ []) (xs ++ x ∷ []) ≡ beside m es xs
  beside_added_other [] [] n m o x other same = cond-false (n == m) (Some x) None (test_other n m (λ e. other (sym e)))
  beside_added_other [] (y ∷ ys) n m o x other same = absurd (omega (arith, same))
  beside_added_other (e ∷ es) [] n m o x other same = absurd (omega (arith, same))
  beside_added_other (e ∷ es) (y ∷ ys) n m o x other same =
      ap (λ p. cond (e.0 == m) (Some y) p) (beside_added_other es ys n m o x other (omega (arith, same)))
