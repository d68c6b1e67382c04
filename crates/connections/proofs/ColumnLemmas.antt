-- Columns beside the connections that are there: one changes, comes or goes.
use Rattle.std.proofs.Common.{◌≡◌, ℕ, zero, suc, ◌<◌, List, [], ◌∷◌, ◌++◌, length, set, refl, ap, subst, arith}
use Rattle.std.specs.Prelude.{remove, slice_get, Option, Some, None}
use Rattle.spec_machine.specs.Connection.{Connection}
use Rattle.connections.specs.Carries.{EachBeside}

module _ {X C : Type 0} (Stands : X → Connection C → Type 0) where
  pub each_length : (xs : List X) (ps : List (Connection C)) → EachBeside Stands xs ps → length xs ≡ length ps
  each_length [] [] each = refl
  each_length [] (p ∷ ps) each = absurd each
  each_length (x ∷ xs) [] each = absurd each
  each_length (x ∷ xs) (p ∷ ps) each = ap suc (each_length xs ps each.1)

  -- what stands at a place, in the column and in the machine
  pub record BothAt (xs : List X) (ps : List (Connection C)) (i : ℕ) : Type 0 where
    pub x : X
    pub k : Connection C
    pub column : slice_get xs i ≡ Some x
    pub machine : slice_get ps i ≡ Some k
    pub stands : Stands x k

  pub each_at : (xs : List X) (ps : List (Connection C)) (i : ℕ) → EachBeside Stands xs ps → i < length xs → BothAt xs ps i
  each_at [] ps i each below = absurd (omega (arith, below))
  each_at (x ∷ xs) [] i each below = absurd each
  each_at (x ∷ xs) (p ∷ ps) zero each below = record { x = x; k = p; column = refl; machine = refl; stands = each.0 }
  each_at (x ∷ xs) (p ∷ ps) (suc i) each below =
      let rest = each_at xs ps i each.1 (omega (arith, below)) in
      record { x = rest.x; k = rest.k; column = rest.column; machine = rest.machine; stands = rest.stands }

  pub each_read : (xs : List X) (ps : List (Connection C)) (i : ℕ) (x : X) (k : Connection C) → EachBeside Stands xs ps
      → slice_get xs i ≡ Some x → slice_get ps i ≡ Some k → Stands x k
  each_read [] ps i x k each column machine = absurd (let none : ◌≡◌ {A = Option X} None (Some x) = column in cc)
  each_read (y ∷ ys) [] i x k each column machine = absurd each
  each_read (y ∷ ys) (p ∷ ps) zero x k each column machine =
      let here : y ≡ x = cc in
      let there : p ≡ k = cc in
      subst (λ z. Stands z k) here (subst (λ l. Stands y l) there each.0)
  each_read (y ∷ ys) (p ∷ ps) (suc i) x k each column machine = each_read ys ps i x k each.1 column machine

  -- both change in their place
  pub each_set : (xs : List X) (ps : List (Connection C)) (i : ℕ) (x : X) (k : Connection C) → EachBeside Stands xs ps → Stands x k
      → EachBeside Stands (set xs i x) (set ps i k)
  each_set [] [] i x k each now = tt
  each_set [] (p ∷ ps) i x k each now = absurd each
  each_set (y ∷ ys) [] i x k each now = absurd each
  each_set (y ∷ ys) (p ∷ ps) zero x k each now = (now, each.1)
  each_set (y ∷ ys) (p ∷ ps) (suc i) x k each now = (each.0, each_set ys ps i x k each.1 now)

  -- both go
  pub each_removed : (xs : List X) (ps : List (Connection C)) (i : ℕ) → EachBeside Stands xs ps → EachBeside Stands (remove xs i) (remove ps i)
  each_removed [] [] zero each = tt
  each_removed [] [] (suc i) each = tt
  each_removed [] (p ∷ ps) i each = absurd each
  each_removed (y ∷ ys) [] i each = absurd each
  each_removed (y ∷ ys) (p ∷ ps) zero each = each.1
  each_removed (y ∷ ys) (p ∷ ps) (suc i) each = (each.0, each_removed ys ps i each.1)

  -- both come, behind the others
  pub each_added : (xs : List X) (ps : List (Connection C)) (x : X) (k : Connection C) → EachBeside Stands xs ps → Stands x k
      → EachBeside Stands (xs ++ x ∷ []) (ps ++ k ∷ [])
  each_added [] [] x k each now = (now, tt)
  each_added [] (p ∷ ps) x k each now = absurd each
  each_added (y ∷ ys) [] x k each now = absurd each
  each_added (y ∷ ys) (p ∷ ps) x k each now = (each.0, each_added ys ps x k each.1 now)
