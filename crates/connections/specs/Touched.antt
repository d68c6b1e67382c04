-- Which connections may have something to be offered, or are to be shut: those that were touched. All others are idle.
-- No public clause cites this file.
use Rattle.std.specs.Prelude.{◌≡◌, ◌≢◌, ℕ, List, [], ◌∷◌, Bool, true, false, if◌then◌else◌, Option, Some, None}
use Rattle.connections.specs.declared.touched.Touched.{Touched}
use Rattle.connections.specs.declared.touched.Touched.TheVariants.{Nothing, One, Two, All}
use Rattle.connections.specs.declared.outlet.Outlet.{Outlet}
use Rattle.connections.specs.Outlets.{Outlets, outlet_at, test_in, is_due_outlet}

-- a place that was not touched
abbrev pub IsUntouched : Touched → ℕ → Type 0
IsUntouched Nothing k = Unit {0}
IsUntouched (One a) k = k ≢ a
IsUntouched (Two a b) k = (k ≢ a) × (k ≢ b)
IsUntouched All k = ⊥

-- something is offered to the connection at a place, or it is to be shut
abbrev pub due_at : Outlets → ℕ → Bool
due_at es k = test_in is_due_outlet (outlet_at es k)

-- nothing is offered to the connections at other places, and none of them is to be shut
abbrev pub OthersIdle : Touched → Outlets → Type 0
OthersIdle touched es = (k : ℕ) → IsUntouched touched k → due_at es k ≡ false

-- a connection that is due stands at some place
pub record IsSomeDue (es : Outlets) : Type 0 where
  pub place : ℕ
  pub due : due_at es place ≡ true

-- those that are touched are due; one at least, where all are
abbrev pub AreDue : Touched → Outlets → Type 0
AreDue Nothing es = Unit {0}
AreDue (One a) es = due_at es a ≡ true
AreDue (Two a b) es = (due_at es a ≡ true) × (due_at es b ≡ true)
AreDue All es = IsSomeDue es

-- the number that stands at a place, if it is due
abbrev pub number_if_due : Option (ℕ × Outlet) → List ℕ
number_if_due None = []
number_if_due (Some e) = if is_due_outlet e.1 then e.0 ∷ [] else []
