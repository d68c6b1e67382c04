-- A worked example: of two connections, one to be shut and one blocked, the first alone is due.
use Rattle.std.proofs.Common.{◌≡◌, [], ◌∷◌, true, false, refl}
use Rattle.connections.specs.declared.outlet.Outlet.{Outlet}
use Rattle.connections.specs.Outlets.{numbers_due, fresh_outlet, freed, closed}

abbrev waiting : Outlet
waiting = record { out = (1 ∷ 2 ∷ []) ∷ []; closing = false; blocked = true }

the_first_is_due : numbers_due ((7, closed fresh_outlet) ∷ (9, waiting) ∷ []) ≡ 7 ∷ []
the_first_is_due = refl

-- once the second is writable, both are, in the order of opening
both_are_due : numbers_due ((7, closed fresh_outlet) ∷ (9, freed waiting) ∷ []) ≡ 7 ∷ 9 ∷ []
both_are_due = refl
