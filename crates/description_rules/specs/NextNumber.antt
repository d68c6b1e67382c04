-- For private contracts, and cited by no public clause: a number is looked at behind those that came before.
use Rattle.std.specs.Prelude.{◌≡◌, List, [], ◌∷◌, ◌++◌, Bool, true, not, ◌&&◌, ℤ}
use Rattle.std.specs.List.{list_all}
use Rattle.std.specs.Option.{option_map_or}
use Rattle.spec_plant.specs.AcceptedTypes.{is_same_number}
use Rattle.description_rules.specs.Placed.{SignalPlace, names_other}

-- none of these is the number
abbrev pub is_no_number_of : List ℤ → ℤ → Bool
is_no_number_of numbers n = list_all (λ e. not (is_same_number e n)) numbers

-- what holds of the answer, whether the number is right by itself and new: where it is right, it has been noted
pub record IsNextNumber (allowed : Bool) (old new : List ℤ) (n : ℤ) (right : Bool) : Type 0 where
  pub answer : right ≡ (allowed && is_no_number_of old n)
  pub noted : right ≡ true → new ≡ old ++ n ∷ []

-- the same for the signal that a symbol may name
pub record IsNextUse (u : SignalPlace) (old new : List ℤ) (right : Bool) : Type 0 where
  pub answer : right ≡ option_map_or (λ n. u.right && is_no_number_of old n) u.signal true
  pub noted : right ≡ true → (n : ℤ) → is_no_number_of new n ≡ (is_no_number_of old n && names_other n u)

-- the signals that are named before
abbrev pub AreNamed : List SignalPlace → List ℤ → Type 0
AreNamed before numbers = (n : ℤ) → is_no_number_of numbers n ≡ list_all (names_other n) before
