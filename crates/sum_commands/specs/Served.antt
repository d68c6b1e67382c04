-- A service stands for states.

-- one at least
pub record StandsForSome {V S : Type 0} (stands_for : V → S → Type 0) (service : V) : Type 0 where
  pub state : S
  pub stands : stands_for service state
