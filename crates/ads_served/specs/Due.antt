-- Which connections of a running machine have something to be offered, or are to be shut.
use Rattle.std.specs.Prelude.{◌≡◌, ℕ, ◌≤◌, List, length, filter, Bool, false, ◌||◌, is_some, Option, Some, None}
use Rattle.spec_machine.specs.MachineState.{present_numbers}
use Rattle.spec_machine.specs.Offers.{waiting_at, is_among}
use Rattle.spec_machine.specs.Running.{Running, offer_at, is_to_be_shut_at}

-- at most as many bytes as are offered
abbrev pub FitsOffer : ℕ → Option (List ℕ) → Type 0
FitsOffer n None = ⊥
FitsOffer n (Some left) = n ≤ length left

-- these frames are all that waits for a connection, and it is not blocked
pub record IsRun {W C : Type 0} (c : ℕ) (x : Running W C) (frames : List (List ℕ)) : Type 0 where
  pub free : is_among c x.blocked ≡ false
  pub waits : waiting_at c x.state ≡ frames

-- nothing is offered to a connection, and it is not to be shut
pub record IsIdle {W C : Type 0} (x : Running W C) (c : ℕ) : Type 0 where
  pub no_offer : offer_at c x ≡ None
  pub stays : is_to_be_shut_at c x ≡ false

-- the numbers of connections that are there, in the order of opening; all that are left out are idle
pub record LeavesOutIdle {W C : Type 0} (x : Running W C) (numbers : List ℕ) : Type 0 where
  -- which are not left out
  pub is_in : ℕ → Bool
  pub are : numbers ≡ filter is_in (present_numbers x.state)
  pub idle : (c : ℕ) → is_in c ≡ false → IsIdle x c

-- something is offered to a connection, or it is to be shut
abbrev pub is_due : {W C : Type 0} → Running W C → ℕ → Bool
is_due x c = is_some (offer_at c x) || is_to_be_shut_at c x
