-- A keeper in memory: its rows, the names that were opened, and the calls that are to fail.
use Rattle.std.specs.Prelude.{ℕ, List, if◌then◌else◌}
use Rattle.spec_samples.specs.Row.{Row}
use Rattle.ads_outside.specs.FailingCalls.{FailingCalls, fails_next, called, faulted}

pub record HeldRows : Type 0 where
  pub rows : List Row
  -- the names that were opened, in order
  pub names : List (List ℕ)
  pub failing : FailingCalls

-- the calls after one more
abbrev pub failing_after : FailingCalls → FailingCalls
failing_after f = if fails_next f then faulted f else called f
