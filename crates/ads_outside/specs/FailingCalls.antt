-- Objects in memory whose calls fail at given numbers.
use Rattle.std.specs.Prelude.{ℕ, List, Bool, ◌==◌, nat_lt}
use Rattle.std.specs.List.{list_any}
use Rattle.ads_outside.specs.Rose.{raised}

-- the calls that are to fail by their numbers from 1, the calls that were made, and the faults
-- among them
pub record FailingCalls : Type 0 where
  pub fails : List ℕ
  pub calls : ℕ
  pub faults : ℕ

-- no call was made
abbrev pub none_made : List ℕ → FailingCalls
none_made fails = record { fails = fails; calls = 0; faults = 0 }

-- whether the next call is to fail
abbrev pub fails_next : FailingCalls → Bool
fails_next f = list_any (λ n. n == raised f.calls) f.fails

-- whether a later call is to fail
abbrev pub fails_later : FailingCalls → Bool
fails_later f = list_any (λ n. nat_lt f.calls n) f.fails

-- one more call was made
abbrev pub called : FailingCalls → FailingCalls
called f = record f { calls = raised f.calls }

-- and it was a fault
abbrev pub faulted : FailingCalls → FailingCalls
faulted f = record f { calls = raised f.calls; faults = raised f.faults }
