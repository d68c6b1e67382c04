-- Where the texts and the rows of a call go.
use Rattle.std.specs.Prelude.{◌≡◌, ℕ, ◌≤◌, List, take, Option, option_map}
use Rattle.ads_outside.specs.SinkState.{SinkState, NeverFalls}
use Rattle.spec_samples.specs.Row.{Row}
use Rattle.spec_samples.specs.Rows.{rows_after}
use Rattle.sample_store.specs.Keeper.{KeeperState}

-- a sink and a keeper
pub record Outlets : Type 0 where
  pub sink : SinkState
  pub keeper : KeeperState

abbrev pub outlets : SinkState → KeeperState → Outlets
outlets sink keeper = record { sink = sink; keeper = keeper }

-- none of their counts falls, and no table is opened
pub record IsLater (old new : Outlets) : Type 0 where
  pub sink : NeverFalls old.sink new.sink
  pub keeper : old.keeper.faults ≤ new.keeper.faults
  pub names : new.keeper.names ≡ old.keeper.names

-- these rows were put, in order and each once, on top of those that stood there, where they are told
abbrev pub Adds : Option (List Row) → Option (List Row) → List Row → Type 0
Adds old new rows = new ≡ option_map (λ there. rows_after there rows) old

-- some first ones of them were
abbrev pub AddsPart : Option (List Row) → Option (List Row) → List Row → Type 0
AddsPart old new rows = (n : ℕ) × Adds old new (take n rows)
