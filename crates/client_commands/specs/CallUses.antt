-- What a client is handed in and leaves: the link and the keeper, each before and behind its call.
use Rattle.std.specs.Prelude.{List}
use Rattle.ads_outside.specs.declared.link_move.LinkMove.{LinkMove}
use Rattle.ads_outside.specs.LinkState.{LinkState}
use Rattle.sample_store.specs.Keeper.{KeeperState}

-- a link: which logs it may be told, its moment and counts
pub record LinkUse (O : Type 0) : Type 1 where
  pub told : O → List LinkMove → Type 0
  pub tells : O → List LinkMove → Type 0
  pub old : LinkState
  pub new : LinkState

abbrev pub used : {O : Type 0} → (O → List LinkMove → Type 0) → (O → List LinkMove → Type 0) → LinkState → LinkState → LinkUse O
used told tells old new = record { told = told; tells = tells; old = old; new = new }

abbrev pub link_used : {L O : Type 0} → (L → O → List LinkMove → Type 0) → (L → LinkState) → L → L → LinkUse O
link_used tells state old new = used (tells old) (tells new) (state old) (state new)

-- a keeper: its rows, where they are told, and how many calls failed
pub record KeeperUse : Type 0 where
  pub old : KeeperState
  pub new : KeeperState

abbrev pub keeper_used : {K : Type 0} → (K → KeeperState) → K → K → KeeperUse
keeper_used state old new = record { old = state old; new = state new }
