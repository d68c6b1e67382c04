-- What is sent and put behind what stood there: all of it, or some of it.
use Rattle.std.specs.Prelude.{◌≡◌, ◌⊎◌, ℕ, List, [], ◌∷◌, ◌++◌, take}
use Rattle.ads_outside.specs.declared.link_move.LinkMove.{LinkMove}
use Rattle.ads_outside.specs.declared.link_move.LinkMove.TheVariants as move
use Rattle.ads_outside.specs.Puts.{Appends}
use Rattle.spec_samples.specs.Row.{Row}
use Rattle.spec_client.specs.Conversation.{Sent}
use Rattle.spec_client.specs.CallLog.{sent_moves}
use Rattle.client_loop.specs.Outlets.{Outlets, Adds, AddsPart}

-- These moves send some of this, from the first on: each whole, but perhaps the last of them, of which some first bytes are sent.
abbrev pub SendsSome : List Sent → List LinkMove → Type 0
SendsSome sent [] = Unit {0}
SendsSome [] (m ∷ ms) = ⊥
SendsSome (s ∷ sent) (m ∷ ms) =
    ((m ≡ move.Sent s.bytes) × SendsSome sent ms) ⊎ ((n : ℕ) × (m ≡ move.Sent (take n s.bytes)) × (ms ≡ []))

-- a log is told with some of this behind it
pub record SentSome {O : Type 0} (sent : List Sent) (tells : O → List LinkMove → Type 0) (o : O) (log : List LinkMove)
    : Type 0 where
  pub moves : List LinkMove
  pub told : tells o (log ++ moves)
  pub some : SendsSome sent moves

-- all of this was sent, all of the text put, and all of the rows kept
pub record Gives {O : Type 0} (sent : List Sent) (text : List ℕ) (rows : List Row) (old_tells new_tells : O → List LinkMove → Type 0)
    (out new_out : Outlets) : Type 0 where
  pub put : Appends out.sink.held new_out.sink.held text
  pub kept : Adds out.keeper.rows new_out.keeper.rows rows
  pub told : (o : O) (log : List LinkMove) → old_tells o log → new_tells o (log ++ sent_moves sent)

-- some of this was sent, and some first rows were kept
pub record GivesSome {O : Type 0} (sent : List Sent) (rows : List Row)
    (old_tells new_tells : O → List LinkMove → Type 0) (out new_out : Outlets) : Type 0 where
  pub kept : AddsPart out.keeper.rows new_out.keeper.rows rows
  pub told : (o : O) (log : List LinkMove) → old_tells o log → SentSome sent new_tells o log
