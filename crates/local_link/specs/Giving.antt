-- How a link to the server in the same process gives what waits. Private: no public clause cites this file.
use Rattle.std.specs.Prelude.{◌≡◌, ℕ, zero, suc, ◌≤◌, List, [], take, length, min, Option, Some, None}
use Rattle.ads_outside.specs.declared.link_event.LinkEvent.TheVariants as come
use Rattle.ads_outside.specs.declared.link_move.LinkMove.{LinkMove}
use Rattle.ads_outside.specs.declared.link_move.LinkMove.TheVariants as link
use Rattle.ads_outside.specs.declared.moves.Move.TheVariants as move
use Rattle.ads_outside.specs.declared.received.Received.{Received}
use Rattle.ads_outside.specs.declared.received.Received.TheVariants as received
use Rattle.ads_outside.specs.LinkAnswers.{Receives}
use Rattle.spec_machine.specs.Moves.{state_after_move}
use Rattle.spec_local.specs.LocalCall.{waiting_bytes}
use Rattle.spec_local.specs.LinkLog.{IsMoveOf, machine_after_link_move}
use Rattle.server_core.specs.Served.{ServedState, served_step}
use Rattle.server_core.specs.Serves.{CoreView, Serves}
use Rattle.local_link.specs.Link.{LocalView, state_of, unblocked, StandsFor}

-- so many first bytes of an offer stand in a buffer
pub record CopiesFirst (n : ℕ) (left buf : List ℕ) : Type 0 where
  pub offered : n ≤ length left
  pub fit : n ≤ length buf
  pub copied : take n buf ≡ take n left
  pub whole : n ≡ min (length left) (length buf)
  -- none where nothing is offered
  pub some : n ≡ 0 → left ≡ []

abbrev pub CopiesOffer : ℕ → Option (List ℕ) → List ℕ → Type 0
CopiesOffer n None buf = n ≡ 0
CopiesOffer n (Some left) buf = CopiesFirst n left buf

-- these bytes, the first that wait, were taken
pub record TakesBytes (bytes : List ℕ) (new : CoreView) (s : ServedState) : Type 0 where
  pub first : take (length bytes) (waiting_bytes s) ≡ bytes
  pub serves : Serves new (unblocked (state_after_move served_step s (move.Took 1 (length bytes) bytes)))

-- nothing waits
pub record TakesNothing (new : CoreView) (s : ServedState) : Type 0 where
  pub none : waiting_bytes s ≡ []
  pub serves : Serves new (unblocked s)

-- so many bytes were taken into a buffer
abbrev pub Takes : ℕ → List ℕ → CoreView → ServedState → Type 0
Takes zero buf new s = TakesNothing new s
Takes (suc n) buf new s = (length (take (suc n) buf) ≡ suc n) × TakesBytes (take (suc n) buf) new s

-- whatever the link stood for, this is a move of it, and the link stands for the machine behind it
pub record Follows (old new : LocalView) (m : LinkMove) : Type 0 where
  pub wanting : new.wanting ≡ old.wanting
  pub follows : (s : ServedState) → StandsFor old s → IsMoveOf served_step s m × StandsFor new (machine_after_link_move served_step s m)

-- what was answered, with the buffer behind the call
abbrev pub FollowsAnswer : Received → List ℕ → LocalView → LocalView → Type 0
FollowsAnswer (received.Bytes n now) buf old new = Follows old new (link.Came (come.Bytes (take n buf) now))
FollowsAnswer (received.Quiet now) buf old new = Follows old new (link.Came (come.Quiet now))
FollowsAnswer (received.Closed now) buf old new = Follows old new (link.Came (come.Closed now))
FollowsAnswer received.Failed buf old new = ⊥
FollowsAnswer received.Memory buf old new = ⊥

-- an answer into a buffer of this size
pub record Gives (answer : Received) (size : ℕ) (buf : List ℕ) (old new : LocalView) : Type 0 where
  pub receives : Receives answer size (state_of old) (state_of new)
  pub later : old.history.moment ≤ new.history.moment
  pub follows : FollowsAnswer answer buf old new
