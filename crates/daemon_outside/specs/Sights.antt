-- What an onlooker is told of a wire. This project's own choice.
use Rattle.std.specs.Prelude.{ℕ, List, ◌++◌}
use Rattle.ads_outside.specs.declared.event.Event.{Event}
use Rattle.daemon_outside.specs.declared.stop_cause.StopCause.{StopCause}

pub data Sight : Type 0 where
  -- it listens there, for the description with this name and these bytes; or it could not
  Listens : (listen name first : List ℕ) → Sight
  CannotListen : (listen : List ℕ) → Sight
  -- an event came
  Saw : (event : Event) → Sight
  -- a connection was offered these bytes, and took so many first ones of them
  Offered : (conn : ℕ) (bytes : List ℕ) (taken : ℕ) → Sight
  -- an offer failed, and the connection is gone; the server shut a connection
  Lost : (conn : ℕ) → Sight
  Shut : (conn : ℕ) → Sight
  -- an end was asked for; there are no more events; it failed to give one
  Stops : (cause : StopCause) → Sight
  Ended : Sight
  Failed : Sight
  -- memory was wanting
  LackedMemory : Sight

-- whatever an onlooker has seen, it has seen these sights behind it now
abbrev pub Sees : {O : Type 0} → (O → List Sight → Type 0) → List Sight → O → O → Type 0
Sees seen more old new = (sights : List Sight) → seen old sights → seen new (sights ++ more)
