-- What a log promises: of a script's play over a description, with signals that begin so, or of what is served; of the server of
-- a profile, and so of the strict one, which the program `ads` is.
use Rattle.std.specs.Prelude.{◌≡◌, ℕ, List, [], ◌++◌, ◌∷◌, length, false, Ok}
use Rattle.signals.specs.Wave.{Wave}
use Rattle.ads_outside.specs.declared.end.End.{End}
use Rattle.ads_outside.specs.declared.end.End.TheVariants as end
use Rattle.ads_outside.specs.declared.event.Event.TheVariants as event
use Rattle.ads_outside.specs.declared.moves.Move.{Move}
use Rattle.ads_outside.specs.declared.moves.Move.TheVariants as move
use Rattle.spec_plant.specs.Description.{Description}
use Rattle.spec_plant.specs.Accepted.{IsAccepted}
use Rattle.spec_plant.specs.World.{ByteName, byte_at}
use Rattle.spec_machine.specs.Offers.{taken_of}
use Rattle.spec_machine.specs.Profile.{Profile, strict}
use Rattle.spec_machine.specs.Turns.{KeepsTurns}
use Rattle.spec_machine.specs.Projection.{projection_of}
use Rattle.spec_machine.specs.ScriptLine.{ScriptLine}
use Rattle.spec_machine.specs.Delivery.{IsPrefix, is_short, is_cut_off}
use Rattle.spec_laws.specs.Isolation.{IsAmong, IsUntouchedIn}
use Rattle.spec_laws.specs.ExactWrites.{writes_of_move, is_accepted_reload}
use Rattle.spec_server.specs.Server.{read_description, server, start_in, server_after_in, server_output_in, server_play}
use Rattle.spec_server.specs.ServerLaws.{ReadsDescriptions, ServerLeavesAllAtRefusals, ServerRefusesDeadHandles}
use Rattle.spec_promises.specs.Written.{HoldsWritesIn}
use Rattle.spec_promises.specs.Notified.{NotifiesAfterIn}
use Rattle.spec_promises.specs.KeptHandles.{KeepsHandlesIn, HandlesAreHistoryIn}

-- a byte changes at a move only by an accepted write or control that addresses it, by its signal at a tick, or by an
-- accepted reload
abbrev pub ChangesByWritesIn : Profile → Description → List Wave → List Move → Move → Type 0
ChangesByWritesIn profile d waves before m = (name : ByteName)
    → is_accepted_reload read_description (server_after_in profile d waves before) m ≡ false
    → (IsAmong name (writes_of_move read_description (server_after_in profile d waves before) m) → ⊥)
    → byte_at (server_after_in profile d waves (before ++ m ∷ [])).world.memory name
    ≡ byte_at (server_after_in profile d waves before).world.memory name

-- what holds besides over an accepted description
pub record HoldsAcceptedIn (profile : Profile) (d : Description) (waves : List Wave) (log : List Move) : Type 0 where
  -- an accepted write is held: the bytes that it addresses are those that it carries, in their order, and the next read answers them
  pub held : (before after : List Move) (m : Move) → log ≡ before ++ m ∷ after → HoldsWritesIn profile d waves before m
  -- a handle that is live before and after a reload reads the same
  pub kept_handles : (before after : List Move) (bytes : List ℕ)
      → log ≡ before ++ move.Event (event.Reload bytes) ∷ after → KeepsHandlesIn profile d waves before bytes

-- what holds at each move of a log, whether it was cut off or not
pub record HoldsThroughoutIn (profile : Profile) (d : Description) (waves : List Wave) (log : List Move) : Type 0 where
  pub writes : (before after : List Move) (m : Move) → log ≡ before ++ m ∷ after → ChangesByWritesIn profile d waves before m
  -- a packet that is turned away or told a result other than 0 leaves the world and its client; a refused reload leaves all but its count
  pub refused : ServerLeavesAllAtRefusals
  -- an access by a handle that is not live is refused and touches nothing
  pub dead_handles : ServerRefusesDeadHandles
  -- each handle of each connection has the status that its own accepted requests and the accepted reloads give it
  pub handles : (before after : List Move) → log ≡ before ++ after → HandlesAreHistoryIn profile d waves before
  -- each notification gives samples as it was asked to, over its whole life
  pub notified : (before after : List Move) → log ≡ before ++ after → NotifiesAfterIn profile d waves before after
  -- the description is one that a text writes, as each that is served: then writes and handles are held
  pub of_text : (bytes : List ℕ) → read_description bytes (length waves) ≡ Ok d → HoldsAcceptedIn profile d waves log

-- the promises of a log that may be cut off in mid-turn, as where memory was wanting
pub record KeepsPromisesSoFarIn (profile : Profile) (d : Description) (waves : List Wave) (log : List Move) : Type 0 where
  -- what a connection took begins what it was given
  pub begins : (c : ℕ) → IsPrefix (taken_of c log) (server_output_in profile d waves c log)
  -- a client none of whose read or notified bytes another writes is given, byte for byte, what it would be given alone
  pub isolated : (c : ℕ) → IsUntouchedIn read_description profile d waves c log
      → server_output_in profile d waves c log ≡ server_output_in profile d waves c (projection_of c log)
  pub throughout : HoldsThroughoutIn profile d waves log

pub record KeepsPromisesIn (profile : Profile) (d : Description) (waves : List Wave) (log : List Move) : Type 0 where
  pub so_far : KeepsPromisesSoFarIn profile d waves log
  -- each event is followed by the offers to each connection
  pub turns : KeepsTurns server (start_in profile d waves) log
  -- what a connection took is all that it was given, unless its last offer was short, or it was closed by its peer or lost
  pub all : (c : ℕ) → is_short c log ≡ false → is_cut_off c log ≡ false
      → taken_of c log ≡ server_output_in profile d waves c log

-- the promises of the strict server
abbrev pub KeepsPromises : Description → List Wave → List Move → Type 0
KeepsPromises d waves log = KeepsPromisesIn strict d waves log

-- what a log promises that ended so
abbrev pub KeepsPromisesAtIn : End → Profile → Description → List Wave → List Move → Type 0
KeepsPromisesAtIn end.Done profile d waves log = KeepsPromisesIn profile d waves log
KeepsPromisesAtIn end.Budget profile d waves log = KeepsPromisesIn profile d waves log
KeepsPromisesAtIn end.LinkFault profile d waves log = KeepsPromisesIn profile d waves log
KeepsPromisesAtIn end.Memory profile d waves log = KeepsPromisesSoFarIn profile d waves log

-- the promises of a script's play; over each accepted description, also one that no text writes
pub record PlayKeepsPromises (d : Description) (waves : List Wave) (lines : List ScriptLine) : Type 0 where
  pub kept : KeepsPromises d waves (server_play d waves lines)
  pub over_accepted : IsAccepted d (length waves) → HoldsAcceptedIn strict d waves (server_play d waves lines)
  -- and each description that is read is an accepted one
  pub accepted : ReadsDescriptions
