-- What each answer of a wire says of its state.
use Rattle.std.specs.Prelude.{◌≡◌, ℕ, ◌≤◌, List, length, take, IsTrue, Bool, true, false}
use Rattle.std.specs.List.{concat}
use Rattle.ads_outside.specs.declared.listening.Listening.{Listening}
use Rattle.ads_outside.specs.declared.moves.Move.TheVariants as move
use Rattle.ads_outside.specs.declared.next.Next.{Next}
use Rattle.ads_outside.specs.declared.next.Next.TheVariants as next
use Rattle.ads_outside.specs.declared.offer.Offer.{Offer}
use Rattle.ads_outside.specs.declared.offer.Offer.TheVariants as offer
use Rattle.ads_outside.specs.declared.shut.Shut.{Shut}
use Rattle.ads_outside.specs.declared.shut.Shut.TheVariants as shut
use Rattle.ads_outside.specs.declared.started.Started.{Started}
use Rattle.ads_outside.specs.declared.started.Started.TheVariants as started
use Rattle.ads_outside.specs.Opened.{is_new}
use Rattle.ads_outside.specs.Rose.{Rose}
use Rattle.ads_outside.specs.Wholes.{wholes}
use Rattle.ads_outside.specs.WireState.{WireState, WireHistory, logged, bytes_taken, event_given, end_answered, listened, history_after}

-- a start or a next event failed: both counts rose, and all else is as this history
pub record Stops (old new : WireState) (rest : WireHistory) : Type 0 where
  pub same : new.history ≡ record rest { stops = new.history.stops }
  pub stopped : Rose old.history.stops new.history.stops
  pub faulted : Rose old.faults new.faults

-- memory was wanting: the count says so, and all else is as before
pub record Wants (old new : WireState) : Type 0 where
  pub same : new.history ≡ old.history
  pub wanted : Rose old.wants new.wants

-- what it was started with is noted, also where it failed; want of memory leaves all as it was
abbrev pub Starts : Started → WireState → WireState → Listening → Type 0
Starts started.Ready old new a = new.history ≡ listened a old.history
Starts started.Failed old new a = Stops old new (listened a old.history)
Starts started.Memory old new a = Wants old new

-- an event is new, and is given; want of memory leaves all as it was
abbrev pub Gives : Next → WireState → WireState → Type 0
Gives (next.Event e) old new =
    IsTrue (is_new e old.history.opened) × (new.history ≡ event_given e old.history)
Gives next.End old new = new.history ≡ end_answered old.history
Gives next.Failed old new = Stops old new old.history
Gives next.Memory old new = Wants old new

-- of what was offered a first part is taken, or the connection is lost
abbrev pub Takes : Offer → WireState → WireState → ℕ → List ℕ → Type 0
Takes (offer.Took n) old new c bytes = (n ≤ length bytes)
    × (new.history ≡ bytes_taken c (length bytes) (take n bytes) old.history)
Takes offer.Failed old new c bytes =
    (new.history ≡ logged (move.Lost c) old.history) × Rose old.faults new.faults
Takes offer.Memory old new c bytes = Wants old new

-- Whatever frames stand one behind another in a run, each is taken whole by an offer of its own; or nothing changed. Which frames
-- they are is not said, so a wire that tells its log takes no run. One that tells its streams may: that of the connection grows by
-- the run, once, and no other grows.
abbrev pub TakesRun : Bool → WireState → WireState → ℕ → List ℕ → Type 0
TakesRun true old new c run =
    (frames : List (List ℕ)) → concat frames ≡ run → new.history ≡ history_after old.history (wholes c frames)
TakesRun false old new c run = new ≡ old

-- a connection is shut, or nothing changed
abbrev pub Shuts : Shut → WireState → WireState → ℕ → Type 0
Shuts shut.Done old new c = new.history ≡ logged (move.Shut c) old.history
Shuts shut.Memory old new c = Wants old new
