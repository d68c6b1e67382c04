-- What the machine asks of the device behind it. W is the device's world, with its signals;
-- C is what the device keeps for one client.
use Rattle.std.specs.Prelude.{ℕ, List}

-- what a connection is given, as whole frames: the reply to a request, or a notification with
-- so many samples
pub data Produced : Type 0 where
  Reply : List ℕ → Produced
  Notification : ℕ → List ℕ → Produced

-- how the device answers a request: by an AMS packet, not at all, or by an end of the connection
pub data Answer : Type 0 where
  Answered : List ℕ → Answer
  Silent : Answer
  Closing : Answer

-- what a frame of one client leads to
pub record FrameOutcome (W C : Type 0) : Type 0 where
  pub answer : Answer
  pub world : W
  pub client : C

-- what a tick or a reload leads to for one client
pub record ClientOutcome (C : Type 0) : Type 0 where
  pub client : C
  pub frames : List Produced

-- why a description is refused: for the least rule that it breaks and the least item in it that does, or
-- since its text is no TOML document
pub data DescriptionFault : Type 0 where
  BreaksRule : ℕ → ℕ → DescriptionFault
  NoDocument : DescriptionFault

-- an accepted description gives a version and a world
pub data Reloading (W : Type 0) : Type 0 where
  Accepted : ℕ → W → Reloading W
  Refused : DescriptionFault → Reloading W

pub record Device (W C : Type 0) : Type 0 where
  -- what is kept for a client that was not heard yet
  pub new_client : C
  -- the AMS packet of one whole frame
  pub take : W → C → List ℕ → FrameOutcome W C
  -- a tick: the world first, then each client, at a moment and over the world after the tick
  pub world_after_tick : W → W
  pub client_after_tick : ℕ → W → C → ClientOutcome C
  -- the bytes of a description
  pub reload : List ℕ → W → Reloading W
  -- an accepted reload: the last moment, the old and the new world
  pub client_after_reload : ℕ → W → W → C → ClientOutcome C
