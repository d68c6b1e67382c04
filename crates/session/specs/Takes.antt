-- What a session makes of an AMS packet, against the machine.
use Rattle.std.specs.Prelude.{◌≡◌, ℕ, ◌<◌, ◌≤◌, ◌^◌, List, ◌++◌, length, drop}
use Rattle.spec_frames.specs.Frame.{frame_bytes}
use Rattle.spec_plant.specs.Rights.{rights_of}
use Rattle.spec_machine.specs.Client.{Client}
use Rattle.spec_machine.specs.Device.{Answer, Answered, Silent, Closing, FrameOutcome}
use Rattle.spec_machine.specs.Packets.{decide}
use Rattle.spec_machine.specs.Replies.{performed}
use Rattle.spec_machine.specs.World.{World, setup_of}
use Rattle.port_device.specs.PortMemory.{PortsMemory}
use Rattle.port_device.specs.Holds.{HoldsPorts}
use Rattle.net_routes.specs.Admitted.{Admitted}
use Rattle.session.specs.declared.taken.Taken.{Taken}
use Rattle.session.specs.declared.taken.Taken.TheVariants as taken
use Rattle.session.specs.declared.told.Told.{Told}
use Rattle.session.specs.declared.told.Told.TheVariants as told
use Rattle.session.specs.SessionState.{SessionState}
use Rattle.session.specs.StandsFor.{StandsFor}

-- what the server that answers everything makes of an AMS packet
abbrev pub outcome_of_packet : World → Client → List ℕ → FrameOutcome World Client
outcome_of_packet w c ams = performed (decide (setup_of w) c ams) ams w c

-- this is the plant's NetId, these are its routes, and this is the right that its server gives to all others
pub record HasAddress (w : World) (net : List ℕ) (admitted : Admitted) : Type 0 where
  pub net_is : w.plant.net ≡ net
  pub routes_are : (n : List ℕ) → rights_of n admitted.routes ≡ rights_of n w.plant.routes
  pub others_are : admitted.others ≡ w.profile.others

-- the answer of the machine, as a whole frame
abbrev pub IsAnswer : Answer → Taken → Type 0
IsAnswer (Answered packet) (taken.Answer frame) = frame ≡ frame_bytes packet
IsAnswer Silent taken.Silent = Unit {0}
IsAnswer Closing taken.Close = Unit {0}
IsAnswer _ _ = ⊥

-- the answer that is told of, whose frame is these bytes
abbrev pub taken_of : Told → List ℕ → Taken
taken_of told.Answer frame = taken.Answer frame
taken_of told.Silent frame = taken.Silent
taken_of told.Close frame = taken.Close

-- the frame of an answer stands behind the bytes, which else are as they were
abbrev pub AppendsAnswer : Told → List ℕ → List ℕ → Type 0
AppendsAnswer told.Answer old new = new ≡ old ++ drop (length old) new
AppendsAnswer _ old new = new ≡ old

-- what comes of a packet: its answer, and ports and session that stand for the world and the client after it
pub record Takes (o : FrameOutcome World Client) (answer : Taken) (ports : PortsMemory) (s : SessionState) : Type 0 where
  pub answered : IsAnswer o.answer answer
  pub held : HoldsPorts o.world ports
  pub stands : StandsFor o.world.plant o.client s

-- a frame has a header, and its length fits 32 bits
abbrev pub FitsFrame : Taken → Type 0
FitsFrame (taken.Answer frame) = (38 ≤ length frame) × (length frame < 2 ^ 32)
FitsFrame _ = Unit {0}
