-- The parts of a sum are single requests of one client at one port. No public clause cites this file.
use Rattle.std.specs.Prelude.{◌≡◌}
use Rattle.spec_formats.specs.Request.{Request}
use Rattle.spec_machine.specs.Acts.{Outcome}
use Rattle.spec_machine.specs.Client.{Client}
use Rattle.ams_header.specs.Header.{address_of}
use Rattle.type_layout.specs.Descriptions.{rights_of}
use Rattle.port_device.specs.Endings.{IsAsker, KeepsDescription}
use Rattle.session.specs.declared.single.Single.{Single}
use Rattle.session.specs.Asking.{Asking, outcome_asked, asking_after}
use Rattle.session.specs.Asks.{Asks}
use Rattle.session.specs.Watching.{NotesFor}

-- a client has the notifications of another
pub record SameNotes (c next : Client) : Type 0 where
  pub additions : next.additions ≡ c.additions
  pub watches : next.watches ≡ c.watches

-- the client who asks, and what was lent for the sum as it was when that began
pub record SumState : Type 0 where
  pub asking : Asking
  pub begun : Single

-- the same handles, notifications and port are lent; of the port only bytes are others
pub record StillLent (begun s : Single) : Type 0 where
  pub handles : s.handles.ghost_name ≡ begun.handles.ghost_name
  pub watches : s.watches.ghost_name ≡ begun.watches.ghost_name
  pub port : s.port.ghost_name ≡ begun.port.ghost_name
  pub keeps : KeepsDescription begun.port.now s.port.now

pub record IsSingle (s : Single) (x : SumState) : Type 0 where
  pub asks : Asks x.asking s.port.now s.handles.now
  pub asker : IsAsker x.asking.asker (rights_of s.asker.rights) s.asker.source.net.bytes
  pub address : x.asking.asker.address ≡ address_of s.asker.source
  pub lent : StillLent x.begun s
  pub notes : NotesFor x.asking.world.plant.ports x.asking.client s.watches.now

abbrev pub part_outcome : SumState → Request → Outcome
part_outcome x r = outcome_asked x.asking r

abbrev pub state_after : SumState → Request → SumState
state_after x r = record { asking = asking_after x.asking r; begun = x.begun }

-- after want of memory too only bytes of the port are others
abbrev pub MayLeave : SumState → Request → Single → Type 0
MayLeave x r s = StillLent x.begun s
