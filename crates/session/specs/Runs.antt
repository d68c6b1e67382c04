-- What a request comes to once its packet has passed the checks. No public clause cites this file.
use Rattle.std.specs.Prelude.{◌≡◌, ◌≤◌, ◌⊎◌, ℕ, List, [], ◌++◌, Option, Some}
use Rattle.spec_plant.specs.World.{Block}
use Rattle.spec_formats.specs.Groups.{sum_read, sum_write, sum_read_write}
use Rattle.spec_formats.specs.Request.{Request, command_of}
use Rattle.spec_machine.specs.World.{setup_of}
use Rattle.spec_machine.specs.Acts.{Act, Outcome, outcomes_of, memory_after_acts, client_after_acts}
use Rattle.spec_machine.specs.Decisions.{Decision, NoAnswer, EndConnection, AmsError, Perform, acts_in}
use Rattle.spec_machine.specs.Replies.{outcome_in_all, reply_payload}
use Rattle.spec_machine.specs.Manner.{Manner}
use Rattle.spec_machine.specs.Sums.{SumRequest}
use Rattle.spec_machine.specs.MoreSums.{sum_told_read, sum_delete, sums_in_manner}
use Rattle.spec_machine.specs.SumPackets.{decide_request}
use Rattle.sum_commands.specs.SumCommand.{sum_of}
use Rattle.ads_base.specs.declared.ams_addr.AmsAddr.{AmsAddr}
use Rattle.ams_header.specs.Header.{address_of}
use Rattle.type_layout.specs.declared.description.Rights.{Rights}
use Rattle.type_layout.specs.Descriptions.{rights_of}
use Rattle.port_device.specs.PortMemory.{PortMemory}
use Rattle.port_device.specs.Holds.{HoldsPort}
use Rattle.session.specs.Asking.{Asking}
use Rattle.session.specs.SessionState.{SessionState}
use Rattle.session.specs.StandsFor.{StandsFor}

-- a port and a session stand for a client who asks
pub record AsksSession (a : Asking) (port : PortMemory) (s : SessionState) : Type 0 where
  pub held : HoldsPort a.world a.asker.port port
  pub stands : StandsFor a.world.plant a.client s

-- some client asks, for whom they stand
pub record SomeSession (port : PortMemory) (s : SessionState) : Type 0 where
  pub asking : Asking
  pub asks : AsksSession asking port s

-- the address and the rights of one who asks
pub record IsFrom (a : Asking) (source : AmsAddr) (rights : Rights) : Type 0 where
  pub address : a.asker.address ≡ address_of source
  pub rights_are : a.asker.rights ≡ rights_of rights

-- what the request of a packet leads to
abbrev pub decision_of : Asking → Request → Decision
decision_of a r = decide_request (setup_of a.world) a.client a.asker r

-- how a decision ends over these bytes
abbrev pub ending_of : Decision → List Block → Outcome
ending_of (Perform acts form) memory = outcome_in_all form (outcomes_of memory acts)
ending_of NoAnswer memory = record { code = 0; bytes = [] }
ending_of EndConnection memory = record { code = 0; bytes = [] }
ending_of (AmsError code) memory = record { code = code; bytes = [] }

-- the asking after acts
abbrev pub after_acts : Asking → List Act → Asking
after_acts a acts = let w = a.world in record {
  world = record w { memory = memory_after_acts w.memory acts };
  client = client_after_acts a.client acts;
  asker = a.asker;
}

-- the request of a packet is run: its reply's payload, and what it leaves
pub record Runs (a : Asking) (r : Request) (old new : List ℕ) (port : PortMemory) (s : SessionState) : Type 0 where
  pub reply : new ≡ old ++ reply_payload (command_of r) (ending_of (decision_of a r) a.world.memory)
  pub after : AsksSession (after_acts a (acts_in (decision_of a r))) port s

-- 0xF080, 0xF081 or 0xF082
abbrev pub IsSumGroup : ℕ → Type 0
IsSumGroup group = (group ≡ sum_read) ⊎ ((group ≡ sum_write) ⊎ (group ≡ sum_read_write))

-- 0xF083 to 0xF086, where it is known to be that sum
pub record IsKnownSum (known : Option (ℕ → List ℕ → SumRequest)) (group : ℕ) : Type 0 where
  pub from : sum_told_read ≤ group
  pub to : group ≤ sum_delete
  pub own : known ≡ Some (sum_of group)

-- a group of sums to a server of this manner
abbrev pub IsSumOf : Manner → ℕ → Type 0
IsSumOf manner group = IsSumGroup group ⊎ IsKnownSum (sums_in_manner manner group) group
