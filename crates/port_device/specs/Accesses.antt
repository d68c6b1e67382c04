-- A Read and a Write of a group that needs no handle, over every world that a port holds. No public clause cites this file.
use Rattle.std.specs.Prelude.{ℕ, List, Option, Result}
use Rattle.return_codes.specs.declared.code.Code.{Code}
use Rattle.spec_plant.specs.Description.{Rights}
use Rattle.spec_plant.specs.World.{PlantPort}
use Rattle.spec_formats.specs.Groups.{Group, group_of}
use Rattle.spec_machine.specs.World.{World, setup_of}
use Rattle.spec_machine.specs.Client as client
use Rattle.spec_machine.specs.Reads.{read_group}
use Rattle.spec_machine.specs.Writes.{Asker, write_group}
use Rattle.port_device.specs.Answers.{AnswersAct}
use Rattle.port_device.specs.Endings.{EndsAs, IsAsker}
use Rattle.port_device.specs.Groups.{without_handles, written_by_port}
use Rattle.port_device.specs.Holds.{HoldsPort}
use Rattle.port_device.specs.PortMemory.{PortMemory}

-- so a Read is answered
abbrev pub AnswersRead : PortMemory → ℕ → ℕ → ℕ → Result (Unit {0}) Code → List ℕ → List ℕ → Type 0
AnswersRead m group offset len answer old new =
    (w : World) (c : client.Client) (p : PlantPort) → HoldsPort w p m
    → AnswersAct w (read_group (setup_of w) c p (without_handles (group_of group)) offset len) answer old new

-- so a Write ends of one with these rights and this NetId
abbrev pub EndsWrite : PortMemory → Option Group → ℕ → List ℕ → Rights → List ℕ → Result (Unit {0}) Code → PortMemory → Type 0
EndsWrite old group offset bytes rights net answer new =
    (w : World) (c : client.Client) (k : Asker) → HoldsPort w k.port old → IsAsker k rights net
    → EndsAs w k.port (write_group c k (written_by_port group) offset bytes) answer new
