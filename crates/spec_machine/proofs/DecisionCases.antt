-- What holds of each thing that a packet may lead to holds of what it does lead to.
use Rattle.std.proofs.Common.{◌≡◌, ℕ, List, [], ◌∷◌, length, Bool, true, false, cond, refl}
use Rattle.std.specs.Prelude.{Option, Some, None}
use Rattle.std.specs.Option.{option_or}
use Rattle.spec_plant.specs.Description.{Rights}
use Rattle.spec_plant.specs.World.{PlantPort}
use Rattle.spec_formats.specs.Codes.{target_port_not_found, target_machine_not_found, unknown_command_id, unknown_ams_command, invalid_ams_length, invalid_size}
use Rattle.spec_formats.specs.Groups.{Group, SumRead, SumWrite, SumReadWrite}
use Rattle.spec_formats.specs.Header.{AmsAddress, AmsHeader, header_of, payload_of}
use Rattle.spec_formats.specs.Request.{Request, ReadDeviceInfo, Read, Write, ReadState, WriteControl}
use Rattle.spec_formats.specs.Request.{AddDeviceNotification, DeleteDeviceNotification, DeviceNotification}
use Rattle.spec_formats.specs.Request.{ReadWrite, request_of}
use Rattle.spec_machine.specs.World.{Setup, port_numbered}
use Rattle.spec_machine.specs.Client.{Client}
use Rattle.spec_machine.specs.Answers.{answered_group, READ_WRITE}
use Rattle.spec_machine.specs.Writes.{Asker}
use Rattle.spec_machine.specs.Sums.{SumRequest, sum_of_reads, sum_of_writes, sum_of_read_writes}
use Rattle.spec_machine.specs.MoreSums.{more_sums}
use Rattle.spec_machine.specs.Decisions.{Decision, NoAnswer, EndConnection, AmsError, refuse}
use Rattle.spec_machine.specs.SumPackets.{sum_of_group, decide_single, decide_sum, decide_read_write, decide_request}
use Rattle.spec_machine.specs.Packets.{Check, source_rights, checks_of, checked, question, decide_passed, decide_header, decide}

-- it holds of each; requests are asked of a port that is there
pub record EachCase (d : Setup) (c : Client) (P : Decision → Type 0) : Type 0 where
  pub silent : P NoAnswer
  pub ends : P EndConnection
  pub error : (code : ℕ) → P (AmsError code)
  pub refused : (code : ℕ) → P (refuse code)
  pub single : (k : Asker) (number : ℕ) → port_numbered number d.plant.ports ≡ Some k.port → (r : Request) → P (decide_single d c k r)
  pub reads : (k : Asker) (number : ℕ) → port_numbered number d.plant.ports ≡ Some k.port
      → (n len : ℕ) (bytes : List ℕ) → P (decide_sum d c k n (length bytes) len (sum_of_reads n bytes))
  pub writes : (k : Asker) (number : ℕ) → port_numbered number d.plant.ports ≡ Some k.port
      → (n len : ℕ) (bytes : List ℕ) → P (decide_sum d c k n (length bytes) len (sum_of_writes n bytes))
  pub read_writes : (k : Asker) (number : ℕ) → port_numbered number d.plant.ports ≡ Some k.port
      → (n len : ℕ) (bytes : List ℕ) → P (decide_sum d c k n (length bytes) len (sum_of_read_writes n bytes))
  pub more : (k : Asker) (number : ℕ) → port_numbered number d.plant.ports ≡ Some k.port
      → (group : ℕ) (sum : ℕ → List ℕ → SumRequest) → more_sums d.profile group ≡ Some sum
      → (n len : ℕ) (bytes : List ℕ) → P (decide_sum d c k n (length bytes) len (sum n bytes))

group-case : (d : Setup) (c : Client) (P : Decision → Type 0) → EachCase d c P
    → (k : Asker) (number : ℕ) → port_numbered number d.plant.ports ≡ Some k.port
    → (group n len : ℕ) (bytes : List ℕ) (g : Option Group) → P (decide_read_write d c k (sum_of_group g) group n len bytes)
group-case d c P law k number e group n len bytes (Some SumRead) = law.reads k number e n len bytes
group-case d c P law k number e group n len bytes (Some SumWrite) = law.writes k number e n len bytes
group-case d c P law k number e group n len bytes (Some SumReadWrite) = law.read_writes k number e n len bytes
group-case d c P law k number e group n len bytes g = law.single k number e (ReadWrite group n len bytes)

read_write-case : (d : Setup) (c : Client) (P : Decision → Type 0) → EachCase d c P
    → (k : Asker) (number : ℕ) → port_numbered number d.plant.ports ≡ Some k.port
    → (group n len : ℕ) (bytes : List ℕ) (o : Option (ℕ → List ℕ → SumRequest)) → more_sums d.profile group ≡ o
    → P (decide_read_write d c k (option_or o (sum_of_group (answered_group READ_WRITE group))) group n len bytes)
read_write-case d c P law k number e group n len bytes (Some sum) is = law.more k number e group sum is n len bytes
read_write-case d c P law k number e group n len bytes None is = group-case d c P law k number e group n len bytes (answered_group READ_WRITE group)

request-case : (d : Setup) (c : Client) (P : Decision → Type 0) → EachCase d c P → (k : Asker) (number : ℕ) → port_numbered number d.plant.ports ≡ Some k.port
    → (r : Request) → P (decide_request d c k r)
unfolding decide_request
request-case d c P law k number e (ReadWrite group offset len bytes) =
    read_write-case d c P law k number e group offset len bytes (more_sums d.profile group) refl
request-case d c P law k number e ReadDeviceInfo = law.single k number e ReadDeviceInfo
request-case d c P law k number e (Read g o l) = law.single k number e (Read g o l)
request-case d c P law k number e (Write g o b) = law.single k number e (Write g o b)
request-case d c P law k number e ReadState = law.single k number e ReadState
request-case d c P law k number e (WriteControl a s b) = law.single k number e (WriteControl a s b)
request-case d c P law k number e (AddDeviceNotification g o l m y t) = law.single k number e (AddDeviceNotification g o l m y t)
request-case d c P law k number e (DeleteDeviceNotification h) = law.single k number e (DeleteDeviceNotification h)
request-case d c P law k number e (DeviceNotification b) = law.single k number e (DeviceNotification b)

passed-case : (d : Setup) (c : Client) (P : Decision → Type 0) → EachCase d c P
    → (source : AmsAddress) (number : ℕ) (rights : Option Rights) (port : Option PlantPort)
    → port_numbered number d.plant.ports ≡ port → (request : Option Request) → P (decide_passed d c (question source rights port request))
passed-case d c P law source number (Some rights) (Some port) e (Some request) =
    request-case d c P law (record { port = port; address = source; rights = rights }) number e request
passed-case d c P law source number (Some rights) (Some port) e None = law.silent
passed-case d c P law source number (Some rights) None e request = law.silent
passed-case d c P law source number None port e request = law.silent

-- it holds of what each of these checks leads to
EachStop : (Decision → Type 0) → List Check → Type 0
EachStop P [] = Unit {0}
EachStop P (c ∷ cs) = P c.leads_to × EachStop P cs

if_case : (P : Decision → Type 0) (b : Bool) (x y : Decision) → P x → P y → P (cond b x y)
if_case P true x y p q = p
if_case P false x y p q = q

checked-case : (P : Decision → Type 0) (cs : List Check) (x : Decision) → EachStop P cs → P x → P (checked cs x)
unfolding EachStop
checked-case P [] x e p = p
checked-case P (c ∷ cs) x e p = if_case P c.stops c.leads_to (checked cs x) (e.0) (checked-case P cs x (e.1) p)

header-case : (d : Setup) (c : Client) (P : Decision → Type 0) → EachCase d c P → (payload : List ℕ) (o : Option AmsHeader) → P (decide_header d c payload o)
unfolding EachStop
header-case d c P law payload None = law.silent
header-case d c P law payload (Some h) =
    let E = law.error in
    let stops : EachStop P (checks_of d h payload) = (
      E invalid_ams_length,
      (
        law.silent,
        (
          E unknown_ams_command,
          (law.ends, (E target_machine_not_found, (E target_port_not_found, (law.silent, (E unknown_command_id, (law.refused invalid_size, tt)))))),
        ),
      ),
    ) in
    checked-case P (checks_of d h payload) _ stops
    (passed-case d c P law h.source h.target.port (source_rights d h)
    (port_numbered h.target.port d.plant.ports) refl (request_of h.command payload))

pub decide-cases : (d : Setup) (c : Client) (P : Decision → Type 0) → EachCase d c P → (packet : List ℕ) → P (decide d c packet)
unfolding decide
decide-cases d c P law packet = header-case d c P law (payload_of packet) (header_of packet)
