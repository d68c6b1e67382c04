-- What comes of a packet, by what its checks said.
use Rattle.std.proofs.Common.{◌≡◌, ◌+◌, ℕ, List, [], ◌++◌, length, take, drop, refl, sym, ◌∙◌, ap, subst, append-nil}
use Rattle.ads_base.specs.Octets.{Extends}
use Rattle.ads_base.proofs.OctetsLemmas.{Extends-same, Extends-append}
use Rattle.ads_base.specs.declared.ams_addr.AmsAddr.{AmsAddr}
use Rattle.ams_header.specs.Header.{address_of, ams_header_of}
use Rattle.ams_header.specs.declared.header.Header as declared
use Rattle.ads_commands.specs.declared.request.Request as meant
use Rattle.ads_commands.specs.Request.{request_meant}
use Rattle.type_layout.specs.declared.description.Rights.{Rights}
use Rattle.type_layout.specs.Descriptions.{rights_of}
use Rattle.session.specs.declared.examined.Examined.TheVariants as examined
use Rattle.std.specs.Prelude.{Option, Some, None, Result, Ok, Err, IfOk}
use Rattle.ads_base.specs.declared.no_memory.NoMemory.{NoMemory}
use Rattle.return_codes.specs.declared.code.Code.{Code}
use Rattle.return_codes.specs.Code.{number_of}
use Rattle.spec_frames.specs.Frame.{frame_bytes}
use Rattle.spec_plant.specs.Description as plant
use Rattle.spec_plant.specs.World.{PlantPort, Block}
use Rattle.spec_plant.specs.Named.{port_numbered}
use Rattle.spec_plant.proofs.SoundLemmas.{port_number}
use Rattle.spec_formats.specs.Codes.{no_error, invalid_size}
use Rattle.spec_formats.specs.Header.{AmsHeader, header_of}
use Rattle.spec_formats.specs.Request.{Request, ReadWrite, command_of}
use Rattle.spec_machine.specs.World.{World, Setup, setup_of}
use Rattle.spec_machine.specs.Acts.{outcomes_of, memory_after_acts, client_after_acts}
use Rattle.spec_machine.specs.Client.{Client, client_after}
use Rattle.spec_machine.specs.Decisions.{Decision, NoAnswer, EndConnection, AmsError, Perform, acts_in, refuse}
use Rattle.spec_machine.specs.Device.{Answer, Answered, FrameOutcome}
use Rattle.spec_machine.specs.Packets.{decide}
use Rattle.spec_machine.specs.Replies.{response_packet, reply_payload, answer_to, answer_of, performed, outcome_in_all}
use Rattle.spec_machine.specs.Sums.{SumRequest}
use Rattle.spec_machine.specs.SumPackets.{known_sum, decide_parts, decide_read_write, decide_request}
use Rattle.spec_machine.specs.Writes.{Asker}
use Rattle.port_device.specs.PortMemory.{PortMemory, PortsMemory, memory_numbered, with_port}
use Rattle.port_device.specs.Holds.{HoldsPort, HoldsPorts, HoldsFound}
use Rattle.port_device.proofs.PortsLemmas.{found_is_held}
use Rattle.session.specs.declared.taken.Taken.{Taken}
use Rattle.session.specs.declared.taken.Taken.TheVariants as taken
use Rattle.session.specs.declared.told.Told.{Told}
use Rattle.session.specs.Answered.{AnswersAsked, IsErrorFrame, IsRefusedFrame}
use Rattle.session.specs.Asking.{Asking}
use Rattle.session.specs.Asks.{SomeAsks}
use Rattle.session.specs.PacketChecks.{IsAsked, Examines}
use Rattle.session.specs.Runs.{AsksSession, IsFrom, Runs, decision_of, ending_of, SomeSession}
use Rattle.session.specs.Served.{IsServed}
use Rattle.session.specs.SessionState.{SessionState}
use Rattle.session.specs.StandsFor.{StandsFor}
use Rattle.session.specs.Takes.{Takes, IsAnswer, outcome_of_packet, taken_of}
use Rattle.session.proofs.ActPuts.{request-at}
use Rattle.session.proofs.FrameLemmas.{behind-old, frame-behind, kept-front}
use Rattle.session.proofs.OtherPorts.{ports-held}

-- the port that was found is held
pub record FoundPort (w : World) (number : ℕ) (m : PortMemory) : Type 0 where
  pub port : PlantPort
  pub found : port_numbered number w.plant.ports ≡ Some port
  pub held : HoldsPort w port m

found-from : (w : World) (number : ℕ) (m : PortMemory) (o : Option PlantPort)
    → port_numbered number w.plant.ports ≡ o → HoldsFound w o (Some m) → FoundPort w number m
found-from w number m None is h = absurd h
found-from w number m (Some p) is h = record { port = p; found = is; held = h }

pub found-port : (w : World) (ports : PortsMemory) (number : ℕ) (m : PortMemory)
    → HoldsPorts w ports → memory_numbered number ports.ports ≡ Some m → FoundPort w number m
found-port w ports number m h found =
    let F : Option PortMemory → Type 0 = λ o. HoldsFound w (port_numbered number w.plant.ports) o in
    found-from w number m (port_numbered number w.plant.ports) refl (subst F found (found_is_held w ports number h))

-- and is the port that is asked
pub same-port : (w : World) (ports : PortsMemory) (number : ℕ) (m : PortMemory) (p : PlantPort)
    → HoldsPorts w ports → memory_numbered number ports.ports ≡ Some m
    → port_numbered number w.plant.ports ≡ Some p → HoldsPort w p m
same-port w ports number m p h found is =
    let own = found-port w ports number m h found in
    let same : own.port ≡ p = let e = own.found in cc in
    let P : PlantPort → Type 0 = λ q. HoldsPort w q m in subst P same own.held

-- where none is found, none is there
pub no-port : (w : World) (ports : PortsMemory) (number : ℕ) (p : PlantPort) → HoldsPorts w ports → memory_numbered number ports.ports ≡ None
    → port_numbered number w.plant.ports ≡ Some p → ⊥
no-port w ports number p h none is =
    let F : Option PortMemory → Type 0 = λ o. HoldsFound w (port_numbered number w.plant.ports) o in
    let G : Option PlantPort → Type 0 = λ o. HoldsFound w o None in
    subst G is (subst F none (found_is_held w ports number h))

pub some-asks : (ports : PortsMemory) (s : SessionState) (number : ℕ) (m : PortMemory) → IsServed ports s → memory_numbered number ports.ports ≡ Some m
    → SomeAsks m s.handles
some-asks ports s number m served found =
    let own = found-port served.world ports number m served.held found in
    record {
      asking = record {
        world = served.world;
        client = served.client;
        asker = record { port = own.port; address = record { net = []; port = 0 }; rights = plant.Read };
      };
      asks = record { held = own.held; handles = served.stands.handles };
    }

pub some-session : (ports : PortsMemory) (s : SessionState) (number : ℕ) (m : PortMemory) → IsServed ports s → memory_numbered number ports.ports ≡ Some m
    → SomeSession m s
unfolding some-asks
some-session ports s number m served found =
    let some = some-asks ports s number m served found in
    record { asking = some.asking; asks = record { held = some.asks.held; stands = served.stands } }

-- the answer to the request of a packet

pub answers-asked : (a : Asking) (h : AmsHeader) (r : Request) (ports : PortsMemory)
    (number : ℕ) (m m' : PortMemory) (s s' : SessionState) (start : ℕ) (old room out new : List ℕ)
    → HoldsPorts a.world ports → port_numbered number a.world.plant.ports ≡ Some a.asker.port
    → Runs a r room out m' s' → start ≡ length old → length room ≡ length old + 38 → take start out ≡ old
    → new ≡ take start out ++ frame_bytes (response_packet h no_error (drop (start + 38) out))
    → AnswersAsked a h r (taken.Answer (drop (length old) new)) (with_port ports number m') s'
answers-asked a h r ports number m m' s s' start old room out new held found runs is_start long kept is_new =
    let p = a.asker.port in
    let payload = reply_payload (command_of r) (ending_of (decision_of a r) a.world.memory) in
    record {
      answered = behind-old old _ new (frame-behind h no_error start old room out payload new is_start long runs.reply kept is_new);
      held = ports-held a.world ports number p m' (acts_in (decision_of a r)) held found (port_number number a.world.plant.ports p found)
          (request-at (setup_of a.world) a.client a.asker r) runs.after.held;
      stands = runs.after.stands;
    }

-- a decision that performs acts
abbrev IsPerform : Decision → Type 0
IsPerform (Perform acts form) = Unit {0}
IsPerform d = ⊥

parts-perform : (d : Setup) (c : Client) (k : Asker) (s : SumRequest) (o : Option ℕ) → IsPerform (decide_parts d c k s o)
parts-perform d c k s (Some code) = tt
parts-perform d c k s None = tt

read_write-performs : (d : Setup) (c : Client) (k : Asker) (o : Option (ℕ → List ℕ → SumRequest)) (group n len : ℕ) (bytes : List ℕ)
    → IsPerform (decide_read_write d c k o group n len bytes)
read_write-performs d c k (Some sum) group n len bytes = parts-perform d c k (sum n bytes) _
read_write-performs d c k None group n len bytes = tt

performs : (d : Setup) (c : Client) (k : Asker) (r : Request) → IsPerform (decide_request d c k r)
unfolding decide_request
performs d c k (ReadWrite group offset len bytes) = read_write-performs d c k (known_sum d.profile group) group offset len bytes
performs d c k r = tt

performed-answer : (h : AmsHeader) (d : Decision) (memory : List Block) → IsPerform d
    → answer_to h d memory ≡ Answered (response_packet h no_error (reply_payload h.command (ending_of d memory)))
performed-answer h (Perform acts form) memory is = refl
performed-answer h NoAnswer memory is = absurd is
performed-answer h EndConnection memory is = absurd is
performed-answer h (AmsError code) memory is = absurd is

-- what a packet comes to by its header and what it is decided to be
abbrev outcome_by : World → Client → Option AmsHeader → Decision → FrameOutcome World Client
outcome_by w c h d = record {
  answer = answer_of h d w.memory;
  world = record w { memory = memory_after_acts w.memory (acts_in d) };
  client = client_after_acts c (acts_in d);
}

takes-by : (w : World) (c : Client) (ams : List ℕ) (h : Option AmsHeader) (d : Decision) (answer : Taken) (ports : PortsMemory) (s : SessionState)
    → header_of ams ≡ h → decide (setup_of w) c ams ≡ d → Takes (outcome_by w c h d) answer ports s → Takes (outcome_of_packet w c ams) answer ports s
unfolding performed
takes-by w c ams h d answer ports s is_header is_decision takes =
    let D : Decision → Type 0 = λ x. Takes (outcome_by w c (header_of ams) x) answer ports s in
    let H : Option AmsHeader → Type 0 = λ x. Takes (outcome_by w c x d) answer ports s in
    subst D (sym is_decision) (subst H (sym is_header) takes)

pub takes-asked : (w : World) (c : Client) (ams : List ℕ) (h : AmsHeader) (k : Asker) (r : Request) (answer : Taken) (ports : PortsMemory) (s : SessionState)
    → header_of ams ≡ Some h → IsAsked w c ams h k r → AnswersAsked (record { world = w; client = c; asker = k }) h r answer ports s
    → Takes (outcome_of_packet w c ams) answer ports s
takes-asked w c ams h k r answer ports s is_header asked answers =
    let a : Asking = record { world = w; client = c; asker = k } in
    let d = decision_of a r in
    let own : answer_to h d w.memory ≡ Answered (response_packet h no_error (reply_payload (command_of r) (ending_of d w.memory))) =
    performed-answer h d w.memory (performs (setup_of w) c k r)
    ∙ ap (λ n. Answered (response_packet h no_error (reply_payload n (ending_of d w.memory)))) (sym asked.command) in
    let A : Answer → Type 0 = λ x. IsAnswer x answer in
    takes-by w c ams (Some h) d answer ports s is_header asked.decision
    (record { answered = subst A (sym own) answers.answered; held = answers.held; stands = answers.stands })

pub takes-silent : (w : World) (c : Client) (ams : List ℕ) (ports : PortsMemory) (s : SessionState) → HoldsPorts w ports → StandsFor w.plant c s
    → decide (setup_of w) c ams ≡ NoAnswer → Takes (outcome_of_packet w c ams) taken.Silent ports s
unfolding memory_after_acts client_after_acts
takes-silent w c ams ports s held stands is =
    takes-by w c ams (header_of ams) NoAnswer taken.Silent ports s refl is (record { answered = none (header_of ams); held = held; stands = stands })
  where
    none : (h : Option AmsHeader) → IsAnswer (answer_of h NoAnswer w.memory) taken.Silent
    none None = tt
    none (Some h) = tt

pub takes-close : (w : World) (c : Client) (ams : List ℕ) (h : AmsHeader) (ports : PortsMemory) (s : SessionState) → HoldsPorts w ports → StandsFor w.plant c s
    → header_of ams ≡ Some h → decide (setup_of w) c ams ≡ EndConnection → Takes (outcome_of_packet w c ams) taken.Close ports s
unfolding memory_after_acts client_after_acts
takes-close w c ams h ports s held stands is_header is =
    takes-by w c ams (Some h) EndConnection taken.Close ports s is_header is (record { answered = tt; held = held; stands = stands })

pub takes-error : (w : World) (c : Client) (ams frame : List ℕ) (h : AmsHeader) (code : Code) (ports : PortsMemory) (s : SessionState) → HoldsPorts w ports
    → StandsFor w.plant c s → header_of ams ≡ Some h → decide (setup_of w) c ams ≡ AmsError (number_of code) → IsErrorFrame h code frame
    → Takes (outcome_of_packet w c ams) (taken.Answer frame) ports s
unfolding memory_after_acts client_after_acts
takes-error w c ams frame h code ports s held stands is_header is is_frame =
    takes-by w c ams (Some h) (AmsError (number_of code)) (taken.Answer frame) ports s is_header is
    (record { answered = is_frame; held = held; stands = stands })

pub takes-refused : (w : World) (c : Client) (ams frame : List ℕ) (h : AmsHeader) (ports : PortsMemory) (s : SessionState) → HoldsPorts w ports
    → StandsFor w.plant c s → header_of ams ≡ Some h → decide (setup_of w) c ams ≡ refuse invalid_size → IsRefusedFrame h frame
    → Takes (outcome_of_packet w c ams) (taken.Answer frame) ports s
unfolding outcomes_of outcome_in_all memory_after_acts client_after_acts client_after
takes-refused w c ams frame h ports s held stands is_header is is_frame =
    takes-by w c ams (Some h) (refuse invalid_size) (taken.Answer frame) ports s is_header is
    (record { answered = is_frame; held = held; stands = stands })

-- frames of the two refusals

pub error-behind : (h : AmsHeader) (code : Code) (n start : ℕ) (old room new : List ℕ) → start ≡ length old → length room ≡ length old + 38
    → take (length old) room ≡ old → n ≡ number_of code → new ≡ take start room ++ frame_bytes (response_packet h n (drop (start + 38) room))
    → new ≡ old ++ frame_bytes (response_packet h (number_of code) [])
error-behind h code n start old room new is_start long begins is is_new =
    let kept = kept-front old room room start is_start long begins (Extends-same room room refl) in
    frame-behind h n start old room room [] new is_start long (sym (append-nil room)) kept is_new
    ∙ ap (λ x. old ++ frame_bytes (response_packet h x [])) is

pub refused-behind : (h : AmsHeader) (start : ℕ) (old room out payload new : List ℕ) → start ≡ length old → length room ≡ length old + 38
    → take (length old) room ≡ old → out ≡ room ++ payload → payload ≡ reply_payload h.command (record { code = invalid_size; bytes = [] })
    → new ≡ take start out ++ frame_bytes (response_packet h no_error (drop (start + 38) out))
    → new ≡ old ++ frame_bytes (response_packet h no_error (reply_payload h.command (record { code = invalid_size; bytes = [] })))
refused-behind h start old room out payload new is_start long begins is_out is_payload is_new =
    let kept = kept-front old room out start is_start long begins (Extends-append room room payload out (Extends-same room room refl) is_out) in
    frame-behind h no_error start old room out payload new is_start long is_out kept is_new
    ∙ ap (λ x. old ++ frame_bytes (response_packet h no_error x)) is_payload

-- the payload of a reply stands behind the room of the headers
pub extends-room : (ports : PortsMemory) (number : ℕ) (m m' : PortMemory)
    (s s' : SessionState) (source : AmsAddr) (rights : Rights) (r : Request) (room out : List ℕ)
    → IsServed ports s → memory_numbered number ports.ports ≡ Some m
    → ((a : Asking) → AsksSession a m s → IsFrom a source rights → Runs a r room out m' s') → Extends room out
extends-room ports number m m' s s' source rights r room out served found runs =
    let own = found-port served.world ports number m served.held found in
    let a : Asking = record {
      world = served.world;
      client = served.client;
      asker = record { port = own.port; address = address_of source; rights = rights_of rights };
    } in
    let said = runs a (record { held = own.held; stands = served.stands }) (record { address = refl; rights_are = refl }) in
    let payload = reply_payload (command_of r) (ending_of (decision_of a r) a.world.memory) in
    Extends-append room room payload out (Extends-same room room refl) said.reply

-- a packet that passed the checks is answered
pub if-asked : (H : World → Type 0) (ams bytes : List ℕ) (h : declared.Header) (rights : Rights)
    (request : meant.Request) (ports ports' : PortsMemory) (s s' : SessionState)
    (r : Result Told NoMemory)
    → ((w : World) (c : Client) → HoldsPorts w ports → H w → Examines w c ams (examined.Asked h rights request))
    → IfOk r (λ told. (a : Asking) → HoldsPorts a.world ports → StandsFor a.world.plant a.client s → IsFrom a h.source rights
    → port_numbered h.target.port a.world.plant.ports ≡ Some a.asker.port
    → AnswersAsked a (ams_header_of h) (request_meant request) (taken_of told bytes) ports' s')
    → IfOk r (λ told. (w : World) (c : Client) → HoldsPorts w ports → StandsFor w.plant c s → H w
    → Takes (outcome_of_packet w c ams) (taken_of told bytes) ports' s')
if-asked H ams bytes h rights request ports ports' s s' (Ok told) says answers = λ w c held stands address.
    let said = says w c held address in
    takes-asked w c ams (ams_header_of h) _ (request_meant request) (taken_of told bytes) ports' s' said.0 said.1.1
    (answers _ held stands (record { address = refl; rights_are = refl }) said.1.1.found)
if-asked H ams bytes h rights request ports ports' s s' (Err no_memory) says answers = tt

-- bytes that were none are all appended
pub behind-nothing : (old new : List ℕ) → old ≡ [] → drop (length old) new ≡ new
behind-nothing old new none = ap (λ x. drop (length x) new) none
