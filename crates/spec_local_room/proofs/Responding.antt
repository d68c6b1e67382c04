-- The server takes a request of a call: it answers, and the answer is read as one to this request.
use Rattle.std.proofs.Common.{◌≡◌, ℕ, ◌+◌, ◌<◌, ◌^◌, List, [], ◌∷◌, ◌++◌, length, refl, sym, ap, ◌∙◌, subst, arith}
use Rattle.std.specs.Prelude.{Some, None}
use Rattle.std.specs.Int.{w32, to_le_bytes}
use Rattle.std.proofs.lemmas.List.{length-append, drop_at}
use Rattle.std.proofs.lemmas.Nat.{from_le_bytes-to_le_bytes_4}
use Rattle.spec_plant.specs.World.{Block}
use Rattle.spec_formats.specs.Codes.{no_error}
use Rattle.spec_formats.specs.Commands.{ADD_DEVICE_NOTIFICATION}
use Rattle.spec_formats.specs.Header.{AmsAddress, AmsHeader, IsAddress, IsHeader, header_bytes, header_of, payload_of, request_flags, response_header}
use Rattle.spec_formats.specs.Numbers.{number32}
use Rattle.spec_formats.specs.Request.{Request, command_of, request_bytes}
use Rattle.spec_formats.specs.Reply as reply
use Rattle.spec_formats.specs.Reply.{Reply, reply_of, reply_bytes}
use Rattle.spec_formats.proofs.HeaderLemmas.{header_of-header_bytes, length-header_bytes}
use Rattle.spec_formats.proofs.ReplyLemmas.{reply_of-of_text, written_bytes-done}
use Rattle.spec_machine.specs.Access.{Addressed}
use Rattle.spec_machine.specs.Acts.{changing, outcomes_of, client_after_acts}
use Rattle.spec_machine.specs.AdsDevice.{DescriptionReading, ads_device}
use Rattle.spec_machine.specs.Client.{Client, client_after, Adds}
use Rattle.spec_machine.specs.Decisions.{Decision, NoAnswer, EndConnection, AmsError, Perform, Single, acts_in}
use Rattle.spec_machine.specs.Device.{Answered}
use Rattle.spec_machine.specs.Packets.{decide_header, decide}
use Rattle.spec_machine.specs.Replies.{reply_in_forms, outcome_in_all, response_packet, answer_to, answer_of, performed, reply_payload}
use Rattle.spec_machine.specs.Watches.{Watch}
use Rattle.spec_machine.specs.World.{World, setup_of}
use Rattle.spec_client.specs.Client.{request_packet}
use Rattle.spec_client.specs.Replies.{handle_given}
use Rattle.spec_client.specs.Unanswered.{Unanswered}
use Rattle.spec_local_room.proofs.Hearing.{IsAnswerTo}
use Rattle.spec_local_room.proofs.Pieces.{Replies}
use Rattle.spec_local_room.proofs.Deciding.{IsReplied, Adding}

-- the header of a request, and what stands in its packet
abbrev pub asking : AmsAddress → AmsAddress → ℕ → Request → AmsHeader
asking me peer id r = record {
  target = peer;
  source = me;
  command = command_of r;
  flags = request_flags;
  len = length (request_bytes r);
  error = no_error;
  id = id;
}

pub record IsAsked (me peer : AmsAddress) (id : ℕ) (r : Request) : Type 0 where
  pub from : IsAddress me
  pub to : IsAddress peer
  pub small : id < 2 ^ 32
  pub len : length (request_bytes r) < 2 ^ 31
  pub command : command_of r < 2 ^ 16

asked_header : (me peer : AmsAddress) (id : ℕ) (r : Request) → IsAsked me peer id r → IsHeader (asking me peer id r)
asked_header me peer id r a = record {
  target = a.to;
  source = a.from;
  command = a.command;
  flags = omega arith;
  len = let l = a.len in omega (arith, l);
  error = omega arith;
  id = a.small;
}

pub header_of-asked : (me peer : AmsAddress) (id : ℕ) (r : Request) → IsAsked me peer id r
    → header_of (request_packet me peer id r) ≡ Some (asking me peer id r)
header_of-asked me peer id r a = header_of-header_bytes (asking me peer id r) (request_bytes r) (asked_header me peer id r a)

payload_of-asked : (me peer : AmsAddress) (id : ℕ) (r : Request) → IsAsked me peer id r → payload_of (request_packet me peer id r) ≡ request_bytes r
payload_of-asked me peer id r a =
    drop_at (header_bytes (asking me peer id r)) (request_bytes r) 32 (length-header_bytes (asking me peer id r) (asked_header me peer id r a))

pub length-asked : (me peer : AmsAddress) (id : ℕ) (r : Request) → IsAsked me peer id r → length (request_packet me peer id r) < 2 ^ 32
length-asked me peer id r a =
    let sum = length-append (header_bytes (asking me peer id r)) (request_bytes r) in
    let head = length-header_bytes (asking me peer id r) (asked_header me peer id r a) in
    let small = a.len in
    omega (arith, sum, head, small)

-- what is decided of it
abbrev pub decision : World → Client → AmsAddress → AmsAddress → ℕ → Request → Decision
decision w c me peer id r = decide_header (setup_of w) c (request_bytes r) (Some (asking me peer id r))

pub decided_so : (w : World) (c : Client) (me peer : AmsAddress) (id : ℕ) (r : Request) → IsAsked me peer id r
    → decide (setup_of w) c (request_packet me peer id r) ≡ decision w c me peer id r
unfolding decide
decided_so w c me peer id r a =
    let q = request_packet me peer id r in
    ap (λ p. decide_header (setup_of w) c p (header_of q)) (payload_of-asked me peer id r a)
    ∙ ap (decide_header (setup_of w) c (request_bytes r)) (header_of-asked me peer id r a)

-- what is done
pub record Does (reading : DescriptionReading) (w : World) (c : Client) (me peer : AmsAddress) (id : ℕ) (r : Request) : Type 0 where
  pub answer : ((ads_device reading).take w c (request_packet me peer id r)).answer ≡ answer_to (asking me peer id r) (decision w c me peer id r) w.memory
  pub client : ((ads_device reading).take w c (request_packet me peer id r)).client ≡ client_after_acts c (acts_in (decision w c me peer id r))
  pub plant : ((ads_device reading).take w c (request_packet me peer id r)).world.plant ≡ w.plant

pub does : (reading : DescriptionReading) (w : World) (c : Client) (me peer : AmsAddress) (id : ℕ) (r : Request)
    → IsAsked me peer id r → Does reading w c me peer id r
unfolding performed
does reading w c me peer id r a =
    let q = request_packet me peer id r in
    let is = decided_so w c me peer id r a in
    record {
      answer = ap (λ o. answer_of o (decide (setup_of w) c q) w.memory) (header_of-asked me peer id r a)
          ∙ ap (λ d. answer_to (asking me peer id r) d w.memory) is;
      client = ap (λ d. client_after_acts c (acts_in d)) is;
      plant = refl;
    }

pub replies_so : (h : AmsHeader) (d : Decision) (memory : List Block) → IsReplied d → Replies (answer_to h d memory)
replies_so h NoAnswer memory is = is
replies_so h EndConnection memory is = tt
replies_so h (AmsError code) memory is = tt
replies_so h (Perform acts form) memory is = tt

-- an answer with a packet is a response
pub record IsResponseTo (h : AmsHeader) (packet : List ℕ) : Type 0 where
  pub code : ℕ
  pub payload : List ℕ
  pub is : packet ≡ response_packet h code payload
  pub small : code < 2 ^ 32

packet_same : (p q : List ℕ) → Answered p ≡ Answered q → q ≡ p
packet_same p q e = cc

pub response_so : (h : AmsHeader) (d : Decision) (memory : List Block) (packet : List ℕ)
    → IsReplied d → answer_to h d memory ≡ Answered packet → IsResponseTo h packet
response_so h NoAnswer memory packet is e = absurd is
response_so h EndConnection memory packet is e = absurd cc
response_so h (AmsError code) memory packet is e = record { code = code; payload = []; is = packet_same _ packet e; small = is }
response_so h (Perform acts form) memory packet is e =
    record {
      code = no_error;
      payload = reply_payload h.command (outcome_in_all form (outcomes_of memory acts));
      is = packet_same _ packet e;
      small = omega arith;
    }

-- the header of a response fits, where it was produced
abbrev pub answering : AmsHeader → ℕ → List ℕ → AmsHeader
answering h code payload = response_header h code (length payload)

answering_fits : (me peer : AmsAddress) (id : ℕ) (r : Request) → IsAsked me peer id r → (code : ℕ) (payload : List ℕ) → code < 2 ^ 32 → length payload < 2 ^ 32
    → IsHeader (answering (asking me peer id r) code payload)
answering_fits me peer id r a code payload small len = record {
  target = a.from;
  source = a.to;
  command = a.command;
  flags = omega arith;
  len = len;
  error = small;
  id = a.small;
}

payload_small : (h : AmsHeader) (code : ℕ) (payload : List ℕ) → length (response_packet h code payload) < 2 ^ 32 → length payload < 2 ^ 32
unfolding response_packet
payload_small h code payload small = let sum = length-append (header_bytes (answering h code payload)) payload in omega (arith, sum, small)

header_of-response : (me peer : AmsAddress) (id : ℕ) (r : Request) → IsAsked me peer id r
    → (code : ℕ) (payload : List ℕ) → code < 2 ^ 32 → length payload < 2 ^ 32
    → header_of (response_packet (asking me peer id r) code payload) ≡ Some (answering (asking me peer id r) code payload)
unfolding response_packet
header_of-response me peer id r a code payload small len =
    header_of-header_bytes (answering (asking me peer id r) code payload) payload (answering_fits me peer id r a code payload small len)

payload_of-response : (me peer : AmsAddress) (id : ℕ) (r : Request) → IsAsked me peer id r
    → (code : ℕ) (payload : List ℕ) → code < 2 ^ 32 → length payload < 2 ^ 32
    → payload_of (response_packet (asking me peer id r) code payload) ≡ payload
unfolding response_packet
payload_of-response me peer id r a code payload small len =
    let h = answering (asking me peer id r) code payload in
    drop_at (header_bytes h) payload 32 (length-header_bytes h (answering_fits me peer id r a code payload small len))

length-response : (me peer : AmsAddress) (id : ℕ) (r : Request) → IsAsked me peer id r → (code : ℕ) (payload : List ℕ) → code < 2 ^ 32 → length payload < 2 ^ 32
    → 32 + length payload ≡ length (response_packet (asking me peer id r) code payload)
unfolding response_packet
length-response me peer id r a code payload small len =
    let h = answering (asking me peer id r) code payload in
    let head = length-header_bytes h (answering_fits me peer id r a code payload small len) in
    let sum = length-append (header_bytes h) payload in
    omega (arith, head, sum)

-- the request that waits for it
abbrev pub asked_one : ℕ → Request → ℕ → Unanswered
asked_one id r now = record { id = id; command = command_of r; sent = now; timed_out = None }

pub response_answers : (me peer : AmsAddress) (id : ℕ) (r : Request) (now : ℕ) (packet : List ℕ)
    → IsAsked me peer id r → IsResponseTo (asking me peer id r) packet
    → length packet < 2 ^ 32 → IsAnswerTo (asked_one id r now) me peer packet
response_answers me peer id r now packet a is small =
    let h = asking me peer id r in
    let len = payload_small h is.code is.payload (subst (λ p. length p < 2 ^ 32) is.is small) in
    subst (IsAnswerTo (asked_one id r now) me peer) (sym is.is) (record {
      header = answering h is.code is.payload;
      read = header_of-response me peer id r a is.code is.payload is.small len;
      len = length-response me peer id r a is.code is.payload is.small len;
      response = refl;
      id = refl;
      command = refl;
      source = refl;
      target = refl;
    })

-- the handle that an addition gives is that of the notification that was added
abbrev pub GivesHandle : ℕ → List ℕ → Type 0
GivesHandle handle packet = (h : AmsHeader) (r : Reply) → header_of packet ≡ Some h → reply_of h.command (payload_of packet) ≡ Some r → handle_given r ≡ handle

added_payload : (memory : List Block) (w : Watch (List Addressed)) → w.handle < 2 ^ 32
    → reply_payload ADD_DEVICE_NOTIFICATION (outcome_in_all Single (outcomes_of memory (changing (to_le_bytes w32 w.handle) (Adds w) ∷ [])))
    ≡ reply_bytes (reply.AddDeviceNotification 0 w.handle)
unfolding outcomes_of outcome_in_all reply_in_forms
added_payload memory w small =
    let n : number32 0 (to_le_bytes w32 w.handle ++ []) ≡ w.handle = from_le_bytes-to_le_bytes_4 w.handle small in
    written_bytes-done (reply.AddDeviceNotification 0 (number32 0 (to_le_bytes w32 w.handle ++ []))) refl
    ∙ ap (λ k. reply_bytes (reply.AddDeviceNotification 0 k)) n

added_read : (handle : ℕ) → handle < 2 ^ 32
    → reply_of ADD_DEVICE_NOTIFICATION (reply_bytes (reply.AddDeviceNotification 0 handle)) ≡ Some (reply.AddDeviceNotification 0 handle)
added_read handle small =
    reply_of-of_text ADD_DEVICE_NOTIFICATION (reply_bytes (reply.AddDeviceNotification 0 handle)) (reply.AddDeviceNotification 0 handle)
    (record { command_is = refl; result_fits = omega arith; fields_fit = small; whole = refl })

handle_so : (handle : ℕ) (p : List ℕ) (r : Reply)
    → reply_of ADD_DEVICE_NOTIFICATION p ≡ Some (reply.AddDeviceNotification 0 handle) → reply_of ADD_DEVICE_NOTIFICATION p ≡ Some r
    → handle_given r ≡ handle
handle_so handle p r is e = let same : reply.AddDeviceNotification 0 handle ≡ r = cc in ap handle_given (sym same)

header_same : (packet : List ℕ) (h k : AmsHeader) → header_of packet ≡ Some h → header_of packet ≡ Some k → k ≡ h
header_same packet h k e f = cc

pub addition_gives : (w : World) (c : Client) (me peer : AmsAddress) (id : ℕ) (r : Request)
    (packet : List ℕ) (added : Adding (asking me peer id r) w.plant (decision w c me peer id r))
    → IsAsked me peer id r → command_of r ≡ ADD_DEVICE_NOTIFICATION → length packet < 2 ^ 32
    → answer_to (asking me peer id r) (decision w c me peer id r) w.memory ≡ Answered packet → GivesHandle added.w.handle packet
addition_gives w c me peer id r packet added a command small e h x read got =
    let g = asking me peer id r in
    let handle = added.w.handle in
    let outcome = outcome_in_all Single (outcomes_of w.memory (changing (to_le_bytes w32 handle) (Adds added.w) ∷ [])) in
    let payload = reply_payload (command_of r) outcome in
    let is : packet ≡ response_packet g no_error payload = packet_same _ packet (sym (ap (λ d. answer_to g d w.memory) added.is) ∙ e) in
    let len = payload_small g no_error payload (subst (λ p. length p < 2 ^ 32) is small) in
    let head : header_of packet ≡ Some (answering g no_error payload) =
    ap header_of is ∙ header_of-response me peer id r a no_error payload (omega arith) len in
    let body : payload_of packet ≡ reply_bytes (reply.AddDeviceNotification 0 handle)
    = ap payload_of is ∙ payload_of-response me peer id r a no_error payload (omega arith) len ∙ ap (λ n. reply_payload n outcome) command
    ∙ added_payload w.memory added.w added.watch.handle in
    let same = header_same packet (answering g no_error payload) h head read in
    let command_is : h.command ≡ ADD_DEVICE_NOTIFICATION = ap (λ (k : AmsHeader). k.command) same ∙ command in
    let got_so : reply_of ADD_DEVICE_NOTIFICATION (reply_bytes (reply.AddDeviceNotification 0 handle)) ≡ Some x
    = sym (ap (λ n. reply_of n (payload_of packet)) command_is ∙ ap (reply_of ADD_DEVICE_NOTIFICATION) body) ∙ got in
    handle_so handle (reply_bytes (reply.AddDeviceNotification 0 handle)) x (added_read handle added.watch.handle) got_so

-- the notifications behind it
pub added_watches : (c : Client) (w : Watch (List Addressed)) (d : Decision)
    → d ≡ Perform (changing (to_le_bytes w32 w.handle) (Adds w) ∷ []) Single
    → (client_after_acts c (acts_in d)).watches ≡ c.watches ++ w ∷ []
unfolding client_after_acts client_after
added_watches c w d is = ap (λ e. (client_after_acts c (acts_in e)).watches) is
