-- What the requests of a packet, of a piece and of a move leave is what the machine makes of it.
use Rattle.std.proofs.Common.{◌≡◌, ℕ, List, [], ◌∷◌, ◌++◌, Bool, true, false, cond, refl, sym, ◌∙◌, ap, subst, inl, inr}
use Rattle.std.specs.Prelude.{Option, Some, None, is_none, if◌then◌else◌}
use Rattle.std.specs.List.{list_any}
use Rattle.std.proofs.lemmas.Bool.{cases_Bool, or_parts}
use Rattle.std.proofs.lemmas.List.Concat.{flat_map-append}
use Rattle.spec_plant.specs.Description.{Rights}
use Rattle.spec_plant.specs.World.{PlantPort, Block}
use Rattle.spec_formats.specs.Codes.{target_port_not_found, target_machine_not_found, unknown_command_id, unknown_ams_command, invalid_ams_length, invalid_size}
use Rattle.spec_formats.specs.Header.{AmsAddress, AmsHeader, header_of, payload_of}
use Rattle.spec_formats.specs.Request.{Request, ReadDeviceInfo, Read, Write, ReadState, WriteControl}
use Rattle.spec_formats.specs.Request.{AddDeviceNotification, DeleteDeviceNotification, DeviceNotification, ReadWrite}
use Rattle.spec_formats.specs.Request.{request_of}
use Rattle.spec_machine.specs.Device.{FrameOutcome}
use Rattle.spec_machine.specs.Connection.{Connection, is_deaf}
use Rattle.spec_machine.specs.MachineState.{MachineState, Exchange, exchange_of, after_exchange}
use Rattle.spec_machine.specs.Piece.{with_received, packets_left, with_one_taken, with_client, with_piece}
use Rattle.spec_machine.specs.Piece.{after_outcome, after_packet, after_packets, end_of_piece, after_piece}
use Rattle.spec_machine.specs.World.{World, Setup, setup_of, port_numbered}
use Rattle.spec_machine.specs.Client.{Client, client_after}
use Rattle.spec_machine.specs.Acts.{Act, memory_after_acts, client_after_acts, writes_of_act, writes_of_acts}
use Rattle.spec_machine.specs.Writes.{Asker}
use Rattle.spec_machine.specs.Requests.{act_of}
use Rattle.spec_machine.specs.Sums.{SumRequest, given_in_turn}
use Rattle.spec_machine.specs.SumLaws.{Party, party_after}
use Rattle.spec_machine.specs.Decisions.{Decision, NoAnswer, EndConnection, AmsError, refuse, acts_in}
use Rattle.spec_machine.specs.SumPackets.{acts_of, known_sum, decide_parts, decide_read_write, decide_request}
use Rattle.spec_machine.specs.Packets.{Check, source_rights, checks_of, checked, question, question_of, decide_passed, decide_header, decide}
use Rattle.spec_machine.specs.Replies.{performed}
use Rattle.spec_machine.specs.Projection.{acts_of_packet, acts_of_packets, acts_of_piece, acts_at}
use Rattle.spec_laws.proofs.Exchanges.{answer-client, rest-client}
use Rattle.spec_promises.specs.Asked.{Asked, act_of_asked, after_asked, asked_in_turn, requests_in, requests_of, asked_of_question, asked_of_header}
use Rattle.spec_promises.specs.Asked.{party_of, asked_of_packet, asked_of_packets, asked_of_piece, asked_at, names_written, Leads}
use Rattle.spec_server.specs.Server.{read_description, server_device}

leads-append : (as_ bs : List Asked) (x y z : List Block) → Leads x as_ y → Leads y bs z → Leads x (as_ ++ bs) z
leads-append [] bs x y z p q = subst (λ m. Leads m bs z) (sym p) q
leads-append (a ∷ as_) bs x y z p q = (p.0, leads-append as_ bs (after_asked a).memory y z (p.1) q)

-- each finds the client that the one before it left
abbrev pub LeadsClient : Client → List Asked → Client → Type 0
LeadsClient first [] last = first ≡ last
LeadsClient first (a ∷ as_) last = (a.before.client ≡ first) × LeadsClient (after_asked a).client as_ last

clients-append : (as_ bs : List Asked) (x y z : Client) → LeadsClient x as_ y → LeadsClient y bs z
    → LeadsClient x (as_ ++ bs) z
clients-append [] bs x y z p q = subst (λ c. LeadsClient c bs z) (sym p) q
clients-append (a ∷ as_) bs x y z p q = (p.0, clients-append as_ bs (after_asked a).client y z (p.1) q)

-- requests lead as these acts do, and write the names that they write
record Matches (first : Party) (acts : List Act) (asked : List Asked) : Type 0 where
  leads : Leads first.memory asked (memory_after_acts first.memory acts)
  clients : LeadsClient first.client asked (client_after_acts first.client acts)
  names : names_written asked ≡ writes_of_acts acts

in_turn-leads : (d : Setup) (k : Asker) (rs : List Request) (p : Party)
    → Leads p.memory (asked_in_turn d k p rs) (memory_after_acts p.memory (acts_of d p.client k rs))
unfolding asked_in_turn acts_of given_in_turn memory_after_acts
in_turn-leads d k [] p = refl
in_turn-leads d k (r ∷ rs) p = (refl, in_turn-leads d k rs (party_after d k p r))

in_turn-clients : (d : Setup) (k : Asker) (rs : List Request) (p : Party)
    → LeadsClient p.client (asked_in_turn d k p rs) (client_after_acts p.client (acts_of d p.client k rs))
unfolding asked_in_turn acts_of given_in_turn client_after_acts
in_turn-clients d k [] p = refl
in_turn-clients d k (r ∷ rs) p = (refl, in_turn-clients d k rs (party_after d k p r))

in_turn-names : (d : Setup) (k : Asker) (rs : List Request) (p : Party)
    → names_written (asked_in_turn d k p rs) ≡ writes_of_acts (acts_of d p.client k rs)
unfolding asked_in_turn acts_of given_in_turn
in_turn-names d k [] p = refl
in_turn-names d k (r ∷ rs) p = ap (λ ns. writes_of_act (act_of d p.client k r) ++ ns) (in_turn-names d k rs (party_after d k p r))

in_turn : (d : Setup) (k : Asker) (rs : List Request) (p : Party)
    → Matches p (acts_of d p.client k rs) (asked_in_turn d k p rs)
in_turn d k rs p = record { leads = in_turn-leads d k rs p; clients = in_turn-clients d k rs p; names = in_turn-names d k rs p }

-- what turns a packet away does nothing
record Quiet (x : Decision) : Type 0 where
  matches : (p : Party) → Matches p (acts_in x) []

no_acts : (x : Decision) → acts_in x ≡ [] → Quiet x
unfolding memory_after_acts client_after_acts
no_acts x e = record { matches = λ p. subst (λ acts. Matches p acts []) (sym e) (record { leads = refl; clients = refl; names = refl }) }

refused : (code : ℕ) → Quiet (refuse code)
unfolding memory_after_acts client_after_acts client_after
refused code = record { matches = λ p. record { leads = refl; clients = refl; names = refl } }

AllQuiet : List Check → Type 0
AllQuiet [] = Unit {0}
AllQuiet (c ∷ cs) = Quiet c.leads_to × AllQuiet cs

-- the first check that stops it is one of them
stopped : (cs : List Check) (x : Decision) → AllQuiet cs → list_any (λ (c : Check). c.stops) cs ≡ true → Quiet (checked cs x)
unfolding AllQuiet
stopped [] x q e = cc
stopped (c ∷ cs) x q e =
    elim (cases_Bool c.stops) [
      | inl t ↦ rw t (q.0)
      | inr t ↦ let f : list_any (λ (c : Check). c.stops) cs ≡ true = rw t at e in rw t (stopped cs x (q.1) f)
    ]

passed : (cs : List Check) (x : Decision) → list_any (λ (c : Check). c.stops) cs ≡ false → checked cs x ≡ x
passed [] x e = refl
passed (c ∷ cs) x e =
    let parts = or_parts c.stops (list_any (λ (c : Check). c.stops) cs) e in
    let here = parts.0 in
    rw here (passed cs x (parts.1))

parts : (d : Setup) (k : Asker) (p : Party) (s : SumRequest) (o : Option ℕ)
    → Matches p (acts_in (decide_parts d p.client k s o)) (asked_in_turn d k p (if is_none o then s.parts else []))
unfolding asked_in_turn given_in_turn
parts d k p s (Some code) = (refused code).matches p
parts d k p s None = in_turn d k s.parts p

read_write : (d : Setup) (k : Asker) (p : Party) (o : Option (ℕ → List ℕ → SumRequest)) (group n len : ℕ) (bytes : List ℕ)
    → Matches p (acts_in (decide_read_write d p.client k o group n len bytes)) (asked_in_turn d k p (requests_in o group n len bytes))
read_write d k p (Some sum) group n len bytes = parts d k p (sum n bytes) _
read_write d k p None group n len bytes = in_turn d k (ReadWrite group n len bytes ∷ []) p

requests : (d : Setup) (k : Asker) (p : Party) (r : Request)
    → Matches p (acts_in (decide_request d p.client k r)) (asked_in_turn d k p (requests_of d.profile r))
unfolding decide_request requests_of
requests d k p (ReadWrite group offset len bytes) = read_write d k p (known_sum d.profile group) group offset len bytes
requests d k p ReadDeviceInfo = in_turn d k (ReadDeviceInfo ∷ []) p
requests d k p (Read g o l) = in_turn d k (Read g o l ∷ []) p
requests d k p (Write g o b) = in_turn d k (Write g o b ∷ []) p
requests d k p ReadState = in_turn d k (ReadState ∷ []) p
requests d k p (WriteControl a s b) = in_turn d k (WriteControl a s b ∷ []) p
requests d k p (AddDeviceNotification g o l m y t) = in_turn d k (AddDeviceNotification g o l m y t ∷ []) p
requests d k p (DeleteDeviceNotification h) = in_turn d k (DeleteDeviceNotification h ∷ []) p
requests d k p (DeviceNotification b) = in_turn d k (DeviceNotification b ∷ []) p

passed_on : (d : Setup) (p : Party) (source : AmsAddress) (rights : Option Rights) (port : Option PlantPort) (request : Option Request)
    → Matches p (acts_in (decide_passed d p.client (question source rights port request))) (asked_of_question d p (question source rights port request))
passed_on d p source (Some rights) (Some port) (Some request) = requests d (record { port = port; address = source; rights = rights }) p request
passed_on d p source (Some rights) (Some port) None = (no_acts NoAnswer refl).matches p
passed_on d p source (Some rights) None request = (no_acts NoAnswer refl).matches p
passed_on d p source None port request = (no_acts NoAnswer refl).matches p

header : (d : Setup) (p : Party) (payload : List ℕ) (o : Option AmsHeader)
    → Matches p (acts_in (decide_header d p.client payload o)) (asked_of_header d p payload o)
unfolding AllQuiet
header d p payload None = (no_acts NoAnswer refl).matches p
header d p payload (Some h) = go (list_any (λ (c : Check). c.stops) (checks_of d h payload)) refl
  where
    checks : List Check
    checks = checks_of d h payload

    rights : Option Rights
    rights = source_rights d h

    port : Option PlantPort
    port = port_numbered h.target.port d.plant.ports

    decision : Decision
    decision = decide_passed d p.client (question_of d h payload)

    error : (code : ℕ) → Quiet (AmsError code)
    error code = no_acts (AmsError code) refl

    silent : Quiet NoAnswer
    silent = no_acts NoAnswer refl

    quiet : AllQuiet (checks_of d h payload)
    quiet = (
      error invalid_ams_length,
      (
        silent,
        (
          error unknown_ams_command,
          (
            no_acts EndConnection refl,
            (
              error target_machine_not_found,
              (error target_port_not_found, (silent, (error unknown_command_id, (refused invalid_size, tt)))),
            ),
          ),
        ),
      ),
    )

    go : (b : Bool) → list_any (λ (c : Check). c.stops) (checks_of d h payload) ≡ b
        → Matches p (acts_in (checked (checks_of d h payload) decision))
        (cond b [] (asked_of_question d p (question_of d h payload)))
    go true e = (stopped (checks_of d h payload) decision quiet e).matches p
    go false e =
        subst (λ x. Matches p (acts_in x) (asked_of_question d p (question_of d h payload)))
        (sym (passed (checks_of d h payload) decision e)) (passed_on d p h.source rights port (request_of h.command payload))

decision-matches : (d : Setup) (p : Party) (packet : List ℕ)
    → Matches p (acts_in (decide d p.client packet)) (asked_of_header d p (payload_of packet) (header_of packet))
unfolding decide
decision-matches d p packet = header d p (payload_of packet) (header_of packet)

-- requests lead from one exchange to another, and write the names that these acts write
pub record Takes (x y : Exchange World Client) (acts : List Act) (asked : List Asked) : Type 0 where
  pub leads : Leads x.world.memory asked y.world.memory
  pub clients : LeadsClient x.connection.client asked y.connection.client
  pub names : names_written asked ≡ writes_of_acts acts

packet-takes : (packet : List ℕ) (x : Exchange World Client)
    → Takes x (after_packet server_device packet x) (acts_of_packet packet x) (asked_of_packet packet x)
unfolding after_packet performed
packet-takes packet x = go x.connection.closing
  where
    decision : Decision
    decision = decide (setup_of x.world) x.connection.client packet

    o : FrameOutcome World Client
    o = performed decision packet x.world x.connection.client

    asked : List Asked
    asked = asked_of_header (setup_of x.world) (party_of x) (payload_of packet) (header_of packet)

    go : (b : Bool) → Takes x (cond b x (after_outcome (performed decision packet x.world x.connection.client) x.connection))
        (cond b [] (acts_in decision))
        (cond b [] (asked_of_header (setup_of x.world) (party_of x) (payload_of packet) (header_of packet)))
    go true = record { leads = refl; clients = refl; names = refl }
    go false =
        let m = decision-matches (setup_of x.world) (party_of x) packet in
        record {
          leads = m.leads;
          clients = subst (LeadsClient x.connection.client asked) (sym (answer-client o.answer (with_client o.client (with_one_taken x.connection))))
              m.clients;
          names = m.names;
        }

packets-take : (ps : List (List ℕ)) (x : Exchange World Client)
    → Takes x (after_packets server_device ps x) (acts_of_packets read_description ps x) (asked_of_packets ps x)
unfolding after_packets acts_of_packets asked_of_packets
packets-take [] x = record { leads = refl; clients = refl; names = refl }
packets-take (p ∷ ps) x =
    let y = after_packet server_device p x in
    let first = packet-takes p x in
    let rest = packets-take ps y in
    let here = asked_of_packet p x in
    let later = asked_of_packets ps y in
    record {
      leads = leads-append here later x.world.memory y.world.memory (after_packets server_device ps y).world.memory first.leads rest.leads;
      clients = clients-append here later x.connection.client y.connection.client (after_packets server_device ps y).connection.client
          first.clients rest.clients;
      names = flat_map-append (λ (a : Asked). writes_of_act (act_of_asked a)) here later
          ∙ ap (λ ns. ns ++ names_written later) first.names ∙ ap (λ ns. writes_of_acts (acts_of_packet p x) ++ ns) rest.names
          ∙ sym (flat_map-append writes_of_act (acts_of_packet p x) (acts_of_packets read_description ps y));
    }

pub piece-takes : (bytes : List ℕ) (x : Exchange World Client)
    → Takes x (after_piece server_device bytes x) (acts_of_piece read_description bytes x) (asked_of_piece bytes x)
unfolding after_piece
piece-takes bytes x = go (is_deaf x.connection)
  where
    ps : List (List ℕ)
    ps = packets_left (with_received bytes x.connection)

    y : Exchange World Client
    y = after_packets server_device ps (with_piece bytes x)

    go : (b : Bool) → Takes x (cond b x (end_of_piece y)) (cond b [] (acts_of_packets read_description ps (with_piece bytes x)))
        (cond b [] (asked_of_packets ps (with_piece bytes x)))
    go true = record { leads = refl; clients = refl; names = refl }
    go false =
        let t = packets-take ps (with_piece bytes x) in
        record {
          leads = t.leads;
          clients = subst (LeadsClient x.connection.client (asked_of_packets ps (with_piece bytes x))) (sym (rest-client y.connection))
              t.clients;
          names = t.names;
        }

-- what a piece makes of a state
pub record TakesAt (s t : MachineState World Client) (acts : List Act) (asked : List Asked) : Type 0 where
  pub leads : Leads s.world.memory asked t.world.memory
  pub names : names_written asked ≡ writes_of_acts acts

pub piece-takes_at : (s : MachineState World Client) (bytes : List ℕ) (o : Option (Connection Client))
    → TakesAt s (after_exchange o (after_piece server_device bytes) s) (acts_at read_description s bytes o) (asked_at s bytes o)
piece-takes_at s bytes None = record { leads = refl; names = refl }
piece-takes_at s bytes (Some k) = let t = piece-takes bytes (exchange_of s k) in record { leads = t.leads; names = t.names }
