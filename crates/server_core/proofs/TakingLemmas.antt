-- Taking frame after frame, down to a rest that is open or broken, or until the connection is closing.
use Rattle.std.proofs.Common.{◌≡◌, ℕ, ◌+◌, List, [], ◌∷◌, ◌++◌, length, take, arith, drop, Bool, true, false, cond, not, refl, sym, ap, ◌∙◌, subst}
use Rattle.std.specs.Prelude.{Result, Ok, Err, OnOk}
use Rattle.std.proofs.lemmas.List.{take-append-le, take_all}
use Rattle.std.proofs.lemmas.Bool.{true≢false, cond-true, cond-false, or_from}
use Rattle.spec_frames.specs.Frame.{frame_bytes}
use Rattle.spec_frames.specs.Division.{front_of, frames_of, rest_of, is_broken}
use Rattle.spec_plant.specs.World.{Plant}
use Rattle.spec_machine.specs.Device.{Answer, Answered, Silent, Closing, Produced, Reply}
use Rattle.spec_machine.specs.Connection.{with_closing, produce, is_deaf}
use Rattle.spec_machine.specs.Piece.{packets_left, with_one_taken, with_client, after_answer, after_packet}
use Rattle.spec_machine.specs.Piece.{after_packets, after_rest, end_of_piece, with_received, with_piece}
use Rattle.spec_machine.specs.Piece.{after_piece}
use Rattle.spec_machine.specs.Replies.{performed}
use Rattle.spec_machine.specs.Summary.{count_of}
use Rattle.ams_tcp.specs.Held.{Held}
use Rattle.ams_tcp.specs.History.{Represents, answer_of, after_next, after_feed}
use Rattle.ams_tcp.specs.declared.cut.Cut.TheVariants as cut
use Rattle.port_device.specs.Holds.{HoldsPorts}
use Rattle.session.specs.SessionState.{SessionState}
use Rattle.session.specs.StandsFor.{StandsFor}
use Rattle.session.specs.Takes.{Takes as TakesPacket, outcome_of_packet, IsAnswer}
use Rattle.session.specs.declared.taken.Taken.{Taken}
use Rattle.port_device.specs.PortMemory.{PortsMemory}
use Rattle.session.specs.declared.taken.Taken.TheVariants as taken
use Rattle.connections.specs.Carries.{IsStreamOf}
use Rattle.server_core.specs.declared.summary.Summary.{Summary}
use Rattle.server_core.specs.declared.device.Device.{Device}
use Rattle.server_core.specs.Served.{served, World, Client, ServedConnection, ServedExchange}
use Rattle.server_core.specs.Counts.{Counts, replies_of, samples_of}
use Rattle.server_core.specs.Stands.{Conn, IsClientOf, history_of, Stands, Goes}
use Rattle.server_core.specs.HoldsWorld.{HoldsWorld, IsConnected}
use Rattle.server_core.specs.Taking.{answered, settled, Takes, TakesSome}
use Rattle.server_core.proofs.AddressLemmas.{same_address}
use Rattle.server_core.proofs.CountLemmas.{same_count, same_counts, then_counts, one_more}
use Rattle.connections.proofs.StreamLemmas.{packet_is_next, rest_is_open, rest_is_broken, after_frame, own_mark}
use Rattle.server_core.proofs.ProduceLemmas.{SameStream, Produces, produce-stream, produce-open, stream_on, client_on, counts_closing}

-- the device takes a packet as the session does
pub take_is : (w : World) (c : Client) (packet : List ℕ) → served.take w c packet ≡ outcome_of_packet w c packet
unfolding served
take_is w c packet = refl

-- a packet changes neither the plant nor a signal
pub record KeepsPlant (w v : World) : Type 0 where
  pub plant : v.plant ≡ w.plant
  pub profile : v.profile ≡ w.profile
  pub signals : v.signals ≡ w.signals

pub take_keeps : (w : World) (c : Client) (packet : List ℕ) → KeepsPlant w (served.take w c packet).world
unfolding served performed
take_keeps w c packet = record { plant = refl; profile = refl; signals = refl }

-- an exchange behind its frame
abbrev pub with_one : ServedExchange → ServedExchange
with_one x = record x { connection = with_one_taken x.connection }

pub after_packet-answered : (packet : List ℕ) (x : ServedExchange) → x.connection.closing ≡ false → after_packet served packet x ≡ answered packet (with_one x)
unfolding after_packet
after_packet-answered packet x is_open = cond-false x.connection.closing x _ is_open

answer-stream : (a : Answer) (k : ServedConnection) → SameStream k (after_answer a k)
answer-stream (Answered packet) k = produce-stream (Reply (frame_bytes packet)) k
answer-stream Silent k = record { number = refl; received = refl; frames_taken = refl; client = refl; gone = refl }
answer-stream Closing k = record { number = refl; received = refl; frames_taken = refl; client = refl; gone = refl }

answered-left : (packet : List ℕ) (x : ServedExchange)
    → packets_left (answered packet (with_one x)).connection ≡ drop (x.connection.frames_taken + 1) (frames_of x.connection.received)
answered-left packet x =
    let o = served.take x.world x.connection.client packet in
    let stream = answer-stream o.answer (with_client o.client (with_one_taken x.connection)) in
    ap (λ n. drop n (frames_of (after_answer o.answer (with_client o.client (with_one_taken x.connection))).received)) stream.frames_taken
    ∙ ap (λ bs. drop (x.connection.frames_taken + 1) (frames_of bs)) stream.received

-- one packet is taken, and the end is the same
settled-one : (packet : List ℕ) (packets : List (List ℕ)) (x : ServedExchange) → x.connection.closing ≡ false
    → packets_left x.connection ≡ packet ∷ packets → packets_left (after_packet served packet x).connection ≡ packets
    → settled (after_packet served packet x) ≡ settled x
unfolding settled after_packets
settled-one packet packets x is_open now then_ =
    ap (λ ps. end_of_piece (after_packets served ps (after_packet served packet x))) then_
    ∙ ap (λ ps. end_of_piece (after_packets served ps x)) (sym now)

-- nothing more is taken of a connection that is closing
packets-closing : (packets : List (List ℕ)) (x : ServedExchange) → x.connection.closing ≡ true → after_packets served packets x ≡ x
unfolding after_packets after_packet
packets-closing [] x closing = refl
packets-closing (packet ∷ packets) x closing =
    let same = cond-true x.connection.closing x _ closing in
    ap (λ y. after_packets served packets y) same ∙ packets-closing packets x closing

closed_twice : (k : ServedConnection) → k.closing ≡ true → with_closing k ≡ k
closed_twice k closing = ap (λ (b : Bool). record k { closing = b }) (sym closing)

rest-closing : (k : ServedConnection) → k.closing ≡ true → after_rest k ≡ k
rest-closing k closing = at_front (is_broken (front_of (rest_of k.received)))
  where
    at_front : (b : Bool) → cond b (with_closing k) k ≡ k
    at_front true = closed_twice k closing
    at_front false = refl

pub settled-closing : (x : ServedExchange) → x.connection.closing ≡ true → settled x ≡ x
unfolding settled
settled-closing x closing =
    ap (λ y. end_of_piece y) (packets-closing (packets_left x.connection) x closing)
    ∙ ap (λ (k : ServedConnection). record x { connection = k }) (rest-closing x.connection closing)

-- no packet is left: an open rest changes nothing, and a broken one closes
pub settled-open : (x : ServedExchange) → packets_left x.connection ≡ [] → is_broken (front_of (rest_of x.connection.received)) ≡ false → settled x ≡ x
unfolding settled after_packets
settled-open x none rest =
    ap (λ ps. end_of_piece (after_packets served ps x)) none
    ∙ ap (λ (k : ServedConnection). record x { connection = k })
    (cond-false (is_broken (front_of (rest_of x.connection.received))) (with_closing x.connection) x.connection rest)

pub settled-broken : (x : ServedExchange) → packets_left x.connection ≡ [] → is_broken (front_of (rest_of x.connection.received)) ≡ true
    → settled x ≡ record x { connection = with_closing x.connection }
unfolding settled after_packets
settled-broken x none rest =
    ap (λ ps. end_of_piece (after_packets served ps x)) none
    ∙ ap (λ (k : ServedConnection). record x { connection = k })
    (cond-true (is_broken (front_of (rest_of x.connection.received))) (with_closing x.connection) x.connection rest)

-- the stream gave a frame
pub taken_one : (plant : Plant) (conn mid : Conn) (k : ServedConnection) (packet : List ℕ) → Stands plant conn k
    → cut.Frame packet ≡ answer_of (history_of conn.stream k) → Represents mid.stream (after_next (history_of conn.stream k))
    → mid.session ≡ conn.session → mid.outlet.out ≡ conn.outlet.out → mid.outlet.closing ≡ conn.outlet.closing → Stands plant mid (with_one_taken k)
taken_one plant conn mid k packet st answer stream session out closing = record {
  stream = after_frame mid.stream (history_of conn.stream k) packet answer stream;
  client = subst (λ (held : SessionState). IsClientOf plant held (with_one_taken k)) (sym session) st.client;
  outlet = record { waiting = out ∙ st.outlet.waiting; bytes_taken = st.outlet.bytes_taken; closing = closing ∙ st.outlet.closing };
}

-- and the request was counted
pub counts_request : (s t : Summary) (k : ServedConnection) → t ≡ record s { requests = count_of (s.requests + 1) } → Counts s t k (with_one_taken k)
counts_request s t k counted = record {
  connections = ap (λ (x : Summary). x.connections) counted;
  requests = λ others e. ap (λ (x : Summary). x.requests) counted ∙ one_more s.requests k.frames_taken others e;
  replies = λ others e. ap (λ (x : Summary). x.replies) counted ∙ e;
  samples = λ others e. ap (λ (x : Summary). x.samples) counted ∙ e;
  accepted = ap (λ (x : Summary). x.accepted) counted;
  refused = ap (λ (x : Summary). x.refused) counted;
}

-- nothing was produced, and the client is another
pub stands_with_client : (plant : Plant) (conn new : Conn) (k : ServedConnection) (c : Client)
    → Stands plant conn k → new.stream ≡ conn.stream → StandsFor plant c new.session
    → new.outlet.out ≡ conn.outlet.out → new.outlet.closing ≡ conn.outlet.closing → Stands plant new (with_client c k)
stands_with_client plant conn new k c st stream client out closing = record {
  stream = subst (λ (held : Held). IsStreamOf held k) (sym stream) st.stream;
  client = λ is_open. client;
  outlet = record { waiting = out ∙ st.outlet.waiting; bytes_taken = st.outlet.bytes_taken; closing = closing ∙ st.outlet.closing };
}

-- the connection closes
pub stands_with_closing : (plant : Plant) (conn new : Conn) (k : ServedConnection) → Stands plant conn k
    → new.stream ≡ conn.stream → new.outlet.out ≡ conn.outlet.out → new.outlet.closing ≡ true → Stands plant new (with_closing k)
stands_with_closing plant conn new k st stream out closing = record {
  stream = subst (λ (held : Held). IsStreamOf held k) (sym stream) st.stream;
  client = λ is_open. absurd (true≢false is_open);
  outlet = record { waiting = out ∙ st.outlet.waiting; bytes_taken = st.outlet.bytes_taken; closing = closing };
}

-- a frame was produced
pub stands_produced : (plant : Plant) (conn new : Conn) (s t : Summary) (k : ServedConnection) (frame : Produced) → Stands plant conn k
    → new.stream ≡ conn.stream → new.session ≡ conn.session → Produces new.outlet s t frame k → Stands plant new (produce frame k)
stands_produced plant conn new s t k frame st stream session produces =
    let same = produce-stream frame k in
    record {
      stream = subst (λ (held : Held). IsStreamOf held (produce frame k)) (sym stream) (stream_on conn.stream k (produce frame k) same st.stream);
      client = subst (λ (held : SessionState). IsClientOf plant held (produce frame k)) (sym session)
          (client_on plant conn.session k (produce frame k) same (produce-open frame k) st.client);
      outlet = produces.stands;
    }

same_with_client : (s : Summary) (k : ServedConnection) (c : Client) → Counts s s k (with_client c k)
same_with_client s k c = record {
  connections = refl;
  requests = same_count s.requests k.frames_taken;
  replies = same_count s.replies (replies_of k);
  samples = same_count s.samples (samples_of k);
  accepted = refl;
  refused = refl;
}

-- the same counts where the client alone is another
pub counts_client : (s t : Summary) (k l : ServedConnection) (c : Client) → Counts s t (with_client c k) l → Counts s t k l
counts_client s t k l c counted = then_counts s s t k (with_client c k) l (same_with_client s k c) counted

-- what the session makes of a packet is what the device does
pub took_packet : (w : World) (c : Client) (packet : List ℕ) (answer : Taken) (ports : PortsMemory) (s : SessionState)
    → TakesPacket (outcome_of_packet w c packet) answer ports s
    → TakesPacket (served.take w c packet) answer ports s
took_packet w c packet answer ports s took = subst (λ o. TakesPacket o answer ports s) (sym (take_is w c packet)) took

-- the world that the device holds after a packet
pub held_after : (old new : Device) (w : World) (c : Client) (packet : List ℕ) (held : HoldsWorld old w)
    → HoldsPorts (served.take w c packet).world new.ports → new.net ≡ old.net → new.admission ≡ old.admission → HoldsWorld new (served.take w c packet).world
held_after old new w c packet held ports net admission =
    let keeps = take_keeps w c packet in
    record {
      ports = ports;
      address = same_address w (served.take w c packet).world old.net new.net old.admission new.admission keeps.plant keeps.profile net admission
          held.address;
    }

-- the client that the session stands for, over the plant that is as before
pub stands_after : (w : World) (c : Client) (packet : List ℕ) (s : SessionState)
    → StandsFor (served.take w c packet).world.plant (served.take w c packet).client s
    → StandsFor w.plant (served.take w c packet).client s
stands_after w c packet s stands = subst (λ (p : Plant). StandsFor p (served.take w c packet).client s) (take_keeps w c packet).plant stands

pub connected_after : (old new : Device) (s t : SessionState) (packet : List ℕ) (k : IsConnected old s) (answer : Taken)
    → TakesPacket (outcome_of_packet k.world k.client packet) answer new.ports t → new.net ≡ old.net → new.admission ≡ old.admission → IsConnected new t
connected_after old new s t packet k answer took net admission =
    let takes = took_packet k.world k.client packet answer new.ports t took in
    record {
      world = (served.take k.world k.client packet).world;
      client = (served.take k.world k.client packet).client;
      held = held_after old new k.world k.client packet k.held takes.held net admission;
      stands = takes.stands;
    }

-- an exchange in which a packet was answered so
goes_answered : (new : Conn) (device : Device) (s t : Summary) (packet : List ℕ) (x : ServedExchange) (a : Answer)
    → (served.take x.world x.connection.client packet).answer ≡ a
    → (let o = served.take x.world x.connection.client packet in Stands x.world.plant new (after_answer a (with_client o.client x.connection)))
    → (let o = served.take x.world x.connection.client packet in Counts s t x.connection (after_answer a (with_client o.client x.connection)))
    → HoldsWorld device (served.take x.world x.connection.client packet).world
    → Goes new device s t x (answered packet x)
goes_answered new device s t packet x a answer stands counted holds =
    let o = served.take x.world x.connection.client packet in
    let keeps = take_keeps x.world x.connection.client packet in
    let k = with_client o.client x.connection in
    record {
      stands = subst (λ (b : Answer). Stands x.world.plant new (after_answer b k)) (sym answer) stands;
      holds = holds;
      plant = keeps.plant;
      signals = keeps.signals;
      counted = subst (λ (b : Answer). Counts s t x.connection (after_answer b k)) (sym answer) counted;
      number = (answer-stream o.answer k).number;
      gone = (answer-stream o.answer k).gone;
    }

-- the answer that the machine gives, by what the session gives
pub is_reply : (a : Answer) (frame : List ℕ) → IsAnswer a (taken.Answer frame) → (packet : List ℕ) × (a ≡ Answered packet) × (frame ≡ frame_bytes packet)
is_reply (Answered packet) frame e = (packet, refl, e)
is_reply Silent frame e = absurd e
is_reply Closing frame e = absurd e

pub is_silent : (a : Answer) → IsAnswer a taken.Silent → a ≡ Silent
is_silent (Answered packet) e = absurd e
is_silent Silent e = refl
is_silent Closing e = absurd e

pub is_close : (a : Answer) → IsAnswer a taken.Close → a ≡ Closing
is_close (Answered packet) e = absurd e
is_close Silent e = absurd e
is_close Closing e = refl

-- the packet is answered by a frame: its client, and then the frame, which waits or closes the connection
pub goes_reply : (conn new : Conn) (device : Device) (s t : Summary) (packet frame : List ℕ) (x : ServedExchange)
    → IsAnswer (served.take x.world x.connection.client packet).answer (taken.Answer frame)
    → Stands x.world.plant conn (with_client (served.take x.world x.connection.client packet).client x.connection)
    → new.stream ≡ conn.stream → new.session ≡ conn.session
    → Produces new.outlet s t (Reply frame) (with_client (served.take x.world x.connection.client packet).client x.connection)
    → HoldsWorld device (served.take x.world x.connection.client packet).world → Goes new device s t x (answered packet x)
goes_reply conn new device s t packet frame x answer st stream session produces holds =
    let o = served.take x.world x.connection.client packet in
    let k = with_client o.client x.connection in
    let reply = is_reply o.answer frame answer in
    let stands = stands_produced x.world.plant conn new s t k (Reply frame) st stream session produces in
    goes_answered new device s t packet x (Answered reply.0) reply.1
    (subst (λ (bytes : List ℕ). Stands x.world.plant new (produce (Reply bytes) k)) reply.2 stands)
    (subst (λ (bytes : List ℕ). Counts s t x.connection (produce (Reply bytes) k)) reply.2
    (counts_client s t x.connection (produce (Reply frame) k) o.client produces.counted)) holds

-- by nothing
pub goes_silent : (new : Conn) (device : Device) (s : Summary) (packet : List ℕ) (x : ServedExchange)
    → IsAnswer (served.take x.world x.connection.client packet).answer taken.Silent
    → Stands x.world.plant new (with_client (served.take x.world x.connection.client packet).client x.connection)
    → HoldsWorld device (served.take x.world x.connection.client packet).world → Goes new device s s x (answered packet x)
goes_silent new device s packet x answer stands holds =
    let o = served.take x.world x.connection.client packet in
    goes_answered new device s s packet x Silent (is_silent o.answer answer) stands (same_with_client s x.connection o.client) holds

-- by an end of the connection
pub goes_close : (mid new : Conn) (device : Device) (s : Summary) (packet : List ℕ) (x : ServedExchange)
    → IsAnswer (served.take x.world x.connection.client packet).answer taken.Close
    → Stands x.world.plant mid (with_client (served.take x.world x.connection.client packet).client x.connection)
    → new.stream ≡ mid.stream → new.outlet.out ≡ mid.outlet.out → new.outlet.closing ≡ true
    → HoldsWorld device (served.take x.world x.connection.client packet).world → Goes new device s s x (answered packet x)
goes_close mid new device s packet x answer stands stream out closing holds =
    let o = served.take x.world x.connection.client packet in
    let k = with_client o.client x.connection in
    goes_answered new device s s packet x Closing (is_close o.answer answer)
    (stands_with_closing x.world.plant mid new k stands stream out closing)
    (counts_client s s x.connection (with_closing k) o.client (counts_closing s k)) holds

-- one exchange after another
pub then_goes : (mid new : Conn) (d e : Device) (s t u : Summary) (x y z : ServedExchange) → Goes mid d s t x y → Goes new e t u y z → Goes new e s u x z
then_goes mid new d e s t u x y z first second = record {
  stands = subst (λ (p : Plant). Stands p new z.connection) first.plant second.stands;
  holds = second.holds;
  plant = second.plant ∙ first.plant;
  signals = second.signals ∙ first.signals;
  counted = then_counts s t u x.connection y.connection z.connection first.counted second.counted;
  number = second.number ∙ first.number;
  gone = second.gone ∙ first.gone;
}

-- a frame is taken and answered
pub takes_frame : (conn mid new : Conn) (d e : Device) (s t u : Summary) (x : ServedExchange) (packet : List ℕ) → x.connection.closing ≡ false
    → cut.Frame packet ≡ answer_of (history_of conn.stream x.connection)
    → Goes mid d s t x (with_one x) → Goes new e t u (with_one x) (answered packet (with_one x))
    → Takes (not new.outlet.closing) new e s u x
takes_frame conn mid new d e s t u x packet is_open answer first second = by_mark new.outlet.closing refl
  where
    y : ServedExchange
    y = after_packet served packet x

    goes : Goes new e s u x y
    goes = subst (λ z. Goes new e s u x z) (sym (after_packet-answered packet x is_open))
        (then_goes mid new d e s t u x (with_one x) (answered packet (with_one x)) first second)

    same_end : settled y ≡ settled x
    same_end = settled-one packet (drop (x.connection.frames_taken + 1) (frames_of x.connection.received)) x is_open
        (packet_is_next (history_of conn.stream x.connection) packet answer)
        (ap (λ (z : ServedExchange). packets_left z.connection) (after_packet-answered packet x is_open) ∙ answered-left packet x)

    by_mark : (b : Bool) → new.outlet.closing ≡ b → Takes (not b) new e s u x
    by_mark false c = record { next = y; goes = goes; is_open = sym goes.stands.outlet.closing ∙ c; same_end = same_end }
    by_mark true c =
        let end : settled x ≡ y = sym same_end ∙ settled-closing y (sym goes.stands.outlet.closing ∙ c) in
        subst (λ z. Goes new e s u x z) (sym end) goes

-- nothing of the device and the world changes
pub goes_still : (new : Conn) (d : Device) (s t : Summary) (x : ServedExchange) (l : ServedConnection)
    → HoldsWorld d x.world → Stands x.world.plant new l → Counts s t x.connection l
    → l.number ≡ x.connection.number → l.gone ≡ x.connection.gone → Goes new d s t x (record x { connection = l })
goes_still new d s t x l held stands counted number gone = record {
  stands = stands;
  holds = held;
  plant = refl;
  signals = refl;
  counted = counted;
  number = number;
  gone = gone;
}

-- the rest is open: nothing changes
pub takes_open : (conn : Conn) (d : Device) (s : Summary) (x : ServedExchange) → HoldsWorld d x.world → Stands x.world.plant conn x.connection
    → cut.NotYet ≡ answer_of (history_of conn.stream x.connection) → Goes conn d s s x (settled x)
takes_open conn d s x held st answer =
    let rest = rest_is_open (history_of conn.stream x.connection) answer in
    let end : settled x ≡ x = settled-open x rest.none_left rest.rest in
    subst (λ z. Goes conn d s s x z) (sym end) (goes_still conn d s s x x.connection held st (same_counts s x.connection) refl refl)

-- the rest is broken: the connection closes
pub takes_broken : (conn new : Conn) (d : Device) (s : Summary) (x : ServedExchange) → HoldsWorld d x.world → Stands x.world.plant conn x.connection
    → cut.Broken ≡ answer_of (history_of conn.stream x.connection)
    → new.stream ≡ conn.stream → new.outlet.out ≡ conn.outlet.out → new.outlet.closing ≡ true → Goes new d s s x (settled x)
takes_broken conn new d s x held st answer stream out closing =
    let rest = rest_is_broken (history_of conn.stream x.connection) answer in
    let end : settled x ≡ record x { connection = with_closing x.connection } = settled-broken x rest.none_left rest.rest in
    subst (λ z. Goes new d s s x z) (sym end) (goes_still new d s s x (with_closing x.connection) held
    (stands_with_closing x.world.plant conn new x.connection st stream out closing) (counts_closing s x.connection) refl refl)

pub none_taken : (conn : Conn) (d : Device) (s : Summary) (x : ServedExchange) → HoldsWorld d x.world
    → Stands x.world.plant conn x.connection → x.connection.closing ≡ false → TakesSome conn d s s x
none_taken conn d s x held st is_open = record {
  next = x;
  goes = goes_still conn d s s x x.connection held st (same_counts s x.connection) refl refl;
  is_open = is_open;
  same_end = refl;
}

-- some frames, and then more
pub takes_more : (mid new : Conn) (d e : Device) (s t u : Summary) (x : ServedExchange) (first : TakesSome mid d s t x)
    → TakesSome new e t u first.next → TakesSome new e s u x
takes_more mid new d e s t u x first second = record {
  next = second.next;
  goes = then_goes mid new d e s t u x first.next second.next first.goes second.goes;
  is_open = second.is_open;
  same_end = second.same_end ∙ first.same_end;
}

-- some frames, and then the end
pub takes_all : (mid new : Conn) (d e : Device) (s t u : Summary) (x : ServedExchange) (first : TakesSome mid d s t x)
    → Goes new e t u first.next (settled first.next) → Goes new e s u x (settled x)
takes_all mid new d e s t u x first last =
    subst (λ z. Goes new e s u x z) first.same_end (then_goes mid new d e s t u x first.next (settled first.next) first.goes last)

-- a piece came in
pub fed : (conn new : Conn) (d : Device) (s : Summary) (x : ServedExchange) (piece : List ℕ) → HoldsWorld d x.world → Stands x.world.plant conn x.connection
    → Represents new.stream (after_feed (history_of conn.stream x.connection) piece)
    → new.session ≡ conn.session → new.outlet.out ≡ conn.outlet.out → new.outlet.closing ≡ conn.outlet.closing → Goes new d s s x (with_piece piece x)
fed conn new d s x piece held st stream session out closing = goes_still new d s s x (with_received piece x.connection) held (record {
  stream = own_mark new.stream (after_feed (history_of conn.stream x.connection) piece) stream;
  client = subst (λ (t : SessionState). IsClientOf x.world.plant t (with_received piece x.connection)) (sym session) st.client;
  outlet = record { waiting = out ∙ st.outlet.waiting; bytes_taken = st.outlet.bytes_taken; closing = closing ∙ st.outlet.closing };
}) (record {
  connections = refl;
  requests = same_count s.requests x.connection.frames_taken;
  replies = same_count s.replies (replies_of x.connection);
  samples = same_count s.samples (samples_of x.connection);
  accepted = refl;
  refused = refl;
}) refl refl

-- a piece of a connection that is not closing
pub after_piece-settled : (piece : List ℕ) (x : ServedExchange) → x.connection.closing ≡ false → x.connection.gone ≡ false
    → settled (with_piece piece x) ≡ after_piece served piece x
unfolding after_piece settled
after_piece-settled piece x is_open there = sym (cond-false (is_deaf x.connection) x _ (or_from x.connection.closing x.connection.gone is_open there))

-- a fact under Ok follows from another
pub on_ok : {A E P Q : Type 0} (r : Result A E) → (P → Q) → OnOk r P → OnOk r Q
on_ok (Ok a) f h = f h
on_ok (Err e) f h = h

-- what a lent slice gives back, where it has as many elements as before
pub lent_back : {X : Type 0} (new old : List X) (len : ℕ) → len ≡ length old → length new ≡ length old → take len (new ++ drop (length new) old) ≡ new
lent_back new old len ok long =
    ap (λ n. take n (new ++ drop (length new) old)) (ok ∙ sym long)
    ∙ take-append-le (length new) new (drop (length new) old) (omega arith) ∙ take_all (length new) new (omega arith)
