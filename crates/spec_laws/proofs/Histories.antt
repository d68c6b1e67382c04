-- The handles of a connection are what its history in the log says.
use Rattle.std.proofs.Common.{◌≡◌, ℕ, List, [], ◌∷◌, ◌++◌, map, length, Bool, true, false, cond, refl, sym, ◌∙◌, ap, subst, inl, inr}
use Rattle.std.specs.Prelude.{Option, Some, None, option_map, ◌==◌, not, Result, Ok, Err}
use Rattle.std.proofs.lemmas.Bool.{cases_Bool, cases_eq}
use Rattle.spec_plant.specs.Description.{Description}
use Rattle.ads_outside.specs.declared.event.Event.{Event}
use Rattle.ads_outside.specs.declared.event.Event.TheVariants as event
use Rattle.ads_outside.specs.declared.moves.Move.{Move}
use Rattle.ads_outside.specs.declared.moves.Move.TheVariants as move
use Rattle.spec_machine.specs.Device.{FrameOutcome, DescriptionFault}
use Rattle.spec_machine.specs.Connection.{Connection, fresh_connection, connection_of, is_deaf}
use Rattle.spec_machine.specs.MachineState.{MachineState, Exchange, exchange_of, after_exchange}
use Rattle.spec_machine.specs.Piece.{with_received, packets_left, with_one_taken, with_client, after_outcome}
use Rattle.spec_machine.specs.Piece.{after_packet, after_packets, with_piece, end_of_piece, after_piece}
use Rattle.spec_machine.specs.Moves.{with_gone, with_took, state_after_move, state_after}
use Rattle.spec_machine.specs.Events.{after_client_outcome, moment_of_tick, connection_after_tick, connection_after_reload, after_reload, state_after_event}
use Rattle.spec_machine.specs.World.{World, setup_of}
use Rattle.spec_machine.specs.Handles.{Handle, HandleEvent, kept_status, handles_after}
use Rattle.spec_machine.specs.HandleLaws.{handles_after_all, handles_of}
use Rattle.spec_machine.specs.Client.{Place, Client, Effect, NoEffect, Grants, Releases, Adds, Deletes, client_after, client_after_reload}
use Rattle.spec_machine.specs.Acts.{Act, effect_of, client_after_acts}
use Rattle.spec_machine.specs.Decisions.{Decision, acts_in}
use Rattle.spec_machine.specs.Packets.{decide}
use Rattle.spec_machine.specs.Replies.{performed}
use Rattle.spec_machine.specs.Ticks.{world_after_tick, client_after_tick}
use Rattle.spec_machine.specs.Reloads.{world_after_reload, client_reloaded}
use Rattle.spec_machine.specs.AdsDevice.{DescriptionReading, reloading, ads_device, server_step}
use Rattle.spec_machine.specs.Projection.{acts_of_packet, acts_of_packets, acts_of_piece, acts_at}
use Rattle.spec_machine.proofs.Find.{or_else, test_same, test_other, connection_of-append, connection_of-map}
use Rattle.spec_machine.proofs.Growth.{after_piece-grows, connection_after_tick-grows, connection_after_reload-grows}
use Rattle.spec_machine.proofs.Changes.{KeepsNumber, exchange_own, exchange_other, exchange_none, with_gone-number, with_took-number}
use Rattle.spec_machine.proofs.HandleStatuses.{status_is_history}
use Rattle.spec_laws.specs.Isolation.{start_in}
use Rattle.spec_laws.specs.Histories.{handle_events_of, handle_events_of_acts, handle_events_of_reload}
use Rattle.spec_laws.specs.Histories.{is_heard, handle_events_of_event, handle_events_of_move, handle_history}
use Rattle.spec_laws.specs.Histories.{HandlesAreHistory}
use Rattle.spec_laws.proofs.Exchanges.{produce_all-client, answer-client, rest-client}

all-append : (hs : List (Handle Place)) (es fs : List (HandleEvent Place)) → handles_after_all hs (es ++ fs) ≡ handles_after_all (handles_after_all hs es) fs
unfolding handles_after_all
all-append hs [] fs = refl
all-append hs (e ∷ es) fs = all-append (handles_after hs e) es fs

-- what acts leave of the handles
effect-handles : (c : Client) (x : Effect) → (client_after c x).handles ≡ handles_after_all c.handles (handle_events_of x)
unfolding client_after handles_after_all
effect-handles c NoEffect = refl
effect-handles c (Grants port place) = refl
effect-handles c (Releases handle) = refl
effect-handles c (Adds w) = refl
effect-handles c (Deletes handle) = refl

acts-handles : (acts : List Act) (c : Client) → (client_after_acts c acts).handles ≡ handles_after_all c.handles (handle_events_of_acts acts)
unfolding client_after_acts handles_after_all
acts-handles [] c = refl
acts-handles (a ∷ rest) c =
    let here = handle_events_of (effect_of a) in
    acts-handles rest (client_after c (effect_of a))
    ∙ ap (λ (hs : List (Handle Place)). handles_after_all hs (handle_events_of_acts rest)) (effect-handles c (effect_of a))
    ∙ sym (all-append c.handles here (handle_events_of_acts rest))

acts-append : (as_ bs : List Act) (c : Client) → client_after_acts c (as_ ++ bs) ≡ client_after_acts (client_after_acts c as_) bs
unfolding client_after_acts
acts-append [] bs c = refl
acts-append (a ∷ rest) bs c = acts-append rest bs (client_after c (effect_of a))

-- the client after a piece is the one after its acts
packet-client : (reading : DescriptionReading) (p : List ℕ) (x : Exchange World Client)
    → (after_packet (ads_device reading) p x).connection.client ≡ client_after_acts x.connection.client (acts_of_packet p x)
unfolding after_packet performed client_after_acts
packet-client reading p x = go x.connection.closing
  where
    decision : Decision
    decision = decide (setup_of x.world) x.connection.client p

    o : FrameOutcome World Client
    o = performed decision p x.world x.connection.client

    go : (b : Bool) → (cond b x (after_outcome o x.connection)).connection.client ≡ client_after_acts x.connection.client (cond b [] (acts_in decision))
    go true = refl
    go false = answer-client o.answer (with_client o.client (with_one_taken x.connection))

packets-client : (reading : DescriptionReading) (ps : List (List ℕ)) (x : Exchange World Client)
    → (after_packets (ads_device reading) ps x).connection.client ≡ client_after_acts x.connection.client (acts_of_packets reading ps x)
unfolding after_packets acts_of_packets client_after_acts
packets-client reading [] x = refl
packets-client reading (p ∷ ps) x =
    let y = after_packet (ads_device reading) p x in
    packets-client reading ps y
    ∙ ap (λ (c : Client). client_after_acts c (acts_of_packets reading ps y)) (packet-client reading p x)
    ∙ sym (acts-append (acts_of_packet p x) (acts_of_packets reading ps y) x.connection.client)

piece-client : (reading : DescriptionReading) (bytes : List ℕ) (x : Exchange World Client)
    → (after_piece (ads_device reading) bytes x).connection.client ≡ client_after_acts x.connection.client (acts_of_piece reading bytes x)
unfolding after_piece client_after_acts
piece-client reading bytes x = go (is_deaf x.connection)
  where
    ps : List (List ℕ)
    ps = packets_left (with_received bytes x.connection)

    y : Exchange World Client
    y = after_packets (ads_device reading) ps (with_piece bytes x)

    go : (b : Bool) → (cond b x (end_of_piece y)).connection.client ≡ client_after_acts
        x.connection.client (cond b [] (acts_of_packets reading ps (with_piece bytes x)))
    go true = refl
    go false = rest-client y.connection ∙ packets-client reading ps (with_piece bytes x)

-- the handles of a connection; none before it is opened
abbrev handles_in : Option (Connection Client) → List (Handle Place)
handles_in None = []
handles_in (Some k) = k.client.handles

-- a move that leaves the clients of connections
quiet : (c n : ℕ) (f : Exchange World Client → Exchange World Client) → KeepsNumber f
    → ((x : Exchange World Client) → (f x).connection.client ≡ x.connection.client) → (s : MachineState World Client)
    → handles_in (connection_of c (after_exchange (connection_of n s.connections) f s).connections) ≡ handles_in (connection_of c s.connections)
quiet c n f same keeps s =
    elim (cases_eq n c) [
      | inr ne ↦ ap handles_in (exchange_other c n f same ne s)
      | inl q ↦
          let P : ℕ → Type 0 = λ i. handles_in (connection_of c (after_exchange (connection_of i s.connections) f s).connections)
          ≡ handles_in (connection_of c s.connections) in
          subst P (sym q) (own (connection_of c s.connections) refl)
    ]
  where
    own : (o : Option (Connection Client)) → connection_of c s.connections ≡ o
        → handles_in (connection_of c (after_exchange (connection_of c s.connections) f s).connections) ≡ handles_in (connection_of c s.connections)
    own None e = ap (λ (u : MachineState World Client). handles_in (connection_of c u.connections)) (exchange_none c f s e)
    own (Some k) e = ap handles_in (exchange_own c f same s k e) ∙ ap (λ (d : Client). d.handles) (keeps (exchange_of s k)) ∙ sym (ap handles_in e)

took-client : (n : ℕ) (x : Exchange World Client) → (with_took n x).connection.client ≡ x.connection.client
took-client n x = elim (cases_Bool x.connection.gone) [ inl b ↦ rw b refl | inr b ↦ rw b refl ]

opened-handles : (c n : ℕ) (client : Client) (ks : List (Connection Client)) → client.handles ≡ []
    → handles_in (connection_of c (ks ++ fresh_connection client n ∷ [])) ≡ handles_in (connection_of c ks)
unfolding connection_of
opened-handles c n client ks none = ap handles_in (connection_of-append c ks (fresh_connection client n ∷ [])) ∙ one (connection_of c ks)
  where
    one : (o : Option (Connection Client)) → handles_in (or_else o (connection_of c (fresh_connection client n ∷ []))) ≡ handles_in o
    one (Some k) = refl
    one None = elim (cases_Bool (n == c)) [ inl b ↦ rw b none | inr b ↦ rw b refl ]

-- a change of every client
mapped-handles : (c : ℕ) (f : Connection Client → Connection Client) → ((k : Connection Client) → (f k).number ≡ k.number)
    → (events : Option (Connection Client) → List (HandleEvent Place)) → handles_after_all [] (events None) ≡ []
    → ((k : Connection Client) → (f k).client.handles ≡ handles_after_all k.client.handles (events (Some k))) → (ks : List (Connection Client))
    → handles_in (connection_of c (map f ks)) ≡ handles_after_all (handles_in (connection_of c ks)) (events (connection_of c ks))
mapped-handles c f same events none each ks = ap handles_in (connection_of-map c f same ks) ∙ one (connection_of c ks)
  where
    one : (o : Option (Connection Client)) → handles_in (option_map f o) ≡ handles_after_all (handles_in o) (events o)
    one None = sym none
    one (Some k) = each k

tick-handles : (reading : DescriptionReading) (now : ℕ) (w : World) (k : Connection Client)
    → (connection_after_tick (ads_device reading) now w k).client.handles ≡ k.client.handles
unfolding connection_after_tick client_after_tick
tick-handles reading now w k = go (is_deaf k)
  where
    go : (b : Bool) → (cond b k (after_client_outcome (client_after_tick now w k.client) k)).client.handles ≡ k.client.handles
    go true = refl
    go false = ap (λ (d : Client). d.handles)
        (produce_all-client (client_after_tick now w k.client).frames (with_client (client_after_tick now w k.client).client k))

reload-handles : (reading : DescriptionReading) (now : ℕ) (w : World) (d : Description) (k : Connection Client)
    → (connection_after_reload (ads_device reading) now w (world_after_reload w d) k).client.handles
    ≡ handles_after_all k.client.handles (cond (not (is_deaf k)) (handle_events_of_reload w (Ok d)) [])
unfolding connection_after_reload client_reloaded client_after_reload world_after_reload handles_after_all
reload-handles reading now w d k = go (is_deaf k)
  where
    new : World
    new = world_after_reload w d

    go : (b : Bool) → (cond b k (after_client_outcome (client_reloaded now w new k.client) k)).client.handles
        ≡ handles_after_all k.client.handles (cond (not b) (handle_events_of_reload w (Ok d)) [])
    go true = refl
    go false = ap (λ (e : Client). e.handles)
        (produce_all-client (client_reloaded now w new k.client).frames (with_client (client_reloaded now w new k.client).client k))

none_either : (b : Bool) (hs : List (Handle Place)) → handles_after_all hs (cond b [] []) ≡ hs
unfolding handles_after_all
none_either true hs = refl
none_either false hs = refl

reloaded : (reading : DescriptionReading) (c : ℕ) (r : Result Description DescriptionFault) (s : MachineState World Client)
    → handles_in (connection_of c (after_reload (ads_device reading) (reloading s.world r) s).connections)
    ≡ handles_after_all (handles_in (connection_of c s.connections)) (cond (is_heard (connection_of c s.connections)) (handle_events_of_reload s.world r) [])
unfolding handles_after_all
reloaded reading c (Err fault) s = sym (none_either (is_heard (connection_of c s.connections)) (handles_in (connection_of c s.connections)))
reloaded reading c (Ok d) s =
    let device = ads_device reading in
    let new = world_after_reload s.world d in
    mapped-handles c (connection_after_reload device s.moment s.world new) (λ k. (connection_after_reload-grows device s.moment s.world new k).number)
    (λ o. cond (is_heard o) (handle_events_of_reload s.world (Ok d)) []) refl (reload-handles reading s.moment s.world d) s.connections

-- a piece of its own
piece-own : (reading : DescriptionReading) (c : ℕ) (bytes : List ℕ) (s : MachineState World Client) (o : Option (Connection Client))
    → connection_of c s.connections ≡ o
    → handles_in (connection_of c (after_exchange (connection_of c s.connections) (after_piece (ads_device reading) bytes) s).connections)
    ≡ handles_after_all (handles_in o) (handle_events_of_acts (acts_at reading s bytes o))
unfolding handles_after_all
piece-own reading c bytes s None e =
    ap (λ (u : MachineState World Client). handles_in (connection_of c u.connections))
    (exchange_none c (after_piece (ads_device reading) bytes) s e) ∙ ap handles_in e
piece-own reading c bytes s (Some k) e =
    let device = ads_device reading in
    let x = exchange_of s k in
    ap handles_in (exchange_own c (after_piece device bytes) (λ y. (after_piece-grows device bytes y).number) s k e)
    ∙ ap (λ (d : Client). d.handles) (piece-client reading bytes x)
    ∙ acts-handles (acts_of_piece reading bytes x) k.client

piece-handles : (reading : DescriptionReading) (c n : ℕ) (bytes : List ℕ) (s : MachineState World Client)
    → handles_in (connection_of c (after_exchange (connection_of n s.connections) (after_piece (ads_device reading) bytes) s).connections)
    ≡ handles_after_all (handles_in (connection_of c s.connections))
    (cond (n == c) (handle_events_of_acts (acts_at reading s bytes (connection_of n s.connections))) [])
unfolding handles_after_all
piece-handles reading c n bytes s =
    let device = ads_device reading in
    elim (cases_eq n c) [
      | inr ne ↦ let t = test_other n c ne in
          rw t (ap handles_in (exchange_other c n (after_piece device bytes) (λ y. (after_piece-grows device bytes y).number) ne s))
      | inl q ↦
          let P : ℕ → Type 0 = λ i. handles_in (connection_of c (after_exchange (connection_of i s.connections) (after_piece device bytes) s).connections)
          ≡ handles_after_all (handles_in (connection_of c s.connections)) (handle_events_of_acts (acts_at reading s bytes (connection_of i s.connections))) in
          let t = test_same n c q in
          rw t (subst P (sym q) (piece-own reading c bytes s (connection_of c s.connections) refl))
    ]

event-handles : (reading : DescriptionReading) (c : ℕ) (s : MachineState World Client) (e : Event)
    → handles_in (connection_of c (state_after_event (ads_device reading) s e).connections) ≡ handles_after_all
    (handles_in (connection_of c s.connections)) (handle_events_of_event reading c s e)
unfolding state_after_event handle_events_of_event handles_after_all
event-handles reading c s (event.Opened n) = opened-handles c n (ads_device reading).new_client s.connections refl
event-handles reading c s (event.Piece n bytes) = piece-handles reading c n bytes s
event-handles reading c s (event.Closed n) = quiet c n with_gone with_gone-number (λ x. refl) s
event-handles reading c s (event.Tick now) =
    let device = ads_device reading in
    let w = world_after_tick s.world in
    let moment = moment_of_tick now s in
    mapped-handles c (connection_after_tick device moment w) (λ k. (connection_after_tick-grows device moment w k).number)
    (λ o. []) refl (tick-handles reading moment w) s.connections
event-handles reading c s (event.Reload bytes) = reloaded reading c (reading bytes (length s.world.signals)) s
event-handles reading c s (event.Writable n) = refl

move-handles : (reading : DescriptionReading) (c : ℕ) (s : MachineState World Client) (m : Move)
    → handles_in (connection_of c (state_after_move (server_step reading) s m).connections) ≡ handles_after_all
    (handles_in (connection_of c s.connections)) (handle_events_of_move reading c s m)
unfolding state_after_move handles_after_all
move-handles reading c s (move.Event e) = event-handles reading c s e
move-handles reading c s (move.Took n offered bytes) = quiet c n (with_took (length bytes)) (with_took-number (length bytes)) (took-client (length bytes)) s
move-handles reading c s (move.Lost n) = quiet c n with_gone with_gone-number (λ x. refl) s
move-handles reading c s (move.Shut n) = quiet c n with_gone with_gone-number (λ x. refl) s

log-handles : (reading : DescriptionReading) (c : ℕ) (log : List Move) (s : MachineState World Client)
    → handles_in (connection_of c (state_after (server_step reading) s log).connections)
    ≡ handles_after_all (handles_in (connection_of c s.connections)) (handle_history reading c s log)
unfolding state_after handle_history handles_after_all
log-handles reading c [] s = refl
log-handles reading c (m ∷ ms) s =
    let next = state_after_move (server_step reading) s m in
    let here = handle_events_of_move reading c s m in
    let later = handle_history reading c next ms in
    log-handles reading c ms next
    ∙ ap (λ (hs : List (Handle Place)). handles_after_all hs later) (move-handles reading c s m)
    ∙ sym (all-append (handles_in (connection_of c s.connections)) here later)

pub handles_are_history : HandlesAreHistory
unfolding connection_of
handles_are_history reading profile d signals log c k found handle port =
    let history = handle_history reading c (start_in profile d signals) log in
    let same : k.client.handles ≡ handles_of history = sym (ap handles_in found) ∙ log-handles reading c log (start_in profile d signals) in
    ap (λ (hs : List (Handle Place)). kept_status hs handle port) same ∙ status_is_history Place history handle port
