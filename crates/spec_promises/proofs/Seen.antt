-- What each request of a log finds: a sound plant, as many bytes as it begins with, and a client that fits it.
use Rattle.std.proofs.Common.{◌≡◌, ℕ, List, [], ◌∷◌, length, Bool, true, false, cond, refl, sym, subst, inl, inr, map, arith}
use Rattle.std.specs.Prelude.{Option, Some, None, Result, Ok, Err, ◌==◌}
use Rattle.std.specs.List.{list_any}
use Rattle.std.proofs.lemmas.Bool.{cases_Bool}
use Rattle.signals.specs.Wave.{Wave}
use Rattle.ads_outside.specs.declared.event.Event.{Event}
use Rattle.ads_outside.specs.declared.event.Event.TheVariants as event
use Rattle.ads_outside.specs.declared.moves.Move.{Move}
use Rattle.ads_outside.specs.declared.moves.Move.TheVariants as move
use Rattle.spec_plant.specs.Description.{Description, Rights}
use Rattle.spec_plant.specs.Accepted.{IsAccepted}
use Rattle.spec_plant.specs.World.{Plant, PlantPort, Block, plant_of}
use Rattle.spec_plant.proofs.BlockLemmas.{stands_within_part}
use Rattle.spec_plant.proofs.SoundLemmas.{accepted_are_sound, port_number}
use Rattle.spec_formats.specs.Header.{AmsAddress, AmsHeader, header_of, payload_of}
use Rattle.spec_formats.specs.Request.{Request, request_of}
use Rattle.spec_machine.specs.Profile.{Profile}
use Rattle.spec_machine.specs.Device.{DescriptionFault, FrameOutcome}
use Rattle.spec_machine.specs.Connection.{Connection, connection_of, is_deaf}
use Rattle.spec_machine.specs.MachineState.{MachineState, Exchange, exchange_of, after_exchange}
use Rattle.spec_machine.specs.Piece.{with_received, packets_left, with_one_taken, with_client, with_piece, after_outcome, after_packet, after_piece}
use Rattle.spec_machine.specs.Moves.{with_gone, with_took, state_after_move, state_after}
use Rattle.spec_machine.specs.Events.{after_reload, state_after_event}
use Rattle.spec_machine.specs.World.{World, Setup, setup_of, port_numbered, first_memory, FIRST_VERSION}
use Rattle.spec_machine.specs.Access.{Addressed, addressed_name}
use Rattle.spec_machine.specs.Watches.{Watch}
use Rattle.spec_machine.specs.Client.{Client}
use Rattle.spec_machine.specs.Acts.{Act, memory_after, memory_after_acts, client_after_acts}
use Rattle.spec_machine.specs.Writes.{Asker}
use Rattle.spec_machine.specs.Requests.{act_of}
use Rattle.spec_machine.specs.SumLaws.{Party, party_after}
use Rattle.spec_machine.specs.Decisions.{Decision, acts_in}
use Rattle.spec_machine.specs.Sums.{given_in_turn}
use Rattle.spec_machine.specs.Packets.{Check, source_rights, checks_of, question, question_of, decide}
use Rattle.spec_machine.specs.Replies.{performed}
use Rattle.spec_machine.specs.Ticks.{signal_puts, world_after_tick}
use Rattle.spec_machine.specs.Reloads.{next_version, world_after_reload}
use Rattle.spec_machine.specs.AdsDevice.{reloading}
use Rattle.spec_laws.specs.Isolation.{start_in}
use Rattle.spec_laws.specs.Soundness.{Each, IsSoundPlant}
use Rattle.spec_laws.specs.Reachable.{IsThereAt, IsWatchThere, ConnectionFits}
use Rattle.spec_laws.proofs.Alike.{Alike, alike_itself, alike_then, puts-alike, acts-alike, reload-alike}
use Rattle.spec_laws.proofs.Exchanges.{WatchIn, answer-client}
use Rattle.spec_laws.proofs.EveryState.{Goes, piece-goes, gone-goes, took-goes, every_state_fits}
use Rattle.spec_laws.proofs.FineActs.{IsAsked, act-fine}
use Rattle.spec_laws.proofs.FineDecisions.{FitsPlant, acts-fit, decide-fine}
use Rattle.spec_laws.proofs.FirstMemory.{IsNamed}
use Rattle.spec_laws.proofs.Footprints.{each_both}
use Rattle.spec_promises.specs.Asked.{Asked, asked_in_turn, requests_of}
use Rattle.spec_promises.specs.Asked.{asked_of_question, asked_of_header, party_of, asked_of_packet, asked_of_packets, asked_of_piece}
use Rattle.spec_promises.specs.Asked.{asked_at, asked_of_move}
use Rattle.spec_server.specs.Server.{read_description, server_device, server}
use Rattle.spec_server.proofs.ServerProofs.{reads_descriptions}

-- in every state the plant is sound, and its parts have their bytes
pub record Whole (w : World) : Type 0 where
  pub sound : IsSoundPlant w.plant
  pub memory : Alike w.memory (first_memory FIRST_VERSION w.plant)

exchange-whole : (f : Exchange World Client → Exchange World Client) → ((x : Exchange World Client) → Goes x (f x))
    → (s : MachineState World Client) (o : Option (Connection Client))
    → Whole s.world → Whole (after_exchange o f s).world
exchange-whole f goes s None w = w
exchange-whole f goes s (Some k) w =
    let x = exchange_of s k in
    let g = goes x in
    let back = sym g.plant in
    record {
      sound = subst IsSoundPlant back w.sound;
      memory = alike_then (f x).world.memory s.world.memory _ g.memory (subst (λ q. Alike s.world.memory (first_memory FIRST_VERSION q)) back w.memory);
    }

reload-whole : (r : Result Description DescriptionFault)
    → ((d : Description) → r ≡ Ok d → IsSoundPlant (plant_of d)) → (s : MachineState World Client)
    → Whole s.world → Whole (after_reload server_device (reloading s.world r) s).world
unfolding world_after_reload
reload-whole (Err fault) h s w = w
reload-whole (Ok d) h s w =
    let sound = h d refl in
    record { sound = sound; memory = reload-alike (next_version s.world.version) s.world.plant (plant_of d) w.sound sound s.world.memory w.memory }

event-whole : (s : MachineState World Client) (e : Event) → Whole s.world
    → Whole (state_after_event server_device s e).world
unfolding state_after_event world_after_tick
event-whole s (event.Opened n) w = w
event-whole s (event.Piece n bytes) w =
    exchange-whole (after_piece server_device bytes) (piece-goes read_description bytes) s (connection_of n s.connections) w
event-whole s (event.Closed n) w = exchange-whole with_gone gone-goes s (connection_of n s.connections) w
event-whole s (event.Tick t) w =
    record {
      sound = w.sound;
      memory = alike_then (world_after_tick s.world).memory s.world.memory _
          (puts-alike (signal_puts s.world.plant.ports 0 s.world.signals) s.world.memory) w.memory;
    }
event-whole s (event.Reload bytes) w =
    reload-whole (read_description bytes (length s.world.signals))
    (λ d e. accepted_are_sound d (length s.world.signals) (reads_descriptions bytes (length s.world.signals) d e)) s w
event-whole s (event.Writable n) w = w

move-whole : (s : MachineState World Client) (m : Move) → Whole s.world
    → Whole (state_after_move server s m).world
unfolding state_after_move
move-whole s (move.Event e) w = event-whole s e w
move-whole s (move.Took n offered bytes) w =
    exchange-whole (with_took (length bytes)) (took-goes (length bytes)) s (connection_of n s.connections) w
move-whole s (move.Lost n) w = exchange-whole with_gone gone-goes s (connection_of n s.connections) w
move-whole s (move.Shut n) w = exchange-whole with_gone gone-goes s (connection_of n s.connections) w

log-whole : (log : List Move) (s : MachineState World Client) → Whole s.world
    → Whole (state_after server s log).world
unfolding state_after
log-whole [] s w = w
log-whole (m ∷ ms) s w = log-whole ms (state_after_move server s m) (move-whole s m w)

pub every_state_whole : (profile : Profile) (d : Description) (waves : List Wave)
    → IsAccepted d (length waves) → (log : List Move)
    → Whole (state_after server (start_in profile d waves) log).world
every_state_whole profile d waves accepted log =
    log-whole log (start_in profile d waves)
    (record { sound = accepted_are_sound d (length waves) accepted; memory = alike_itself (first_memory FIRST_VERSION (plant_of d)) })

-- what a request finds
pub record Sees (a : Asked) : Type 0 where
  pub asked : IsAsked a.setup.plant a.asker.port
  pub memory : Alike a.before.memory (first_memory FIRST_VERSION a.setup.plant)
  pub client : FitsPlant a.setup.plant a.before.client

one-alike : (a : Act) (m : List Block) → Alike (memory_after m a) m
unfolding memory_after_acts
one-alike a m = acts-alike (a ∷ []) m

in_turn-sees : (d : Setup) (k : Asker) → IsAsked d.plant k.port → (rs : List Request) (p : Party)
    → Alike p.memory (first_memory FIRST_VERSION d.plant) → FitsPlant d.plant p.client
    → Each Sees (asked_in_turn d k p rs)
unfolding asked_in_turn given_in_turn client_after_acts
in_turn-sees d k i [] p m f = tt
in_turn-sees d k i (r ∷ rs) p m f =
    let a = act_of d p.client k r in
    let next = party_after d k p r in
    let fits : FitsPlant d.plant next.client = acts-fit d.plant (a ∷ []) p.client f (act-fine d.plant d p.client k i f.handles r, tt) in (
      record { asked = i; memory = m; client = f },
      in_turn-sees d k i rs next
          (alike_then next.memory p.memory (first_memory FIRST_VERSION d.plant) (one-alike a p.memory) m) fits,
    )

passed-sees : (d : Setup) (p : Party) → IsSoundPlant d.plant → Alike p.memory (first_memory FIRST_VERSION d.plant) → FitsPlant d.plant p.client
    → (source : AmsAddress) (rights : Option Rights) (number : ℕ) (port : Option PlantPort) → port_numbered number d.plant.ports ≡ port
    → (request : Option Request)
    → Each Sees (asked_of_question d p (question source rights port request))
passed-sees d p sound m f source (Some rights) number (Some port) e (Some request) =
    let P : ℕ → Type 0 = λ n. port_numbered n d.plant.ports ≡ Some port in
    let i : IsAsked d.plant port = record { sound = sound; found = subst P (sym (port_number number d.plant.ports port e)) e } in
    in_turn-sees d (record { port = port; address = source; rights = rights }) i (requests_of d.profile request) p m f
passed-sees d p sound m f source (Some rights) number (Some port) e None = tt
passed-sees d p sound m f source (Some rights) number None e request = tt
passed-sees d p sound m f source None number port e request = tt

header-sees : (d : Setup) (p : Party) → IsSoundPlant d.plant → Alike p.memory (first_memory FIRST_VERSION d.plant) → FitsPlant d.plant p.client
    → (payload : List ℕ) (o : Option AmsHeader) → Each Sees (asked_of_header d p payload o)
header-sees d p sound m f payload None = tt
header-sees d p sound m f payload (Some h) = go (list_any (λ (c : Check). c.stops) (checks_of d h payload))
  where
    go : (b : Bool) → Each Sees (cond b [] (asked_of_question d p (question_of d h payload)))
    go true = tt
    go false = passed-sees d p sound m f h.source (source_rights d h) h.target.port (port_numbered h.target.port d.plant.ports) refl
        (request_of h.command payload)

-- what a packet finds
record Fine (x : Exchange World Client) : Type 0 where
  sound : IsSoundPlant x.world.plant
  memory : Alike x.world.memory (first_memory FIRST_VERSION x.world.plant)
  client : FitsPlant x.world.plant x.connection.client

packet-sees : (packet : List ℕ) (x : Exchange World Client) → Fine x → Each Sees (asked_of_packet packet x)
packet-sees packet x f = go x.connection.closing
  where
    go : (b : Bool) → Each Sees (cond b [] (asked_of_header (setup_of x.world) (party_of x) (payload_of packet) (header_of packet)))
    go true = tt
    go false = header-sees (setup_of x.world) (party_of x) f.sound f.memory f.client (payload_of packet) (header_of packet)

packet-fine : (packet : List ℕ) (x : Exchange World Client) → Fine x
    → Fine (after_packet server_device packet x)
unfolding after_packet performed
packet-fine packet x f = go x.connection.closing
  where
    decision : Decision
    decision = decide (setup_of x.world) x.connection.client packet

    o : FrameOutcome World Client
    o = performed decision packet x.world x.connection.client

    go : (b : Bool) → Fine (cond b x (after_outcome o x.connection))
    go true = f
    go false = record {
      sound = f.sound;
      memory = alike_then o.world.memory x.world.memory (first_memory FIRST_VERSION x.world.plant) (acts-alike (acts_in decision) x.world.memory) f.memory;
      client = subst (FitsPlant x.world.plant) (sym (answer-client o.answer (with_client o.client (with_one_taken x.connection))))
          (acts-fit x.world.plant (acts_in decision) x.connection.client f.client
          (decide-fine (setup_of x.world) x.connection.client packet f.sound f.client).acts);
    }

packets-see : (ps : List (List ℕ)) (x : Exchange World Client) → Fine x
    → Each Sees (asked_of_packets ps x)
unfolding asked_of_packets
packets-see [] x f = tt
packets-see (p ∷ ps) x f =
    let y = after_packet server_device p x in
    each_both Sees (asked_of_packet p x) (asked_of_packets ps y) (packet-sees p x f)
    (packets-see ps y (packet-fine p x f))

-- what is there has a name of the plant
bytes-named : (plant : Plant) (m : List Block) → Alike m (first_memory FIRST_VERSION plant) → (as_ : List Addressed) → Each (IsThereAt m) as_
    → Each (IsNamed plant) (map addressed_name as_)
bytes-named plant m a [] e = tt
bytes-named plant m a (x ∷ xs) e =
    let n = addressed_name x in
    let within = stands_within_part m n in
    let l = within.1 (e.0) in
    let same = a.same n.port n.part in
    (omega (arith, l, same), bytes-named plant m a xs (e.1))

watches-named : (plant : Plant) (m : List Block) → Alike m (first_memory FIRST_VERSION plant) → (ws : List (Watch (List Addressed))) → Each (IsWatchThere m) ws
    → Each (WatchIn (IsNamed plant)) ws
watches-named plant m a [] e = tt
watches-named plant m a (w ∷ ws) e = (bytes-named plant m a w.watched (e.0), watches-named plant m a ws (e.1))

-- the connection of a number is one of them
pub found_among : (P : Connection Client → Type 0) (c : ℕ) (ks : List (Connection Client)) (k : Connection Client) → Each P ks → connection_of c ks ≡ Some k
    → P k
unfolding connection_of
found_among P c [] k e f = cc
found_among P c (l ∷ ls) k e f =
    elim (cases_Bool (l.number == c)) [
      | inl t ↦ let g : Some l ≡ Some k = rw t at f in let h : l ≡ k = cc in subst P h (e.0)
      | inr t ↦ let g : connection_of c ls ≡ Some k = rw t at f in found_among P c ls k (e.1) g
    ]

piece-sees : (bytes : List ℕ) (x : Exchange World Client) → Whole x.world
    → ConnectionFits x.world x.connection → Each Sees (asked_of_piece bytes x)
piece-sees bytes x w f = go (is_deaf x.connection) refl
  where
    go : (b : Bool) → is_deaf x.connection ≡ b
        → Each Sees (cond b [] (asked_of_packets (packets_left (with_received bytes x.connection)) (with_piece bytes x)))
    go true e = tt
    go false e = packets-see (packets_left (with_received bytes x.connection)) (with_piece bytes x) (record {
      sound = w.sound;
      memory = w.memory;
      client = record { handles = (f e).handles; watches = watches-named x.world.plant x.world.memory w.memory x.connection.client.watches (f e).watches };
    })

at-sees : (s : MachineState World Client) (bytes : List ℕ) → Whole s.world
    → Each (ConnectionFits s.world) s.connections
    → (c : ℕ) (o : Option (Connection Client)) → connection_of c s.connections ≡ o → Each Sees (asked_at s bytes o)
at-sees s bytes w f c None e = tt
at-sees s bytes w f c (Some k) e = piece-sees bytes (exchange_of s k) w (found_among (ConnectionFits s.world) c s.connections k f e)

move-sees : (s : MachineState World Client) (m : Move) → Whole s.world
    → Each (ConnectionFits s.world) s.connections → Each Sees (asked_of_move s m)
unfolding asked_of_move
move-sees s (move.Event (event.Piece n bytes)) w f = at-sees s bytes w f n (connection_of n s.connections) refl
move-sees s m w f = tt

-- each request of every log
pub every_request_sees : (profile : Profile) (d : Description) (waves : List Wave)
    → IsAccepted d (length waves) → (log : List Move) (m : Move)
    → Each Sees (asked_of_move (state_after server (start_in profile d waves) log) m)
every_request_sees profile d waves accepted log m =
    move-sees (state_after server (start_in profile d waves) log) m (every_state_whole profile d waves accepted log)
    (every_state_fits read_description reads_descriptions profile d waves accepted log).connections
