-- What every state that a log leads to keeps.
use Rattle.std.proofs.Common.{◌≡◌, ℕ, ◌+◌, ◌<◌, List, [], ◌∷◌, ◌++◌, map, length, Bool, true, false, cond, refl, sym, ◌∙◌, ap, subst, arith, inl, inr}
use Rattle.std.specs.Prelude.{Option, Some, None, Result, Ok, Err, ◌==◌, ◌||◌, filter_map, option_map, if◌then◌else◌}
use Rattle.std.specs.List.{list_all, cons_option}
use Rattle.std.proofs.lemmas.Bool.{cases_Bool, false≢true, and_parts, eqb-true}
use Rattle.spec_plant.specs.Description.{Description}
use Rattle.spec_plant.specs.World.{Block, Part, SymbolPart, ByteName, Plant, PlantPort, plant_of, symbol_size, is_same_part}
use Rattle.ads_outside.specs.declared.event.Event.{Event}
use Rattle.ads_outside.specs.declared.event.Event.TheVariants as event
use Rattle.ads_outside.specs.declared.moves.Move.{Move}
use Rattle.ads_outside.specs.declared.moves.Move.TheVariants as move
use Rattle.spec_machine.specs.Device.{FrameOutcome, ClientOutcome, DescriptionFault}
use Rattle.spec_machine.specs.Connection.{Connection, is_deaf, fresh_connection, connection_of, put_back}
use Rattle.spec_machine.specs.MachineState.{MachineState, Exchange, exchange_of, after_exchange}
use Rattle.spec_machine.specs.Piece.{with_received, packets_left, with_one_taken, with_client, after_outcome}
use Rattle.spec_machine.specs.Piece.{after_packet, after_packets, with_piece, end_of_piece, after_piece}
use Rattle.spec_machine.specs.Moves.{with_gone, with_took, state_after_move, state_after}
use Rattle.spec_machine.specs.Events.{after_client_outcome, moment_of_tick, connection_after_tick, connection_after_reload, after_reload, state_after_event}
use Rattle.spec_machine.specs.World.{World, setup_of, name_at, first_memory, FIRST_VERSION}
use Rattle.spec_machine.specs.Access.{Addressed, addressed_name}
use Rattle.spec_machine.specs.Handles.{HandleStatus, Never, Released, Outdated, Live, live_or_outdated, Handle}
use Rattle.spec_machine.specs.Handles.{status_after_reload, handle_after_reload, handles_after}
use Rattle.spec_machine.specs.Watches.{Watch, watch_after_reload, watches_after_reload}
use Rattle.spec_machine.specs.Client.{Place, Client, new_client, kept_place, is_in_part, are_kept, kept_bytes, client_after_reload}
use Rattle.spec_machine.specs.Decisions.{Decision, acts_in}
use Rattle.spec_machine.specs.Packets.{decide}
use Rattle.spec_machine.specs.Replies.{performed}
use Rattle.spec_machine.specs.Ticks.{signal_puts, world_after_tick, client_after_tick}
use Rattle.spec_machine.specs.Reloads.{is_kept, next_version, world_after_reload, client_reloaded}
use Rattle.spec_machine.specs.AdsDevice.{DescriptionReading, reloading, ads_device, server_step}
use Rattle.spec_laws.specs.Isolation.{start_in}
use Rattle.spec_laws.specs.Soundness.{Each, IsSoundPlant, ReadsAccepted}
use Rattle.spec_laws.specs.Reachable.{IsPlaced, IsPlacedStatus, IsPlacedHandle, IsThereAt, IsWatchThere, ConnectionFits, AllFits, EveryStateFits}
use Rattle.spec_laws.proofs.Memory.{same_part-true}
use Rattle.spec_plant.proofs.SoundLemmas.{accepted_are_sound}
use Rattle.spec_laws.proofs.Exchanges.{WatchIn, WatchesIn, produce_all-client, answer-client, rest-client}
use Rattle.spec_laws.proofs.TicksAndReloads.{tick-watches}
use Rattle.spec_laws.proofs.FirstMemory.{IsNamed, there_by_length, area-named}
use Rattle.spec_laws.proofs.FineDecisions.{FitsPlant, acts-fit, decide-fine}
use Rattle.spec_laws.proofs.Alike.{Alike, alike_itself, alike_then, puts-alike, acts-alike, kept_symbol, kept-length, reload-alike}

-- reloads

place-kept : (old new : Plant) (port : ℕ) (place : Place) → IsPlaced old port place
    → is_kept old new port (SymbolPart place.symbol) ≡ true → IsPlaced new port place
place-kept old new port place i t =
    let k = kept_symbol old new port place.symbol t in
    let s : Some i.asked ≡ Some k.before = sym i.port_found ∙ k.before_found in
    let same_port : i.asked ≡ k.before = cc in
    let n : Some i.symbol ≡ Some k.was =
    sym i.symbol_found ∙ ap (λ (z : PlantPort). Rattle.spec_machine.specs.Writes.symbol_named place.symbol z.symbols) same_port ∙ k.was_found in
    let same : i.symbol ≡ k.was = cc in
    let e = k.size in
    let f = i.ends in
    let g = ap symbol_size same in
    record { asked = k.after; port_found = k.after_found; symbol = k.is; symbol_found = k.is_found; ends = omega (arith, f, g, e) }

status-kept : (old new : Plant) (port : ℕ) (s : HandleStatus Place) → IsPlacedStatus old port s
    → IsPlacedStatus new port (status_after_reload (kept_place (is_kept old new) port) s)
status-kept old new port Never h = tt
status-kept old new port Released h = tt
status-kept old new port Outdated h = tt
status-kept old new port (Live place) h = go (is_kept old new port (SymbolPart place.symbol)) refl
  where
    go : (b : Bool) → is_kept old new port (SymbolPart place.symbol) ≡ b → IsPlacedStatus new port (live_or_outdated (if b then Some place else None))
    go true t = place-kept old new port place h t
    go false t = tt

handles-kept : (old new : Plant) (hs : List (Handle Place)) → Each (IsPlacedHandle old) hs
    → Each (IsPlacedHandle new) (map (handle_after_reload (kept_place (is_kept old new))) hs)
handles-kept old new [] e = tt
handles-kept old new (h ∷ hs) e = (status-kept old new h.port h.status (e.0), handles-kept old new hs (e.1))

-- a byte of a kept part has a name of the new plant
name-kept : (old new : Plant) → IsSoundPlant old → IsSoundPlant new → (n : ByteName) → is_kept old new n.port n.part ≡ true → IsNamed old n → IsNamed new n
name-kept old new so sn n t h = subst (λ (l : ℕ). n.index < l) (kept-length FIRST_VERSION old new so sn n.port n.part t) h

part-kept : (old new : Plant) → IsSoundPlant old → IsSoundPlant new → (port : ℕ) (part : Part) → is_kept old new port part ≡ true
    → (as_ : List Addressed) → list_all (is_in_part port part) as_ ≡ true
    → Each (IsNamed old) (map addressed_name as_) → Each (IsNamed new) (map addressed_name as_)
part-kept old new so sn port part t [] e h = tt
part-kept old new so sn port part t (a ∷ as_) e h =
    let p = and_parts (is_in_part port part a) (list_all (is_in_part port part) as_) e in
    let q = and_parts ((addressed_name a).port == port) (is_same_part part (addressed_name a).part) (p.0) in
    let same_port = eqb-true (addressed_name a).port port (q.0) in
    let same_part = same_part-true part (addressed_name a).part (q.1) in
    let here : is_kept old new (addressed_name a).port (addressed_name a).part ≡ true =
    ap (λ m. is_kept old new m (addressed_name a).part) same_port ∙ ap (is_kept old new port) (sym same_part) ∙ t in
    (name-kept old new so sn (addressed_name a) here (h.0), part-kept old new so sn port part t as_ (p.1) (h.1))

bytes-kept : (old new : Plant) → IsSoundPlant old → IsSoundPlant new → (as_ : List Addressed)
    → are_kept (is_kept old new) as_ ≡ true → Each (IsNamed old) (map addressed_name as_) → Each (IsNamed new) (map addressed_name as_)
bytes-kept old new so sn [] e h = tt
bytes-kept old new so sn (a ∷ as_) e h =
    let n = addressed_name a in
    let p = and_parts (is_kept old new n.port n.part) (list_all (is_in_part n.port n.part) as_) e in
    (name-kept old new so sn n (p.0) (h.0), part-kept old new so sn n.port n.part (p.0) as_ (p.1) (h.1))

watches-kept : (old new : Plant) → IsSoundPlant old → IsSoundPlant new → (ws : List (Watch (List Addressed)))
    → Each (WatchIn (IsNamed old)) ws → Each (WatchIn (IsNamed new)) (filter_map (watch_after_reload (kept_bytes (is_kept old new))) ws)
watches-kept old new so sn [] e = tt
watches-kept old new so sn (w ∷ ws) e = go (are_kept (is_kept old new) w.watched) refl (watches-kept old new so sn ws (e.1))
  where
    go : (b : Bool) → are_kept (is_kept old new) w.watched ≡ b
        → Each (WatchIn (IsNamed new)) (filter_map (watch_after_reload (kept_bytes (is_kept old new))) ws)
        → Each (WatchIn (IsNamed new))
        (cons_option (option_map (λ watched. record w { watched = watched }) (if b then Some w.watched else None))
        (filter_map (watch_after_reload (kept_bytes (is_kept old new))) ws))
    go true t rest = (bytes-kept old new so sn w.watched t (e.0), rest)
    go false t rest = rest

client-kept : (old new : Plant) → IsSoundPlant old → IsSoundPlant new → (c : Client) → FitsPlant old c → FitsPlant new (client_after_reload (is_kept old new) c)
unfolding client_after_reload handles_after watches_after_reload
client-kept old new so sn c f = record { handles = handles-kept old new c.handles f.handles; watches = watches-kept old new so sn c.watches f.watches }

-- a connection that is heard fits the plant
abbrev ConnFits : Plant → Connection Client → Type 0
ConnFits plant k = is_deaf k ≡ false → FitsPlant plant k.client

-- frames: the profile and the plant stay, the parts keep their lengths, and the client fits
pub record Goes (x y : Exchange World Client) : Type 0 where
  pub profile : y.world.profile ≡ x.world.profile
  pub plant : y.world.plant ≡ x.world.plant
  pub memory : Alike y.world.memory x.world.memory

goes_then : (x y z : Exchange World Client) → Goes x y → Goes y z → Goes x z
goes_then x y z p q = record {
  profile = q.profile ∙ p.profile;
  plant = q.plant ∙ p.plant;
  memory = alike_then z.world.memory y.world.memory x.world.memory q.memory p.memory;
}

packet-goes : (reading : DescriptionReading) (p : List ℕ) (x : Exchange World Client) → Goes x (after_packet (ads_device reading) p x)
unfolding after_packet performed
packet-goes reading p x = go x.connection.closing
  where
    decision : Decision
    decision = decide (setup_of x.world) x.connection.client p

    go : (b : Bool) → Goes x (cond b x (after_outcome (performed decision p x.world x.connection.client) x.connection))
    go true = record { profile = refl; plant = refl; memory = alike_itself x.world.memory }
    go false = record { profile = refl; plant = refl; memory = acts-alike (acts_in decision) x.world.memory }

packets-go : (reading : DescriptionReading) (ps : List (List ℕ)) (x : Exchange World Client) → Goes x (after_packets (ads_device reading) ps x)
unfolding after_packets
packets-go reading [] x = record { profile = refl; plant = refl; memory = alike_itself x.world.memory }
packets-go reading (p ∷ ps) x =
    let y = after_packet (ads_device reading) p x in
    goes_then x y (after_packets (ads_device reading) ps y) (packet-goes reading p x) (packets-go reading ps y)

pub piece-goes : (reading : DescriptionReading) (bytes : List ℕ) (x : Exchange World Client) → Goes x (after_piece (ads_device reading) bytes x)
unfolding after_piece
piece-goes reading bytes x = go (is_deaf x.connection)
  where
    y : Exchange World Client
    y = after_packets (ads_device reading) (packets_left (with_received bytes x.connection)) (with_piece bytes x)

    go : (b : Bool) → Goes x (cond b x (end_of_piece y))
    go true = record { profile = refl; plant = refl; memory = alike_itself x.world.memory }
    go false = let g = packets-go reading (packets_left (with_received bytes x.connection)) (with_piece bytes x) in
        record { profile = g.profile; plant = g.plant; memory = g.memory }

packet-fits : (reading : DescriptionReading) (p : List ℕ) (x : Exchange World Client) → IsSoundPlant x.world.plant → FitsPlant x.world.plant x.connection.client
    → FitsPlant x.world.plant (after_packet (ads_device reading) p x).connection.client
unfolding after_packet performed
packet-fits reading p x sound f = go x.connection.closing
  where
    plant : Plant
    plant = x.world.plant

    decision : Decision
    decision = decide (setup_of x.world) x.connection.client p

    o : FrameOutcome World Client
    o = performed decision p x.world x.connection.client

    go : (b : Bool) → FitsPlant plant (cond b x (after_outcome o x.connection)).connection.client
    go true = f
    go false = subst (FitsPlant plant) (sym (answer-client o.answer (with_client o.client (with_one_taken x.connection))))
        (acts-fit plant (acts_in decision) x.connection.client f (decide-fine (setup_of x.world) x.connection.client p sound f).acts)

packets-fit : (reading : DescriptionReading) (ps : List (List ℕ)) (plant : Plant) (x : Exchange World Client)
    → x.world.plant ≡ plant → IsSoundPlant plant → FitsPlant plant x.connection.client
    → FitsPlant plant (after_packets (ads_device reading) ps x).connection.client
unfolding after_packets
packets-fit reading [] plant x e sound f = f
packets-fit reading (p ∷ ps) plant x e sound f =
    let y = after_packet (ads_device reading) p x in
    let g = packet-goes reading p x in
    let P : Plant → Type 0 = λ q. IsSoundPlant q → FitsPlant q x.connection.client → FitsPlant q y.connection.client in
    packets-fit reading ps plant y (g.plant ∙ e) sound (subst P e (packet-fits reading p x) sound f)

piece-fits : (reading : DescriptionReading) (bytes : List ℕ) (x : Exchange World Client) → IsSoundPlant x.world.plant
    → ConnFits x.world.plant x.connection → ConnFits x.world.plant (after_piece (ads_device reading) bytes x).connection
unfolding after_piece
piece-fits reading bytes x sound f =
    elim (cases_Bool (is_deaf x.connection)) [
      | inl b ↦ subst (λ (t : Bool). ConnFits x.world.plant (cond t x (end_of_piece y)).connection) (sym b) f
      | inr b ↦ subst (λ (t : Bool). ConnFits x.world.plant (cond t x (end_of_piece y)).connection) (sym b)
          (λ heard. subst (FitsPlant x.world.plant) (sym (rest-client y.connection))
          (packets-fit reading (packets_left (with_received bytes x.connection)) x.world.plant (with_piece bytes x) refl sound (f b)))
    ]
  where
    y : Exchange World Client
    y = after_packets (ads_device reading) (packets_left (with_received bytes x.connection)) (with_piece bytes x)

-- what every state keeps
record Good (s : MachineState World Client) : Type 0 where
  sound : IsSoundPlant s.world.plant
  memory : Alike s.world.memory (first_memory FIRST_VERSION s.world.plant)
  all : Each (ConnFits s.world.plant) s.connections

put_back-fits : (plant : Plant) (new : Connection Client) (ks : List (Connection Client))
    → ConnFits plant new → Each (ConnFits plant) ks → Each (ConnFits plant) (put_back new ks)
unfolding put_back
put_back-fits plant new [] h e = tt
put_back-fits plant new (k ∷ ks) h e =
    elim (cases_Bool (k.number == new.number)) [
      | inl t ↦ rw t (h, e.1)
      | inr t ↦ rw t (e.0, put_back-fits plant new ks h (e.1))
    ]

found-fits : (plant : Plant) (c : ℕ) (ks : List (Connection Client)) (k : Connection Client)
    → Each (ConnFits plant) ks → connection_of c ks ≡ Some k → ConnFits plant k
unfolding connection_of
found-fits plant c [] k e f = cc
found-fits plant c (l ∷ ls) k e f =
    elim (cases_Bool (l.number == c)) [
      | inl t ↦ let g : Some l ≡ Some k = rw t at f in let h : l ≡ k = cc in subst (ConnFits plant) h (e.0)
      | inr t ↦ let g : connection_of c ls ≡ Some k = rw t at f in found-fits plant c ls k (e.1) g
    ]

map-fits : (old new : Plant) (f : Connection Client → Connection Client) → ((k : Connection Client) → ConnFits old k → ConnFits new (f k))
    → (ks : List (Connection Client)) → Each (ConnFits old) ks → Each (ConnFits new) (map f ks)
map-fits old new f h [] e = tt
map-fits old new f h (k ∷ ks) e = (h k (e.0), map-fits old new f h ks (e.1))

push-fits : (plant : Plant) (n : ℕ) (ks : List (Connection Client))
    → Each (ConnFits plant) ks → Each (ConnFits plant) (ks ++ fresh_connection new_client n ∷ [])
push-fits plant n [] e = (λ q. record { handles = tt; watches = tt }, tt)
push-fits plant n (k ∷ ks) e = (e.0, push-fits plant n ks (e.1))

-- a change of one connection
exchange-good : (f : Exchange World Client → Exchange World Client) → ((x : Exchange World Client) → Goes x (f x))
    → ((x : Exchange World Client) → IsSoundPlant x.world.plant → ConnFits x.world.plant x.connection → ConnFits x.world.plant (f x).connection)
    → (s : MachineState World Client) (c : ℕ) (o : Option (Connection Client)) → connection_of c s.connections ≡ o → Good s → Good (after_exchange o f s)
exchange-good f goes fits s c None e g = g
exchange-good f goes fits s c (Some k) e g =
    let x = exchange_of s k in
    let y = goes x in
    let back = sym y.plant in
    let here = fits x g.sound (found-fits s.world.plant c s.connections k g.all e) in
    record {
      sound = subst IsSoundPlant back g.sound;
      memory = alike_then (f x).world.memory s.world.memory _ y.memory (subst (λ q. Alike s.world.memory (first_memory FIRST_VERSION q)) back g.memory);
      all = subst (λ q. Each (ConnFits q) (put_back (f x).connection s.connections)) back
          (put_back-fits s.world.plant (f x).connection s.connections here g.all);
    }

pub gone-goes : (x : Exchange World Client) → Goes x (with_gone x)
gone-goes x = record { profile = refl; plant = refl; memory = alike_itself x.world.memory }

gone-fits : (x : Exchange World Client) → IsSoundPlant x.world.plant → ConnFits x.world.plant x.connection → ConnFits x.world.plant (with_gone x).connection
gone-fits x sound f = λ heard. absurd (false≢true (sym heard ∙ or_true x.connection.closing))
  where
    or_true : (b : Bool) → (b || true) ≡ true
    or_true true = refl
    or_true false = refl

pub took-goes : (n : ℕ) (x : Exchange World Client) → Goes x (with_took n x)
took-goes n x =
    elim (cases_Bool x.connection.gone) [
      | inl b ↦ subst (λ (t : Bool). Goes x (cond t x (record x { connection = record x.connection { bytes_taken = x.connection.bytes_taken + n } })))
          (sym b) (record { profile = refl; plant = refl; memory = alike_itself x.world.memory })
      | inr b ↦ subst (λ (t : Bool). Goes x (cond t x (record x { connection = record x.connection { bytes_taken = x.connection.bytes_taken + n } })))
          (sym b) (record { profile = refl; plant = refl; memory = alike_itself x.world.memory })
    ]

took-fits : (n : ℕ) (x : Exchange World Client) → IsSoundPlant x.world.plant
    → ConnFits x.world.plant x.connection → ConnFits x.world.plant (with_took n x).connection
took-fits n x sound f =
    elim (cases_Bool x.connection.gone) [
      | inl b ↦ subst (λ (t : Bool). ConnFits x.world.plant
          (cond t x (record x { connection = record x.connection { bytes_taken = x.connection.bytes_taken + n } })).connection) (sym b) f
      | inr b ↦ subst (λ (t : Bool). ConnFits x.world.plant
          (cond t x (record x { connection = record x.connection { bytes_taken = x.connection.bytes_taken + n } })).connection) (sym b) f
    ]

tick-fits : (reading : DescriptionReading) (plant : Plant) (now : ℕ) (w : World) (k : Connection Client)
    → ConnFits plant k → ConnFits plant (connection_after_tick (ads_device reading) now w k)
unfolding connection_after_tick client_after_tick
tick-fits reading plant now w k f = go (is_deaf k) refl
  where
    o : ClientOutcome Client
    o = client_after_tick now w k.client

    go : (b : Bool) → is_deaf k ≡ b → ConnFits plant (cond b k (after_client_outcome o k))
    go true t = f
    go false t = λ heard. subst (FitsPlant plant) (sym (produce_all-client o.frames (with_client o.client k)))
        (record { handles = (f t).handles; watches = rested t })
      where
        rested : is_deaf k ≡ false → WatchesIn (IsNamed plant) o.client
        rested t = let same = tick-watches reading (IsNamed plant) now w (record k { closing = false; gone = false }) (f t).watches in
            subst (WatchesIn (IsNamed plant)) (produce_all-client o.frames (with_client o.client (record k { closing = false; gone = false }))) same

reload-fits : (reading : DescriptionReading) (now : ℕ) (old new : World) → IsSoundPlant old.plant → IsSoundPlant new.plant
    → (k : Connection Client) → ConnFits old.plant k → ConnFits new.plant (connection_after_reload (ads_device reading) now old new k)
unfolding connection_after_reload client_reloaded
reload-fits reading now old new so sn k f = go (is_deaf k) refl
  where
    o : ClientOutcome Client
    o = client_reloaded now old new k.client

    go : (b : Bool) → is_deaf k ≡ b → ConnFits new.plant (cond b k (after_client_outcome o k))
    go true t = λ heard. absurd (false≢true (sym heard ∙ t))
    go false t = λ heard. subst (FitsPlant new.plant) (sym (produce_all-client o.frames (with_client o.client k)))
        (client-kept old.plant new.plant so sn k.client (f t))

reload-good : (reading : DescriptionReading) (r : Result Description DescriptionFault) → ((d : Description) → r ≡ Ok d → IsSoundPlant (plant_of d))
    → (s : MachineState World Client) → Good s → Good (after_reload (ads_device reading) (reloading s.world r) s)
unfolding world_after_reload
reload-good reading (Err fault) h s g = record { sound = g.sound; memory = g.memory; all = g.all }
reload-good reading (Ok d) h s g =
    let new = world_after_reload s.world d in
    let sn = h d refl in
    record {
      sound = sn;
      memory = reload-alike (next_version s.world.version) s.world.plant (plant_of d) g.sound sn s.world.memory g.memory;
      all = map-fits s.world.plant (plant_of d) (connection_after_reload (ads_device reading) s.moment s.world new)
          (reload-fits reading s.moment s.world new g.sound sn) s.connections g.all;
    }

event-good : (reading : DescriptionReading) → ReadsAccepted reading
    → (s : MachineState World Client) (e : Event) → Good s → Good (state_after_event (ads_device reading) s e)
unfolding state_after_event world_after_tick
event-good reading h s (event.Opened n) g = record { sound = g.sound; memory = g.memory; all = push-fits s.world.plant n s.connections g.all }
event-good reading h s (event.Piece n bytes) g =
    exchange-good (after_piece (ads_device reading) bytes) (piece-goes reading bytes) (piece-fits reading bytes) s n (connection_of n s.connections) refl g
event-good reading h s (event.Closed n) g = exchange-good with_gone gone-goes gone-fits s n (connection_of n s.connections) refl g
event-good reading h s (event.Tick t) g =
    let w = world_after_tick s.world in
    let now = moment_of_tick t s in
    record {
      sound = g.sound;
      memory = alike_then w.memory s.world.memory _ (puts-alike (signal_puts s.world.plant.ports 0 s.world.signals) s.world.memory) g.memory;
      all = map-fits s.world.plant s.world.plant (connection_after_tick (ads_device reading) now w) (tick-fits reading s.world.plant now w) s.connections g.all;
    }
event-good reading h s (event.Reload bytes) g =
    reload-good reading (reading bytes (length s.world.signals))
    (λ d e. accepted_are_sound d (length s.world.signals) (h bytes (length s.world.signals) d e)) s g
event-good reading h s (event.Writable n) g = g

move-good : (reading : DescriptionReading) → ReadsAccepted reading
    → (s : MachineState World Client) (m : Move) → Good s → Good (state_after_move (server_step reading) s m)
unfolding state_after_move
move-good reading h s (move.Event e) g = event-good reading h s e g
move-good reading h s (move.Took n offered bytes) g =
    exchange-good (with_took (length bytes)) (took-goes (length bytes)) (took-fits (length bytes)) s n (connection_of n s.connections) refl g
move-good reading h s (move.Lost n) g = exchange-good with_gone gone-goes gone-fits s n (connection_of n s.connections) refl g
move-good reading h s (move.Shut n) g = exchange-good with_gone gone-goes gone-fits s n (connection_of n s.connections) refl g

log-good : (reading : DescriptionReading) → ReadsAccepted reading
    → (log : List Move) (s : MachineState World Client) → Good s → Good (state_after (server_step reading) s log)
unfolding state_after
log-good reading h [] s g = g
log-good reading h (m ∷ ms) s g = log-good reading h ms (state_after_move (server_step reading) s m) (move-good reading h s m g)

-- what is named is there, in a memory that is alike

watch-there : (plant : Plant) (m : List Block) → Alike m (first_memory FIRST_VERSION plant)
    → (as_ : List Addressed) → Each (IsNamed plant) (map addressed_name as_) → Each (IsThereAt m) as_
watch-there plant m a [] e = tt
watch-there plant m a (x ∷ xs) e =
    let n = addressed_name x in
    let l = a.same n.port n.part in
    let h = e.0 in
    (there_by_length m n (omega (arith, l, h)), watch-there plant m a xs (e.1))

watches-there : (plant : Plant) (m : List Block) → Alike m (first_memory FIRST_VERSION plant)
    → (ws : List (Watch (List Addressed))) → Each (WatchIn (IsNamed plant)) ws → Each (IsWatchThere m) ws
watches-there plant m a [] e = tt
watches-there plant m a (w ∷ ws) e = (watch-there plant m a w.watched (e.0), watches-there plant m a ws (e.1))

each-there : (w : World) → Alike w.memory (first_memory FIRST_VERSION w.plant) → (ks : List (Connection Client)) → Each (ConnFits w.plant) ks
    → Each (ConnectionFits w) ks
each-there w a [] e = tt
each-there w a (k ∷ ks) e = (
  λ heard. record { handles = (e.0 heard).handles; watches = watches-there w.plant w.memory a k.client.watches (e.0 heard).watches },
  each-there w a ks (e.1),
)

all-fits : (s : MachineState World Client) → Good s → AllFits s
all-fits s g = record {
  bytes = λ p a i e l.
      let n = name_at p a i in
      let same = g.memory.same n.port n.part in
      let named = area-named s.world.plant g.sound p e a i l in
      there_by_length s.world.memory n (omega (arith, same, named));
  connections = each-there s.world g.memory s.connections g.all;
}

pub every_state_fits : EveryStateFits
every_state_fits reading h profile d signals accepted log =
    let sound = accepted_are_sound d (length signals) accepted in
    all-fits (state_after (server_step reading) (start_in profile d signals) log)
    (log-good reading h log (start_in profile d signals) (record { sound = sound; memory = alike_itself (first_memory FIRST_VERSION (plant_of d)); all = tt }))
