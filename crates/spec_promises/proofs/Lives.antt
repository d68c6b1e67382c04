-- The life of a notification along a log.
use Rattle.std.proofs.Common.{◌≡◌, ◌⊎◌, ℕ, ◌-◌, ◌≤◌, List, [], ◌∷◌, ◌++◌, map, length, Bool, true, false, cond, refl, sym, ◌∙◌, ap, subst, inl, inr, arith}
use Rattle.std.specs.Prelude.{Option, Some, None, Result, Ok, Err, ◌==◌, ◌&&◌, not, max, nat_le, bytes_eq, option_map}
use Rattle.std.specs.Option.{option_map_or}
use Rattle.std.proofs.lemmas.Bool.{cases_Bool, cases_eq, false≢true, or_right, eqb-true, leb-true, leb-false}
use Rattle.std.proofs.lemmas.Slice.Eq.{bytes_eq-Decides}
use Rattle.signals.specs.Wave.{Wave}
use Rattle.ads_outside.specs.declared.event.Event.TheVariants as event
use Rattle.ads_outside.specs.declared.moves.Move.{Move}
use Rattle.ads_outside.specs.declared.moves.Move.TheVariants as move
use Rattle.spec_plant.specs.Description.{Description}
use Rattle.spec_formats.specs.Header.{AmsAddress}
use Rattle.spec_machine.specs.Profile.{Profile, strict}
use Rattle.spec_machine.specs.Device.{ClientOutcome, DescriptionFault}
use Rattle.spec_machine.specs.Connection.{Connection, connection_of, fresh_connection, is_deaf}
use Rattle.spec_machine.specs.MachineState.{MachineState, Exchange, exchange_of, after_exchange}
use Rattle.spec_machine.specs.Piece.{with_client, after_piece}
use Rattle.spec_machine.specs.Moves.{with_gone, with_took, state_after_move, state_after}
use Rattle.spec_machine.specs.Events.{after_client_outcome, moment_of_tick, connection_after_tick, connection_after_reload, after_reload, state_after_event}
use Rattle.spec_machine.specs.World.{World}
use Rattle.spec_machine.specs.Access.{Addressed, values_at}
use Rattle.spec_machine.specs.Watches.{Watch, Mode, Cyclic, OnChange, checked_watch, AddressedSample, addressed_sample, samples_of, watches_after_reload}
use Rattle.spec_machine.specs.Client.{Client, new_client, client_after_reload}
use Rattle.spec_machine.specs.Ticks.{world_after_tick, client_after_tick}
use Rattle.spec_machine.specs.Reloads.{is_kept, world_after_reload, client_reloaded}
use Rattle.spec_machine.specs.AdsDevice.{reloading}
use Rattle.spec_machine.proofs.Find.{or_else, connection_of-append, connection_of-map}
use Rattle.spec_machine.proofs.Growth.{after_piece-grows, connection_after_tick-grows, connection_after_reload-grows}
use Rattle.spec_machine.proofs.Changes.{KeepsNumber, exchange_own, exchange_other, with_gone-number, with_took-number, state_after-append}
use Rattle.spec_machine.proofs.Carried.{took-cases}
use Rattle.spec_laws.specs.Rising.{AreRising, WatchesRise}
use Rattle.spec_laws.proofs.Exchanges.{produce_all-client}
use Rattle.spec_laws.proofs.Risen.{handles_rise}
use Rattle.spec_server.specs.Server.{read_description, server_device, server, start_in, server_after_in}
use Rattle.spec_promises.specs.Notified.{watch_numbered, watch_of, watch_at, given_to, TickSeen, seen_at, life_of}
use Rattle.spec_promises.specs.Notified.{GivesByCycle, IsByCycle, GivesOnChange, IsOnChange, ServerNotifies, EachNotifies}
use Rattle.spec_promises.specs.Asked.{asked_of_piece}
use Rattle.spec_promises.proofs.AskedLemmas.{piece-takes}
use Rattle.spec_promises.proofs.Found.{requests-keep, found-checked, bytes-found, reload-found}

-- what becomes of a notification: it is this one, or there no more
abbrev Next : ℕ → Watch (List Addressed) → Option (Connection Client) → Type 0
Next h w o = (watch_of h o ≡ Some w) ⊎ (watch_of h o ≡ None)

-- one that is there is of a connection that is heard
record Lives (h : ℕ) (w : Watch (List Addressed)) (k : Connection Client) : Type 0 where
  heard : is_deaf k ≡ false
  found : watch_numbered h k.client.watches ≡ Some w

lives : (h : ℕ) (w : Watch (List Addressed)) (k : Connection Client) → watch_of h (Some k) ≡ Some w → Lives h w k
lives h w k e =
    elim (cases_Bool (is_deaf k)) [
      | inl t ↦ let f : None ≡ Some w = rw t at e in cc
      | inr t ↦ record { heard = t; found = rw t at e }
    ]

of_client : (h : ℕ) (w : Watch (List Addressed)) (k : Connection Client)
    → (watch_numbered h k.client.watches ≡ Some w) ⊎ (watch_numbered h k.client.watches ≡ None) → Next h w (Some k)
of_client h w k e = go (is_deaf k) e
  where
    go : (b : Bool) → (watch_numbered h k.client.watches ≡ Some w) ⊎ (watch_numbered h k.client.watches ≡ None)
        → (cond b None (watch_numbered h k.client.watches) ≡ Some w) ⊎ (cond b None (watch_numbered h k.client.watches) ≡ None)
    go true e = inr refl
    go false e = e

piece-next : (h : ℕ) (w : Watch (List Addressed)) (bytes : List ℕ) (x : Exchange World Client) → watch_of h (Some x.connection) ≡ Some w
    → h ≤ x.connection.client.additions
    → Next h w (Some (after_piece server_device bytes x).connection)
piece-next h w bytes x e l =
    let y = after_piece server_device bytes x in
    let t = piece-takes bytes x in
    let still = requests-keep h w (asked_of_piece bytes x) x.connection.client y.connection.client t.clients
    (record { there = inl (lives h w x.connection e).found; known = l }) in
    of_client h w y.connection still.there

gone-next : (h : ℕ) (w : Watch (List Addressed)) (x : Exchange World Client) → Next h w (Some (with_gone x).connection)
gone-next h w x = let t = or_right x.connection.closing true refl in inr (rw t refl)

-- a tick
tick-next : (h : ℕ) (w : Watch (List Addressed)) (now : ℕ) (v : World) (k : Connection Client) → watch_of h (Some k) ≡ Some w
    → Next h (checked_watch now (values_at v.memory w.watched) w) (Some (connection_after_tick server_device now v k))
unfolding connection_after_tick client_after_tick
tick-next h w now v k e =
    let alive = lives h w k e in
    let o : ClientOutcome Client = client_after_tick now v k.client in
    let l : Connection Client = after_client_outcome o k in
    let same = produce_all-client o.frames (with_client o.client k) in
    let found : watch_numbered h o.client.watches ≡ Some (checked_watch now (values_at v.memory w.watched) w) =
    found-checked v.memory now h k.client.watches w alive.found in
    let there = subst (λ (c : Client). watch_numbered h c.watches ≡ Some (checked_watch now (values_at v.memory w.watched) w)) (sym same) found in
    let t = alive.heard in
    rw t (of_client h (checked_watch now (values_at v.memory w.watched) w) l (inl there))

-- a reload
reload-next : (h : ℕ) (w : Watch (List Addressed)) (moment : ℕ) (old new : World) (k : Connection Client) → watch_of h (Some k) ≡ Some w → WatchesRise k.client
    → Next h w (Some (connection_after_reload server_device moment old new k))
unfolding connection_after_reload client_reloaded client_after_reload watches_after_reload
reload-next h w moment old new k e r =
    let alive = lives h w k e in
    let o : ClientOutcome Client = client_reloaded moment old new k.client in
    let l : Connection Client = after_client_outcome o k in
    let same = produce_all-client o.frames (with_client o.client k) in
    let found : (watch_numbered h o.client.watches ≡ Some w) ⊎ (watch_numbered h o.client.watches ≡ None) =
    reload-found (is_kept old.plant new.plant) h 0 k.client.watches k.client.additions w r alive.found in
    let P : Client → Type 0 = λ c. (watch_numbered h c.watches ≡ Some w) ⊎ (watch_numbered h c.watches ≡ None) in
    let t = alive.heard in
    rw t (of_client h w l (subst P (sym same) found))

-- the connection of a number after an exchange with one
local-next : (P : Option (Connection Client) → Type 0) (c n : ℕ) (f : Exchange World Client → Exchange World Client) → KeepsNumber f
    → (s : MachineState World Client) (k : Connection Client)
    → connection_of c s.connections ≡ Some k → P (Some k) → P (Some (f (exchange_of s k)).connection)
    → P (connection_of c (after_exchange (connection_of n s.connections) f s).connections)
local-next P c n f same s k e here there =
    elim (cases_eq n c) [
      | inr ne ↦ subst P (sym (exchange_other c n f same ne s)) (subst P (sym e) here)
      | inl q ↦
          let Q : ℕ → Type 0 = λ i. P (connection_of c (after_exchange (connection_of i s.connections) f s).connections) in
          subst Q (sym q) (subst P (sym (exchange_own c f same s k e)) there)
    ]

-- a notification after a move: a tick has checked it
abbrev watch_after_move : MachineState World Client → Move → Watch (List Addressed) → Watch (List Addressed)
watch_after_move s (move.Event (event.Tick t)) w = checked_watch (moment_of_tick t s) (values_at (world_after_tick s.world).memory w.watched) w
watch_after_move s m w = w

reloaded-next : (h : ℕ) (w : Watch (List Addressed)) (c : ℕ) (s : MachineState World Client) (k : Connection Client) (r : Result Description DescriptionFault)
    → connection_of c s.connections ≡ Some k → watch_of h (Some k) ≡ Some w → WatchesRise k.client
    → Next h w (connection_of c (after_reload server_device (reloading s.world r) s).connections)
reloaded-next h w c s k (Err fault) e there rise = subst (Next h w) (sym e) (inl there)
reloaded-next h w c s k (Ok d) e there rise =
    let device = server_device in
    let new = world_after_reload s.world d in
    let f = connection_after_reload device s.moment s.world new in
    subst (Next h w) (sym (connection_of-map c f (λ l. (connection_after_reload-grows device s.moment s.world new l).number) s.connections
    ∙ ap (option_map f) e))
    (reload-next h w s.moment s.world new k there rise)

move-next : (h : ℕ) (w : Watch (List Addressed)) (c : ℕ) (s : MachineState World Client) (k : Connection Client) (m : Move)
    → connection_of c s.connections ≡ Some k → watch_of h (Some k) ≡ Some w → WatchesRise k.client → h ≤ k.client.additions
    → Next h (watch_after_move s m w) (connection_of c (state_after_move server s m).connections)
unfolding state_after_move state_after_event
move-next h w c s k (move.Event (event.Opened n)) e there rise l =
    subst (Next h w) (sym (connection_of-append c s.connections (fresh_connection new_client n ∷ [])
    ∙ ap (λ o. or_else o (connection_of c (fresh_connection new_client n ∷ []))) e)) (inl there)
move-next h w c s k (move.Event (event.Piece n bytes)) e there rise l =
    let device = server_device in
    local-next (Next h w) c n (after_piece device bytes) (λ x. (after_piece-grows device bytes x).number) s k e (inl there)
    (piece-next h w bytes (exchange_of s k) there l)
move-next h w c s k (move.Event (event.Closed n)) e there rise l =
    local-next (Next h w) c n with_gone with_gone-number s k e (inl there) (gone-next h w (exchange_of s k))
move-next h w c s k (move.Event (event.Tick t)) e there rise l =
    let device = server_device in
    let now = moment_of_tick t s in
    let v = world_after_tick s.world in
    let f = connection_after_tick device now v in
    subst (Next h (checked_watch now (values_at v.memory w.watched) w))
    (sym (connection_of-map c f (λ l. (connection_after_tick-grows device now v l).number) s.connections ∙ ap (option_map f) e))
    (tick-next h w now v k there)
move-next h w c s k (move.Event (event.Reload bytes)) e there rise l = reloaded-next h w c s k (read_description bytes (length s.world.signals)) e there rise
move-next h w c s k (move.Event (event.Writable n)) e there rise l = subst (Next h w) (sym e) (inl there)
move-next h w c s k (move.Took n offered bytes) e there rise l =
    local-next (Next h w) c n (with_took (length bytes)) (with_took-number (length bytes)) s k e (inl there)
    (took-cases (λ (x : Connection Client). Next h w (Some x)) (length bytes) (exchange_of s k) (inl there) (inl there))
move-next h w c s k (move.Lost n) e there rise l = local-next (Next h w) c n with_gone with_gone-number s k e (inl there) (gone-next h w (exchange_of s k))
move-next h w c s k (move.Shut n) e there rise l = local-next (Next h w) c n with_gone with_gone-number s k e (inl there) (gone-next h w (exchange_of s k))

-- what a life from this check on gives

abbrev FollowsFrom : Mode → ℕ → Option ℕ → List ℕ → List TickSeen → Type 0
FollowsFrom Cyclic cycle None sent life = IsByCycle cycle life
FollowsFrom Cyclic cycle (Some last) sent life = GivesByCycle cycle last life
FollowsFrom OnChange cycle None sent life = IsOnChange cycle life
FollowsFrom OnChange cycle (Some last) sent life = GivesOnChange cycle last sent life

abbrev Follows : Watch (List Addressed) → List TickSeen → Type 0
Follows w life = FollowsFrom w.mode w.cycle w.last w.sent life

nothing_follows : (mode : Mode) (cycle : ℕ) (last : Option ℕ) (sent : List ℕ) → FollowsFrom mode cycle last sent []
nothing_follows Cyclic cycle None sent = tt
nothing_follows Cyclic cycle (Some last) sent = tt
nothing_follows OnChange cycle None sent = tt
nothing_follows OnChange cycle (Some last) sent = tt

abbrev sample_bytes_of : List AddressedSample → List (List ℕ)
sample_bytes_of samples = map (λ (s : AddressedSample). s.sample.bytes) samples

abbrev seen : ℕ → List ℕ → List AddressedSample → TickSeen
seen now found samples = record { moment = now; found = found; given = sample_bytes_of samples }

tick-follows : (handle port : ℕ) (address : AmsAddress) (watched : List Addressed) (mode : Mode) (cycle : ℕ) (last : Option ℕ) (sent : List ℕ) (now : ℕ)
    (found : List ℕ) (rest : List TickSeen)
    → Follows (checked_watch now found (record
    { handle = handle; port = port; address = address; watched = watched; mode = mode; cycle = cycle; last = last; sent = sent })) rest
    → FollowsFrom mode cycle last sent (seen now found
    (samples_of now found (record {
      handle = handle;
      port = port;
      address = address;
      watched = watched;
      mode = mode;
      cycle = cycle;
      last = last;
      sent =
          sent;
    })) ∷ rest)
tick-follows handle port address watched Cyclic cycle None sent now found rest r = (refl, r)
tick-follows handle port address watched OnChange cycle None sent now found rest r = (refl, r)
tick-follows handle port address watched Cyclic cycle (Some last) sent now found rest r = go (nat_le (max cycle 1) (now - last)) refl r
  where
    w : Watch (List Addressed)
    w = record { handle = handle; port = port; address = address; watched = watched; mode = Cyclic; cycle = cycle; last = Some last; sent = sent }

    go : (d : Bool) → nat_le (max cycle 1) (now - last) ≡ d → Follows (cond d (record w { last = Some now; sent = found }) w) rest
        → GivesByCycle cycle last (seen now found (cond (d && true) (addressed_sample found w ∷ []) []) ∷ rest)
    go true t r = let l = leb-true (max cycle 1) (now - last) t in inl (refl, omega (arith, l), r)
    go false t r = let l = leb-false (max cycle 1) (now - last) t in inr (refl, omega (arith, l), r)
tick-follows handle port address watched OnChange cycle (Some last) sent now found rest r =
    go (nat_le (max cycle 1) (now - last)) (bytes_eq found sent) refl refl r
  where
    w : Watch (List Addressed)
    w = record { handle = handle; port = port; address = address; watched = watched; mode = OnChange; cycle = cycle; last = Some last; sent = sent }

    go : (d e : Bool) → nat_le (max cycle 1) (now - last) ≡ d → bytes_eq found sent ≡ e
        → Follows (cond d (cond (not e) (record w { last = Some now; sent = found }) (record w { last = Some now })) w) rest
        → GivesOnChange cycle last sent (seen now found (cond (d && not e) (addressed_sample found w ∷ []) []) ∷ rest)
    go true true u t r =
        let l = leb-true (max cycle 1) (now - last) u in
        let told = bytes_eq-Decides found sent in
        inr (inl (refl, told.0 t, omega (arith, l), r))
    go true false u t r =
        let l = leb-true (max cycle 1) (now - last) u in
        let told = bytes_eq-Decides found sent in
        inl (refl, (λ q. false≢true (sym t ∙ told.1 q)), omega (arith, l), r)
    go false e u t r = let l = leb-false (max cycle 1) (now - last) u in inr (inr (refl, omega (arith, l), r))

-- what a move shows of it
seen-follows : (c h : ℕ) (s : MachineState World Client) (w : Watch (List Addressed)) (k : Connection Client) (m : Move) (rest : List TickSeen)
    → connection_of c s.connections ≡ Some k → watch_of h (Some k) ≡ Some w → WatchesRise k.client
    → Follows (watch_after_move s m w) rest → Follows w (seen_at c h s m w ++ rest)
seen-follows c h s w k (move.Event (event.Tick t)) rest e there rise r =
    let alive = lives h w k there in
    let now = moment_of_tick t s in
    let memory = (world_after_tick s.world).memory in
    let found = values_at memory w.watched in
    let heard = alive.heard in
    let own : given_to h memory now (Some k) ≡ sample_bytes_of (samples_of now found w) =
    rw heard (bytes-found memory now h 0 k.client.watches k.client.additions w rise alive.found) in
    let given : given_to h memory now (connection_of c s.connections) ≡ sample_bytes_of (samples_of now found w) = ap (given_to h memory now) e ∙ own in
    subst (λ (g : List (List ℕ)). Follows w (record { moment = now; found = found; given = g } ∷ rest)) (sym given)
    (tick-follows w.handle w.port w.address w.watched w.mode w.cycle w.last w.sent now found rest r)
seen-follows c h s w k m rest e there rise r = r

ended : (c h : ℕ) (s : MachineState World Client) (ms : List Move) → watch_at c h s ≡ None → life_of c h s ms ≡ []
unfolding life_of
ended c h s [] e = refl
ended c h s (m ∷ ms) e = rw e refl

-- one more move
pub after_one : (profile : Profile) (d : Description) (waves : List Wave) (log : List Move) (m : Move)
    → server_after_in profile d waves (log ++ m ∷ []) ≡ state_after_move server (server_after_in profile d waves log) m
unfolding state_after
after_one profile d waves log m = state_after-append server log (m ∷ []) (start_in profile d waves)

-- its number was given
known : (h low : ℕ) (ws : List (Watch (List Addressed))) (high : ℕ) (w : Watch (List Addressed)) → AreRising low ws high → watch_numbered h ws ≡ Some w
    → h ≤ high
known h low [] high w r e = cc
known h low (x ∷ xs) high w r e =
    elim (cases_Bool (x.handle == h)) [
      | inl t ↦ let is = eqb-true x.handle h t in let l = within x.handle xs high (r.1) in omega (arith, is, l)
      | inr t ↦ let f : watch_numbered h xs ≡ Some w = rw t at e in known h x.handle xs high w (r.1) f
    ]
  where
    within : (low : ℕ) (ws : List (Watch (List Addressed))) (high : ℕ) → AreRising low ws high → low ≤ high
    within low [] high r = r
    within low (x ∷ xs) high r = let a = r.0 in let l = within x.handle xs high (r.1) in omega (arith, a, l)

life-follows : (profile : Profile) (d : Description) (waves : List Wave) (ms log : List Move) (c h : ℕ) (w : Watch (List Addressed))
    → watch_at c h (server_after_in profile d waves log) ≡ Some w → Follows w (life_of c h (server_after_in profile d waves log) ms)
unfolding life_of
life-follows profile d waves [] log c h w e = nothing_follows w.mode w.cycle w.last w.sent
life-follows profile d waves (m ∷ ms) log c h w e =
    go (λ v there. life-follows profile d waves ms (log ++ m ∷ []) c h v there) (connection_of c (server_after_in profile d waves log).connections) refl e
  where
    s : MachineState World Client
    s = server_after_in profile d waves log

    t : MachineState World Client
    t = state_after_move server s m

    one_more : MachineState World Client
    one_more = server_after_in profile d waves (log ++ m ∷ [])

    later : ((v : Watch (List Addressed)) → watch_at c h one_more ≡ Some v → Follows v (life_of c h one_more ms)) → (v : Watch (List Addressed))
        → Next h v (connection_of c t.connections) → Follows v (life_of c h t ms)
    later rest v (inl there) =
        let same = after_one profile d waves log m in
        let P : MachineState World Client → Type 0 = λ x. Follows v (life_of c h x ms) in
        let Q : MachineState World Client → Type 0 = λ x. watch_at c h x ≡ Some v in
        subst P same (rest v (subst Q (sym same) there))
    later rest v (inr none) = subst (Follows v) (sym (ended c h t ms none)) (nothing_follows v.mode v.cycle v.last v.sent)

    go : ((v : Watch (List Addressed)) → watch_at c h one_more ≡ Some v → Follows v (life_of c h one_more ms)) → (o : Option (Connection Client))
        → connection_of c s.connections ≡ o → watch_of h o ≡ Some w
        → Follows w (option_map_or (λ (v : Watch (List Addressed)). seen_at c h s m v ++ life_of c h t ms) (watch_at c h s) [])
    go rest None q there = cc
    go rest (Some k) q there =
        let rise = (handles_rise read_description profile d waves log c k q).watches in
        let l = known h 0 k.client.watches k.client.additions w rise (lives h w k there).found in
        let next = later rest (watch_after_move s m w) (move-next h w c s k m q there rise l) in
        let is : watch_at c h s ≡ Some w = ap (watch_of h) q ∙ there in
        rw is (seen-follows c h s w k m (life_of c h t ms) q there rise next)

pub each_notifies : EachNotifies
each_notifies profile d waves before after c h w there first =
    let follows = life-follows profile d waves after before c h w there in
    let life = life_of c h (server_after_in profile d waves before) after in
    let from : FollowsFrom w.mode w.cycle None w.sent life = subst (λ (o : Option ℕ). FollowsFrom w.mode w.cycle o w.sent life) first follows in
    record {
      cyclic = λ q. subst (λ (m : Mode). FollowsFrom m w.cycle None w.sent life) q from;
      on_change = λ q. subst (λ (m : Mode). FollowsFrom m w.cycle None w.sent life) q from;
    }

pub server_notifies : ServerNotifies
server_notifies d waves before after c h w there first = each_notifies strict d waves before after c h w there first
