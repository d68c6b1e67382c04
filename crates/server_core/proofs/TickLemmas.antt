-- A tick: the world, then each connection.
use Rattle.std.proofs.Common.{◌≡◌, ℕ, zero, suc, ◌<◌, ◌^◌, List, [], ◌∷◌, length, map, get_or, false, refl, sym, ap, ◌∙◌, subst, arith}
use Rattle.std.specs.Prelude.{All, max}
use Rattle.std.proofs.lemmas.List.{length-map}
use Rattle.signals.specs.Wave.{Wave, wave_after_step}
use Rattle.ads_outside.specs.declared.event.Event.TheVariants as event
use Rattle.spec_plant.specs.World.{Plant}
use Rattle.spec_machine.specs.Events.{state_after_event, connection_after_tick}
use Rattle.spec_machine.specs.Moves.{state_after_move}
use Rattle.spec_machine.specs.Ticks.{world_after_tick, client_after_tick}
use Rattle.port_device.specs.Holds.{HoldsPorts}
use Rattle.port_device.specs.PortMemory.{PortsMemory}
use Rattle.session.specs.Served.{IsServed}
use Rattle.session.specs.StandsFor.{StandsFor}
use Rattle.server_core.specs.declared.device.Device.{Device}
use Rattle.server_core.specs.declared.turned.Turned.{Turned}
use Rattle.server_core.specs.Asked.{EachAsked}
use Rattle.server_core.specs.Columns.{skipped}
use Rattle.server_core.specs.CoreState.{CoreState, after_event}
use Rattle.server_core.specs.Delivering.{Outcomes, after_given, DeliversAll}
use Rattle.server_core.specs.HoldsWorld.{HoldsState}
use Rattle.server_core.specs.Served.{served, World, ServedConnection, ServedState}
use Rattle.server_core.specs.ServerView.{ServerView, sessions_of}
use Rattle.server_core.specs.Serves.{EachClient, ServesEach, ServesSome, FollowsEach}
use Rattle.connections.specs.Carries.{EachBeside}
use Rattle.connections.specs.Present.{present}
use Rattle.server_core.proofs.AddressLemmas.{same_address}
use Rattle.server_core.proofs.AskedLemmas.{IsMarked, all_follow, counted_all, marked_skipped, sessions_skipped}

-- what holds of the first and of the others
pub all_cons : {X : Type 0} (P : X → Type 0) (x : X) (xs : List X) → P x → All P xs → (k : ℕ) (d : X) → k < length (x ∷ xs) → P (get_or (x ∷ xs) k d)
all_cons P x xs p ps zero d below = p
all_cons P x xs p ps (suc k) d below = ps k d (omega (arith, below))

-- each session that is not left out is served over a world of the same plant
served_each : (plant : Plant) (w : World) (ports : PortsMemory) (ts : List Turned) (ps : List ServedConnection)
    → HoldsPorts w ports → w.plant ≡ plant → EachBeside IsMarked ts ps → EachClient plant (sessions_of ts) ps
    → All (λ (t : Turned). t.skip ≡ false → IsServed ports t.session) ts
served_each plant w ports [] ps held same marks clients = λ k d below. absurd (omega (arith, below))
served_each plant w ports (t ∷ ts) [] held same marks clients = absurd marks
served_each plant w ports (t ∷ ts) (p ∷ ps) held same marks clients =
    all_cons (λ (t : Turned). t.skip ≡ false → IsServed ports t.session) t ts
    (λ open_. record {
      world = w;
      client = p.client;
      held = held;
      stands = subst (λ (q : Plant). StandsFor q p.client t.session) (sym same) (clients.0 (sym marks.0 ∙ open_));
    })
    (served_each plant w ports ts ps held same marks.1 clients.1)

-- a tick keeps the plant and the profile, and steps each signal
pub tick_plant : (w : World) → (world_after_tick w).plant ≡ w.plant
unfolding world_after_tick
tick_plant w = refl

tick_profile : (w : World) → (world_after_tick w).profile ≡ w.profile
unfolding world_after_tick
tick_profile w = refl

pub tick_signals : (w : World) → (world_after_tick w).signals ≡ map wave_after_step w.signals
unfolding world_after_tick
tick_signals w = refl

-- the state after a tick
abbrev pub ticked : ℕ → CoreState → ServedState
ticked t x =
    let s = x.state in
    let moment = max s.moment t in
    let world = world_after_tick s.world in
    record s { world = world; moment = moment; connections = map (after_given (client_after_tick moment world)) s.connections }

tick_is : (t : ℕ) (x : CoreState) → after_event x (event.Tick t) ≡ record { state = ticked t x; blocked = x.blocked }
unfolding state_after_move state_after_event connection_after_tick served
tick_is t x = refl

-- the device after a tick
pub record TicksDevice (old new : Device) (waves : List Wave) (t : ℕ) : Type 0 where
  pub net : new.net ≡ old.net
  pub admission : new.admission ≡ old.admission
  pub signals : new.signals ≡ old.signals
  pub moment : new.moment ≡ max old.moment t
  pub ports : (w : World) → HoldsPorts w old.ports → w.signals ≡ waves → HoldsPorts (world_after_tick w) new.ports

-- the ports hold the world after the tick
pub ticked_ports : (old new : Device) (waves : List Wave) (t : ℕ) (s : ServedState)
    → TicksDevice old new waves t → HoldsState old waves s → HoldsPorts (world_after_tick s.world) new.ports
ticked_ports old new waves t s ticks held = ticks.ports s.world held.world.ports held.signals

ticked_device : (old new : Device) (waves ws : List Wave) (t : ℕ) (x : CoreState) → TicksDevice old new waves t
    → ws ≡ map wave_after_step waves → HoldsState old waves x.state → HoldsState new ws (ticked t x)
ticked_device old new waves ws t x ticks steps held =
    let w = x.state.world in
    record {
      world = record {
        ports = ticked_ports old new waves t x.state ticks held;
        address = same_address w (world_after_tick w) old.net new.net old.admission new.admission (tick_plant w) (tick_profile w) ticks.net
            ticks.admission held.world.address;
      };
      signals = tick_signals w ∙ ap (map wave_after_step) held.signals ∙ sym steps;
      count = ticks.signals ∙ held.count ∙ sym (ap (λ (vs : List Wave). length vs) steps ∙ length-map waves wave_after_step);
      few = subst (λ (m : ℕ). m < 2 ^ 32) (sym (ap (λ (vs : List Wave). length vs) steps ∙ length-map waves wave_after_step)) held.few;
      moment = ticks.moment ∙ ap (λ m. max m t) held.moment;
    }

pub tick_follows : (v w : ServerView) (waves ws : List Wave) (x : CoreState) (t : ℕ) (ts us zs : List Turned)
    → ServesEach v waves x → v.sessions ≡ sessions_of ts → TicksDevice v.device w.device waves t → ws ≡ map wave_after_step waves
    → ((u : World) → HoldsPorts u w.device.ports → u.plant.net ≡ w.device.net.bytes
    → EachAsked u.plant u.plant (client_after_tick w.device.moment u) (skipped v.outlets ts) us)
    → DeliversAll us zs v.outlets w.outlets v.summary w.summary → w.streams ≡ v.streams → w.sessions ≡ sessions_of zs
    → FollowsEach v w ws x (after_event x (event.Tick t))
tick_follows v w waves ws x t ts us zs serves sessions ticks steps asked delivers streams new_sessions =
    let y = ticked t x in
    let list = skipped v.outlets ts in
    let outcome : Outcomes = client_after_tick y.moment y.world in
    let device = ticked_device v.device w.device waves ws t x ticks steps serves.device in
    let moment : w.device.moment ≡ y.moment = device.moment in
    let each = asked y.world device.world.ports device.world.address.net_is in
    let here : EachAsked x.state.world.plant y.world.plant outcome list us =
    subst (λ (p : Plant). EachAsked p y.world.plant outcome list us) (tick_plant x.state.world)
    (subst (λ (m : ℕ). EachAsked y.world.plant y.world.plant (client_after_tick m y.world) list us) moment each) in
    let all = all_follow v w v.summary waves ws x outcome y ts us zs serves sessions here delivers streams new_sessions device refl in
    subst (λ (z : CoreState). FollowsEach v w ws x z) (sym (tick_is t x))
    (record { serves = all.serves; counted = counted_all outcome v.summary w.summary x.state y refl refl refl all.counted })

-- the condition of the check, before it is known which state the core stands for
pub tick_served : (v : ServerView) (device : Device) (waves : List Wave) (t : ℕ) (ts us : List Turned)
    → ServesSome v waves → v.sessions ≡ sessions_of ts → TicksDevice v.device device waves t → us ≡ skipped v.outlets ts
    → All (λ (u : Turned). u.skip ≡ false → IsServed device.ports u.session) us
tick_served v device waves t ts us some sessions ticks same =
    let s = some.serves in
    let x = some.state in
    let plant = x.state.world.plant in
    let ps = present x.state.connections in
    let clients : EachClient plant (sessions_of ts) ps = subst (λ ss. EachClient plant ss ps) sessions s.clients in
    subst (λ (us : List Turned). All (λ (u : Turned). u.skip ≡ false → IsServed device.ports u.session) us) (sym same)
    (served_each plant (world_after_tick x.state.world) device.ports (skipped v.outlets ts) ps
    (ticked_ports v.device device waves t x.state ticks s.device) (tick_plant x.state.world)
    (marked_skipped plant v.outlets ts ps s.outlets.each clients)
    (subst (λ ss. EachClient plant ss ps) (sym (sessions_skipped v.outlets ts)) clients))
