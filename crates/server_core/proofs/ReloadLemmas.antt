-- A reload: refused, it is counted; accepted, the world changes, and then each connection.
use Rattle.std.proofs.Common.{◌≡◌, ℕ, ◌+◌, List, [], ◌∷◌, ◌++◌, length, refl, sym, ap, ◌∙◌, subst, arith}
use Rattle.std.specs.Prelude.{All, false, Result, Ok, Err, IfOk}
use Rattle.signals.specs.Wave.{Wave}
use Rattle.ads_outside.specs.declared.event.Event.TheVariants as event
use Rattle.ads_outside.specs.declared.reload_note.ReloadNote.TheVariants as note
use Rattle.spec_plant.specs.Description.{Description}
use Rattle.spec_server.specs.Server.{read_description, read_of_verdict}
use Rattle.spec_machine.specs.AdsDevice.{reloading}
use Rattle.spec_machine.specs.Device.{DescriptionFault}
use Rattle.spec_machine.specs.Events.{state_after_event, after_reload, connection_after_reload}
use Rattle.spec_machine.specs.Moves.{state_after_move}
use Rattle.spec_machine.specs.Outcomes.{outcome_of_event, outcome_of_reload}
use Rattle.spec_machine.specs.Outcomes as machine
use Rattle.spec_machine.specs.RunText.{note_of}
use Rattle.spec_machine.specs.Summary.{count_of}
use Rattle.spec_machine.specs.Reloads.{world_after_reload, client_reloaded}
use Rattle.type_layout.specs.Descriptions.{description_of}
use Rattle.type_layout.specs.declared.description.Description as layout
use Rattle.symbol_file.specs.Reading.{IsVerdict}
use Rattle.symbol_file.specs.declared.fault.DescFault.{DescFault}
use Rattle.symbol_file.specs.declared.fault.DescFault.TheVariants.{Syntax, Rule}
use Rattle.spec_plant.specs.Rights.{rights_of}
use Rattle.spec_plant.specs.World.{Plant, plant_of}
use Rattle.spec_machine.specs.Profile.{Profile}
use Rattle.spec_machine.specs.NumberedPlaces.{AreKeptSymbols}
use Rattle.port_device.specs.Holds.{HoldsPorts}
use Rattle.port_device.specs.KeptSymbols.{kept_symbols_of}
use Rattle.port_device.specs.PortMemory.{PortsMemory}
use Rattle.symbol_table.specs.declared.kept.KeptPlace.{KeptPlace}
use Rattle.server_core.specs.declared.device.Device.{Device}
use Rattle.server_core.specs.declared.turned.Turned.{Turned}
use Rattle.server_core.specs.declared.clients.Clients.{Clients}
use Rattle.server_core.specs.declared.outcome.Outcome.{Outcome}
use Rattle.server_core.specs.declared.outcome.Outcome.TheVariants.{ReloadOk}
use Rattle.server_core.specs.declared.server.Server.{Server}
use Rattle.server_core.specs.declared.summary.Summary.{Summary}
use Rattle.server_core.specs.Asked.{EachAsked}
use Rattle.server_core.specs.Columns.{skipped}
use Rattle.server_core.specs.CoreState.{CoreState, after_event}
use Rattle.server_core.specs.Delivering.{Outcomes, DeliversAll}
use Rattle.server_core.specs.HoldsWorld.{HoldsState}
use Rattle.server_core.specs.Outcomes.{fault_of, outcome_of, TakesEvent}
use Rattle.server_core.specs.Reloading.{Refuses, reloaded, Exchanges, Accepts}
use Rattle.server_core.specs.Served.{served, World, ServedConnection, ServedState}
use Rattle.spec_machine.specs.WatchedRanges.{numbers_of}
use Rattle.session.specs.Reloading.{AreMoves, IsReloadable}
use Rattle.server_core.specs.ServerView.{ServerView, sessions_of, view_of}
use Rattle.server_core.specs.Serves.{EachClient, ServesEach, ServesSome, IsServing, FollowsEach}
use Rattle.connections.specs.Carries.{Carries, EachBeside, EachStream}
use Rattle.connections.specs.Outlets.{Outlets}
use Rattle.connections.specs.Present.{present}
use Rattle.server_core.proofs.AskedLemmas.{IsMarked, all_asked, all_follow, counted_all, marked_skipped, sessions_skipped}
use Rattle.server_core.proofs.ServeLemmas.{held_on}
use Rattle.server_core.proofs.TickLemmas.{all_cons}
use Rattle.server_core.proofs.SumLemmas.{counted_refused, counted_accepted}

-- the description that was read, or the fault
abbrev pub read_as : Result layout.Description DescFault → Result Description DescriptionFault
read_as (Ok d) = Ok (description_of d)
read_as (Err fault) = Err (fault_of fault)

pub reading_is : (answer : Result layout.Description DescFault) (n : ℕ) (text : List ℕ) → IsVerdict n text answer → read_description text n ≡ read_as answer
reading_is (Ok d) n text e = ap read_of_verdict (sym e)
reading_is (Err (Rule number item)) n text e = ap read_of_verdict (sym e)
reading_is (Err Syntax) n text e = ap read_of_verdict (sym e)

-- as many signals as the device counts
count_is : (v : ServerView) (waves : List Wave) (x : CoreState) → ServesEach v waves x → length x.state.world.signals ≡ v.device.signals
count_is v waves x s = ap (λ (ws : List Wave). length ws) s.device.signals ∙ sym s.device.count

-- a reload by what is read
reload_is : (text : List ℕ) (x : CoreState) (r : Result Description DescriptionFault) → read_description text (length x.state.world.signals) ≡ r
    → after_event x (event.Reload text) ≡ record { state = after_reload served (reloading x.state.world r) x.state; blocked = x.blocked }
unfolding state_after_move state_after_event served
reload_is text x r e = ap (λ q. record { state = after_reload served (reloading x.state.world q) x.state; blocked = x.blocked }) e

told_is : (text : List ℕ) (x : CoreState) (r : Result Description DescriptionFault) → read_description text (length x.state.world.signals) ≡ r
    → served.reload text x.state.world ≡ reloading x.state.world r
unfolding served
told_is text x r e = ap (reloading x.state.world) e

accepted_is : (d : Description) (x : CoreState) → after_reload served (reloading x.state.world (Ok d)) x.state ≡ reloaded d x
unfolding connection_after_reload served
accepted_is d x = refl

-- a refused reload
pub refuses_takes : (old new : Server) (waves : List Wave) (text : List ℕ)
    (answer : Result layout.Description DescFault) (fault : DescFault) (outcome : Outcome) → answer ≡ Err fault
    → IsVerdict old.device.signals text answer → Refuses old new fault outcome → ServesSome (view_of old) waves
    → TakesEvent (view_of old) (view_of new) waves waves (event.Reload text) outcome
refuses_takes old new waves text answer fault outcome is verdict refuses some = record {
  follows = λ x s opens. follows x s;
  told = λ x s. ap outcome_of refuses.outcome_is ∙ sym (ap (λ r. outcome_of_reload r) (told_is text x (Err (fault_of fault)) (reads x s)));
  noted = λ x s. refuses.notes ∙ ap (λ n. old.notes ++ n ∷ []) (sym (ap note_of (told_is text x (Err (fault_of fault)) (reads x s))));
  some = record { state = after_event some.state (event.Reload text); serves = (follows some.state some.serves).serves };
}
  where
    reads : (x : CoreState) → ServesEach (view_of old) waves x → read_description text (length x.state.world.signals) ≡ Err (fault_of fault)
    reads x s = ap (read_description text) (count_is (view_of old) waves x s) ∙ reading_is answer old.device.signals text verdict ∙ ap read_as is

    follows : (x : CoreState) → ServesEach (view_of old) waves x → FollowsEach (view_of old) (view_of new) waves x (after_event x (event.Reload text))
    follows x s =
        let y : ServedState = (let z = x.state in record z { refused = z.refused + 1 }) in
        subst (λ (z : CoreState). FollowsEach (view_of old) (view_of new) waves x z) (sym (reload_is text x (Err (fault_of fault)) (reads x s))) (record {
          serves = record {
            device = held_on old.device new.device waves x.state y refuses.device refl refl s.device;
            outlets = subst (λ (c : Clients). Carries c.outlets x.blocked x.state.connections) (sym refuses.clients) s.outlets;
            streams = subst (λ (c : Clients). EachStream c.streams.items (present x.state.connections)) (sym refuses.clients) s.streams;
            clients = subst (λ (c : Clients). EachClient x.state.world.plant (sessions_of c.sessions.items) (present x.state.connections))
                (sym refuses.clients) s.clients;
          };
          counted = counted_refused old.summary new.summary x.state y refl refuses.summary;
        })

-- an accepted one: what is kept after all were told and all frames are produced
pub accept_follows : (v w : ServerView) (s : Summary) (waves : List Wave) (x : CoreState) (d : Description) (ts us zs : List Turned)
    → ServesEach v waves x → v.sessions ≡ sessions_of ts → HoldsState w.device waves (reloaded d x)
    → EachAsked x.state.world.plant (reloaded d x).world.plant
    (client_reloaded x.state.moment x.state.world (reloaded d x).world) (skipped v.outlets ts) us
    → s ≡ (let t = v.summary in record t { accepted = count_of (t.accepted + 1) })
    → DeliversAll us zs v.outlets w.outlets s w.summary → w.streams ≡ v.streams → w.sessions ≡ sessions_of zs
    → FollowsEach v w waves x (record { state = reloaded d x; blocked = x.blocked })
accept_follows v w s waves x d ts us zs serves sessions device asked counts delivers streams new_sessions =
    let y = reloaded d x in
    let outcome : Outcomes = client_reloaded x.state.moment x.state.world y.world in
    let z : ServedState = (let q = x.state in record q { accepted = q.accepted + 1 }) in
    let all = all_follow v w s waves waves x outcome y ts us zs serves sessions asked delivers streams new_sessions device refl in
    record {
      serves = all.serves;
      counted = λ c. counted_all outcome s w.summary z y refl refl refl all.counted (counted_accepted v.summary s x.state z refl counts c);
    }

pub accepts_takes : (old new : Server) (waves : List Wave) (text : List ℕ)
    (answer : Result layout.Description DescFault) (d : layout.Description) (outcome : Outcome) → answer ≡ Ok d
    → IsVerdict old.device.signals text answer → Accepts old new (description_of d) outcome
    → ServesSome (view_of old) waves → TakesEvent (view_of old) (view_of new) waves waves (event.Reload text) outcome
accepts_takes old new waves text answer d outcome is verdict accepts some = record {
  follows = λ x s opens. follows x s;
  told = λ x s. ap outcome_of accepts.outcome_is ∙ ap machine.ReloadOk (accepts.version_is waves x s)
      ∙ sym (ap (λ r. outcome_of_reload r) (told_is text x (Ok (description_of d)) (reads x s)));
  noted = λ x s. accepts.notes ∙ ap (λ n. old.notes ++ note.Ok n ∷ []) (accepts.version_is waves x s)
      ∙ ap (λ n. old.notes ++ n ∷ []) (sym (ap note_of (told_is text x (Ok (description_of d)) (reads x s))));
  some = record { state = after_event some.state (event.Reload text); serves = (follows some.state some.serves).serves };
}
  where
    reads : (x : CoreState) → ServesEach (view_of old) waves x → read_description text (length x.state.world.signals) ≡ Ok (description_of d)
    reads x s = ap (read_description text) (count_is (view_of old) waves x s) ∙ reading_is answer old.device.signals text verdict ∙ ap read_as is

    follows : (x : CoreState) → ServesEach (view_of old) waves x → FollowsEach (view_of old) (view_of new) waves x (after_event x (event.Reload text))
    follows x s =
        subst (λ (z : CoreState). FollowsEach (view_of old) (view_of new) waves x z)
        (sym (reload_is text x (Ok (description_of d)) (reads x s)
        ∙ ap (λ (z : ServedState). record { state = z; blocked = x.blocked }) (accepted_is (description_of d) x)))
        (accepts.follows waves x s)

-- each session that is not left out can be told of the moves to another world
told_each : (w z : World) (moves : List KeptPlace) (numbers : List ℕ) (ts : List Turned) (ps : List ServedConnection)
    → AreMoves w.plant z.plant moves numbers → EachBeside IsMarked ts ps → EachClient w.plant (sessions_of ts) ps
    → All (λ (t : Turned). t.skip ≡ false → IsReloadable moves numbers t.session) ts
told_each w z moves numbers [] ps moved marks clients = λ k d below. absurd (omega (arith, below))
told_each w z moves numbers (t ∷ ts) [] moved marks clients = absurd marks
told_each w z moves numbers (t ∷ ts) (p ∷ ps) moved marks clients =
    all_cons (λ (t : Turned). t.skip ≡ false → IsReloadable moves numbers t.session) t ts
    (λ open_. record { old = w.plant; new = z.plant; client = p.client; moved = moved; stands = clients.0 (sym marks.0 ∙ open_) })
    (told_each w z moves numbers ts ps moved marks.1 clients.1)

-- the moves between what old and new ports hold
pub moved_between : (w z : World) (old new : PortsMemory) (moves : List KeptPlace) (numbers : List ℕ) → HoldsPorts w old → HoldsPorts z new
    → ((a b : World) → HoldsPorts a old → HoldsPorts b new → AreKeptSymbols a.plant b.plant (kept_symbols_of moves))
    → ((b : World) → HoldsPorts b new → numbers ≡ numbers_of b.plant.ports) → AreMoves w.plant z.plant moves numbers
moved_between w z old new moves numbers held held_new kept are = record {
  old_sound = held.plant_sound;
  new_sound = held_new.plant_sound;
  kept = kept w z held held_new;
  ports_are = are z held_new;
}

pub can_tell : (v : ServerView) (ports : PortsMemory) (moves : List KeptPlace) (numbers : List ℕ) (d : Description) (ts us : List Turned)
    → IsServing v → v.sessions ≡ sessions_of ts
    → ((w : World) → HoldsPorts w v.device.ports → HoldsPorts (world_after_reload w d) ports)
    → ((a b : World) → HoldsPorts a v.device.ports → HoldsPorts b ports → AreKeptSymbols a.plant b.plant (kept_symbols_of moves))
    → ((b : World) → HoldsPorts b ports → numbers ≡ numbers_of b.plant.ports) → us ≡ skipped v.outlets ts
    → All (λ (t : Turned). t.skip ≡ false → IsReloadable moves numbers t.session) us
can_tell v ports moves numbers d ts us serving sessions reloads kept are same =
    let x = serving.some.state in
    let s = serving.some.serves in
    let w = x.state.world in
    let z = world_after_reload w d in
    let ps = present x.state.connections in
    let clients : EachClient w.plant (sessions_of ts) ps = subst (λ ss. EachClient w.plant ss ps) sessions s.clients in
    subst (λ (us : List Turned). All (λ (t : Turned). t.skip ≡ false → IsReloadable moves numbers t.session) us) (sym same)
    (told_each w z moves numbers (skipped v.outlets ts) ps
    (moved_between w z v.device.ports ports moves numbers s.device.world.ports (reloads w s.device.world.ports) kept are)
    (marked_skipped w.plant v.outlets ts ps s.outlets.each clients)
    (subst (λ ss. EachClient w.plant ss ps) (sym (sessions_skipped v.outlets ts)) clients))

-- the plant of a description, the profile and the signals as before
reload_plant : (w : World) (d : Description) → (world_after_reload w d).plant ≡ plant_of d
unfolding world_after_reload
reload_plant w d = refl

reload_profile : (w : World) (d : Description) → (world_after_reload w d).profile ≡ w.profile
unfolding world_after_reload
reload_profile w d = refl

reload_signals : (w : World) (d : Description) → (world_after_reload w d).signals ≡ w.signals
unfolding world_after_reload
reload_signals w d = refl

-- the device after a reload
pub record ReloadsDevice (old new : Device) (d : Description) : Type 0 where
  pub ports : (w : World) → HoldsPorts w old.ports → HoldsPorts (world_after_reload w d) new.ports
  pub net : new.net.bytes ≡ d.net
  pub routes : (n : List ℕ) → rights_of n new.admission.routes ≡ rights_of n d.routes
  pub others : new.admission.others ≡ old.admission.others
  pub signals : new.signals ≡ old.signals
  pub moment : new.moment ≡ old.moment

pub reloaded_device : (old new : Device) (waves : List Wave) (d : Description) (x : CoreState)
    → ReloadsDevice old new d → HoldsState old waves x.state → HoldsState new waves (reloaded d x)
reloaded_device old new waves d x reloads held =
    let w = x.state.world in
    record {
      world = record {
        ports = reloads.ports w held.world.ports;
        address = record {
          net_is = ap (λ (p : Plant). p.net) (reload_plant w d) ∙ sym reloads.net;
          routes_are = λ n. reloads.routes n ∙ sym (ap (λ (p : Plant). rights_of n p.routes) (reload_plant w d));
          others_are = reloads.others ∙ held.world.address.others_are ∙ sym (ap (λ (p : Profile). p.others) (reload_profile w d));
        };
      };
      signals = reload_signals w d ∙ held.signals;
      count = reloads.signals ∙ held.count;
      few = held.few;
      moment = reloads.moment ∙ held.moment;
    }

pub exchanged_aligned : (old new : Server) (d : Description) (version : ℕ) → IsServing (view_of old)
    → Exchanges old new d version → length new.clients.sessions.items ≡ length new.clients.outlets
exchanged_aligned old new d version serving ex =
    let x = serving.some.state in
    let s = serving.some.serves in
    all_asked old.clients.outlets x.state.world.plant (reloaded d x).world.plant
    (client_reloaded x.state.moment x.state.world (reloaded d x).world) old.clients.sessions.items new.clients.sessions.items
    (present x.state.connections) s.outlets.each s.clients (ex.asked serving.waves x s)
    ∙ sym (ap (λ (es : Outlets). length es) ex.outlets)

pub if_ok : {A E : Type 0} {P Q : A → Type 0} (r : Result A E) → ((a : A) → P a → Q a) → IfOk r P → IfOk r Q
if_ok (Ok a) f h = f a h
if_ok (Err e) f h = h

-- an accepted reload, from its parts
pub accepts_all : (old mid new : Server) (d : Description) (version : ℕ) → Exchanges old mid d version
    → {s : Summary} → s ≡ (let t = mid.summary in record t { accepted = count_of (t.accepted + 1) })
    → DeliversAll mid.clients.sessions.items new.clients.sessions.items mid.clients.outlets new.clients.outlets s new.summary
    → new.clients.streams.items ≡ mid.clients.streams.items → new.notes ≡ mid.notes ++ note.Ok version ∷ []
    → new.device ≡ mid.device → Accepts old new d (ReloadOk version)
accepts_all old mid new d version ex {s} counts delivers streams notes device = record {
  version = version;
  follows = λ waves x serves.
      accept_follows (view_of old) (view_of new) s waves x d old.clients.sessions.items mid.clients.sessions.items new.clients.sessions.items serves refl
      (subst (λ (e : Device). HoldsState e waves (reloaded d x)) (sym device) (ex.device waves x serves)) (ex.asked waves x serves)
      (counts ∙ ap (λ (t : Summary). record t { accepted = count_of (t.accepted + 1) }) ex.summary)
      (subst (λ (es : Outlets). DeliversAll mid.clients.sessions.items new.clients.sessions.items es new.clients.outlets s new.summary) ex.outlets delivers)
      (streams ∙ ex.streams) refl;
  version_is = ex.version_is;
  notes = notes ∙ ap (λ ns. ns ++ note.Ok version ∷ []) ex.notes;
  outcome_is = refl;
}
