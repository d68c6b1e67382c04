-- What a run of a machine makes of a service.
use Rattle.std.proofs.Common.{◌≡◌, ◌≢◌, ℕ, List, ap, sym, ◌∙◌, refl, inl, inr}
use Rattle.signals.specs.Wave.{Wave}
use Rattle.ads_outside.specs.declared.end.End.{End}
use Rattle.ads_outside.specs.declared.end.End.TheVariants as end
use Rattle.ads_outside.specs.declared.listening.Listening.{Listening}
use Rattle.ads_outside.specs.declared.moves.Move.{Move}
use Rattle.ads_outside.specs.SinkState.{SinkState}
use Rattle.ads_outside.specs.WireState.{WireHistory}
use Rattle.spec_plant.specs.Description.{Description}
use Rattle.spec_machine.specs.Connection.{connection_of}
use Rattle.spec_machine.specs.Delivery.{AreOffers}
use Rattle.spec_machine.specs.Profile.{Profile}
use Rattle.spec_machine.specs.Turns.{KeepsTurns}
use Rattle.spec_relay.specs.RelayState.{relay_start}
use Rattle.spec_relay.specs.RelayMoves.{relay_after_event}
use Rattle.spec_relay.specs.RelayPromises.{RelayKeepsPromisesAt}
use Rattle.spec_relay.proofs.PromiseLemmas as promised
use Rattle.spec_server.specs.Server.{server, start_in}
use Rattle.serve_loop.specs.TurnTaken.{AreTurnsOf}
use Rattle.server_core.specs.Served.{served, served_step}
use Rattle.server_core.specs.Serves.{CoreView, StandsAt}
use Rattle.ams_relay.specs.declared.router.Relay.{Relay}
use Rattle.ams_relay.specs.Relays as relays
use Rattle.run_tasks.specs.declared.status.Status.{Status}
use Rattle.plant_commands.specs.Machine.{RunsMachine, StandsAnew}
use Rattle.plant_commands.specs.FileOutcomes.{at_start_in}
use Rattle.plant_commands.specs.Promises.{KeepsPromisesAtIn}
use Rattle.run_tasks.specs.Service.{Service, ServedMachine, OfServer, OfRelay, server_counts, relay_counts}
use Rattle.plant_commands.specs.Serving.{RunsService, EndsService, EndsStarted}
use Rattle.run_tasks.specs.Verdict.{Serves}
use Rattle.plant_commands.proofs.MachineLemmas.{ends_as}
use Rattle.plant_commands.proofs.PromiseLemmas.{turns_keep_promises, offers_keep_promises}
use Rattle.run_tasks.specs.EndsOr.{WantsMemory, EndsOr}

-- a core that was just built has no connection
pub core_anew : (core : CoreView) (profile : Profile) (d : Description) (waves : List Wave) → StandsAt core (at_start_in profile d waves)
    → StandsAnew (StandsAt core) (at_start_in profile d waves)
unfolding connection_of
core_anew core profile d waves stands = λ opened. record { stands = stands; numbers = λ n other. refl }

turns_of : (profile : Profile) (d : Description) (waves : List Wave) (ms : List Move)
    → AreTurnsOf served_step (at_start_in profile d waves).running ms → KeepsTurns server (start_in profile d waves) ms
unfolding served
turns_of profile d waves ms are = record { turns = are.turns; whole = are.are; served = are.served }

offers_of : (profile : Profile) (d : Description) (waves : List Wave) (ms : List Move) → AreOffers served_step (start_in profile d waves) ms
    → AreOffers server (start_in profile d waves) ms
unfolding served
offers_of profile d waves ms are = are

-- the moves of a server keep its promises
pub server_promises : (ended : End) (profile : Profile) (d : Description) (waves : List Wave) (ms : List Move)
    → (ended ≢ end.Memory → AreTurnsOf served_step (at_start_in profile d waves).running ms)
    → AreOffers served_step (start_in profile d waves) ms → KeepsPromisesAtIn ended profile d waves ms
server_promises end.Done profile d waves ms turns offers =
    turns_keep_promises profile d waves ms (turns_of profile d waves ms (turns (λ e. (cc))))
server_promises end.Budget profile d waves ms turns offers =
    turns_keep_promises profile d waves ms (turns_of profile d waves ms (turns (λ e. (cc))))
server_promises end.LinkFault profile d waves ms turns offers =
    turns_keep_promises profile d waves ms (turns_of profile d waves ms (turns (λ e. (cc))))
server_promises end.Memory profile d waves ms turns offers = offers_keep_promises profile d waves ms (offers_of profile d waves ms offers)

-- a run of a server
server_runs : (start : Listening) (profile : Profile) (d : Description) (waves : List Wave) (limit : ℕ) (s : Status) (out out_new : SinkState)
    (old new : WireHistory) → RunsMachine served_step server_counts (at_start_in profile d waves) limit s out out_new old new
    → RunsService (record { start = start; machine = OfServer profile d waves; limit = limit }) s out out_new old new
unfolding served
server_runs start profile d waves limit s out out_new old new h = record {
  ended = h.ended;
  moves = h.moves;
  wire = record {
    grown = h.wire.grown;
    logged = h.wire.logged;
    streamed = h.wire.streamed;
    count = h.wire.count;
    most = h.wire.most;
    promises = server_promises h.ended profile d waves h.moves h.wire.turns h.wire.offers;
  };
  prints = h.prints;
}

-- what is served of an accepted description
abbrev pub service_of : ServedMachine → List ℕ → List ℕ → List ℕ → ℕ → Service
service_of machine name listen bytes limit =
    record { start = record { listen = listen; name = name; first = bytes }; machine = machine; limit = limit }

pub server_ends : (a : Listening) (profile : Profile) (d : Description) (waves : List Wave) (name listen bytes : List ℕ) (limit : ℕ) (s : Status)
    (out out_new : SinkState) (old new : WireHistory) → ◌≡◌ {A = Listening} (record { listen = listen; name = name; first = bytes }) a
    → EndsStarted a (λ between mid. RunsMachine served_step server_counts (at_start_in profile d waves) limit s between out_new mid new)
    s out out_new old new
    → EndsService (service_of (OfServer profile d waves) name listen bytes limit) s out out_new old new
server_ends a profile d waves name listen bytes limit s out out_new old new is h =
    let start : Listening = record { listen = listen; name = name; first = bytes } in
    ends_as a start (λ between mid. RunsMachine served_step server_counts (at_start_in profile d waves) limit s between out_new mid new)
    (λ between mid. RunsService (service_of (OfServer profile d waves) name listen bytes limit) s between out_new mid new) s out out_new old new is
    (λ between mid k. server_runs start profile d waves limit s between out_new mid new k) h

-- a relay that was just built has no connection
pub relay_anew : (relay : Relay) (d : Description) → relays.StandsAt relay (relays.standing_at_start (relay_start d))
    → StandsAnew (relays.StandsAt relay) (relays.standing_at_start (relay_start d))
unfolding connection_of
relay_anew relay d stands = λ opened. record { stands = stands; numbers = λ n other. refl }

relay_turns_of : (d : Description) (ms : List Move) → AreTurnsOf relay_after_event (relays.standing_at_start (relay_start d)).running ms
    → KeepsTurns relay_after_event (relay_start d) ms
relay_turns_of d ms are = record { turns = are.turns; whole = are.are; served = are.served }

-- the moves of a relay keep its promises
relay_promises : (ended : End) (d : Description) (ms : List Move)
    → (ended ≢ end.Memory → AreTurnsOf relay_after_event (relays.standing_at_start (relay_start d)).running ms)
    → AreOffers relay_after_event (relay_start d) ms → RelayKeepsPromisesAt ended d ms
relay_promises end.Done d ms turns offers = promised.turns_keep_promises d ms (relay_turns_of d ms (turns (λ e. (cc))))
relay_promises end.Budget d ms turns offers = promised.turns_keep_promises d ms (relay_turns_of d ms (turns (λ e. (cc))))
relay_promises end.LinkFault d ms turns offers = promised.turns_keep_promises d ms (relay_turns_of d ms (turns (λ e. (cc))))
relay_promises end.Memory d ms turns offers = promised.offers_keep_promises d ms offers

-- a run of a relay
relay_runs : (start : Listening) (d : Description) (limit : ℕ) (s : Status) (out out_new : SinkState) (old new : WireHistory)
    → RunsMachine relay_after_event relay_counts (relays.standing_at_start (relay_start d)) limit s out out_new old new
    → RunsService (record { start = start; machine = OfRelay d; limit = limit }) s out out_new old new
relay_runs start d limit s out out_new old new h = record {
  ended = h.ended;
  moves = h.moves;
  wire = record {
    grown = h.wire.grown;
    logged = h.wire.logged;
    streamed = h.wire.streamed;
    count = h.wire.count;
    most = h.wire.most;
    promises = relay_promises h.ended d h.moves h.wire.turns h.wire.offers;
  };
  prints = h.prints;
}

pub relay_ends : (a : Listening) (d : Description) (name listen bytes : List ℕ) (limit : ℕ) (s : Status) (out out_new : SinkState)
    (old new : WireHistory) → ◌≡◌ {A = Listening} (record { listen = listen; name = name; first = bytes }) a
    → EndsStarted a (λ between mid. RunsMachine relay_after_event relay_counts (relays.standing_at_start (relay_start d)) limit s between out_new mid new) s
    out out_new old new
    → EndsService (service_of (OfRelay d) name listen bytes limit) s out out_new old new
relay_ends a d name listen bytes limit s out out_new old new is h =
    let start : Listening = record { listen = listen; name = name; first = bytes } in
    ends_as a start (λ between mid. RunsMachine relay_after_event relay_counts (relays.standing_at_start (relay_start d)) limit s between out_new mid new)
    (λ between mid. RunsService (service_of (OfRelay d) name listen bytes limit) s between out_new mid new) s out out_new old new is
    (λ between mid k. relay_runs start d limit s between out_new mid new k) h

-- a service for which memory was wanting
pub service_wanting : (x : Service) (s : Status) (out out_new : SinkState) (wire : WireHistory) → WantsMemory s out out_new
    → EndsOr Serves (λ y. EndsService y s out out_new wire wire) (wire ≡ wire) (Serves x) s out out_new
service_wanting x s out out_new wire wants = inr (record { made = x; is = refl; comes = inl (inr (refl, wants.0, wants.1)) })

-- and one that was begun
pub service_begun : (x : Service) (s : Status) (out out_new : SinkState) (wire wire_new : WireHistory) → EndsService x s out out_new wire wire_new
    → EndsOr Serves (λ y. EndsService y s out out_new wire wire_new) (wire_new ≡ wire) (Serves x) s out out_new
service_begun x s out out_new wire wire_new ends = inr (record { made = x; is = refl; comes = ends })

pub started_with : (listen listen_text name name_text first first_text : List ℕ) → listen_text ≡ listen → name_text ≡ name → first_text ≡ first
    → ◌≡◌ {A = Listening} (record { listen = listen; name = name; first = first })
    (record { listen = listen_text; name = name_text; first = first_text })
started_with listen listen_text name name_text first first_text l n f =
    let with_listen : List ℕ → Listening = λ t. record { listen = t; name = name; first = first } in
    let with_name : List ℕ → Listening = λ t. record { listen = listen_text; name = t; first = first } in
    let with_first : List ℕ → Listening = λ t. record { listen = listen_text; name = name_text; first = t } in
    ap with_listen (sym l) ∙ (ap with_name (sym n) ∙ ap with_first (sym f))
