-- What a connection was granted and added only grows.
use Rattle.std.proofs.Common.{◌≡◌, ℕ, ◌≤◌, List, [], ◌∷◌, length, Bool, true, false, cond, refl, sym, subst, arith}
use Rattle.std.specs.Prelude.{Option, Some, None}
use Rattle.spec_machine.specs.Device.{FrameOutcome, ClientOutcome}
use Rattle.spec_machine.specs.Connection.{Connection, is_deaf}
use Rattle.spec_machine.specs.MachineState.{Exchange}
use Rattle.spec_machine.specs.Piece.{with_received, packets_left, with_one_taken, with_client, after_outcome}
use Rattle.spec_machine.specs.Piece.{after_packet, after_packets, with_piece, end_of_piece, after_piece}
use Rattle.spec_machine.specs.Events.{after_client_outcome, connection_after_tick, connection_after_reload}
use Rattle.spec_machine.specs.World.{World, setup_of}
use Rattle.spec_machine.specs.Handles.{Live, handle_after_reload, handles_after}
use Rattle.spec_machine.specs.Client.{Client, Effect, NoEffect, Grants, Releases, Adds, Deletes, client_after, kept_place, client_after_reload}
use Rattle.spec_machine.specs.Acts.{Act, effect_of, client_after_acts}
use Rattle.spec_machine.specs.Decisions.{Decision, acts_in}
use Rattle.spec_machine.specs.Packets.{decide}
use Rattle.spec_machine.specs.Replies.{performed}
use Rattle.spec_machine.specs.Ticks.{client_after_tick}
use Rattle.spec_machine.specs.Reloads.{is_kept, client_reloaded}
use Rattle.spec_machine.specs.AdsDevice.{DescriptionReading, ads_device}
use Rattle.spec_machine.proofs.Carried.{Carries, log-carried, took-cases}
use Rattle.spec_machine.proofs.HandleStatuses.{length_granted, length_mapped, length_released}
use Rattle.spec_laws.specs.Refusals.{NumbersNeverFall}
use Rattle.spec_laws.proofs.Exchanges.{produce_all-client, answer-client, rest-client}

-- the numbers of a client rise
record Rises (c d : Client) : Type 0 where
  handles : length c.handles ≤ length d.handles
  additions : c.additions ≤ d.additions

rises_same : (c : Client) → Rises c c
rises_same c = record { handles = omega arith; additions = omega arith }

rises_then : (c d e : Client) → Rises c d → Rises d e → Rises c e
rises_then c d e p q = let a = p.handles in let b = q.handles in let x = p.additions in
    let y = q.additions in record { handles = omega (arith, a, b); additions = omega (arith, x, y) }

effect-rises : (c : Client) (x : Effect) → Rises c (client_after c x)
unfolding client_after handles_after
effect-rises c NoEffect = rises_same c
effect-rises c (Grants port place) = let l = length_granted c.handles (record { port = port; status = Live place }) in
    record { handles = omega (arith, l); additions = omega arith }
effect-rises c (Releases handle) = let l = length_released c.handles handle in record { handles = omega (arith, l); additions = omega arith }
effect-rises c (Adds w) = record { handles = omega arith; additions = omega arith }
effect-rises c (Deletes handle) = record { handles = omega arith; additions = omega arith }

acts-rise : (acts : List Act) (c : Client) → Rises c (client_after_acts c acts)
unfolding client_after_acts
acts-rise [] c = rises_same c
acts-rise (a ∷ rest) c = rises_then c (client_after c (effect_of a)) _ (effect-rises c (effect_of a)) (acts-rise rest (client_after c (effect_of a)))

rises_to : (c d e : Client) → Rises c d → d ≡ e → Rises c e
rises_to c d e r q = subst (Rises c) q r

packet-rises : (reading : DescriptionReading) (p : List ℕ) (x : Exchange World Client)
    → Rises x.connection.client (after_packet (ads_device reading) p x).connection.client
unfolding after_packet performed
packet-rises reading p x = go x.connection.closing
  where
    decision : Decision
    decision = decide (setup_of x.world) x.connection.client p

    o : FrameOutcome World Client
    o = performed decision p x.world x.connection.client

    go : (b : Bool) → Rises x.connection.client (cond b x (after_outcome o x.connection)).connection.client
    go true = rises_same x.connection.client
    go false = rises_to x.connection.client (client_after_acts x.connection.client (acts_in decision)) _ (acts-rise (acts_in decision) x.connection.client)
        (sym (answer-client o.answer (with_client o.client (with_one_taken x.connection))))

packets-rise : (reading : DescriptionReading) (ps : List (List ℕ)) (x : Exchange World Client)
    → Rises x.connection.client (after_packets (ads_device reading) ps x).connection.client
unfolding after_packets
packets-rise reading [] x = rises_same x.connection.client
packets-rise reading (p ∷ ps) x =
    let y = after_packet (ads_device reading) p x in
    rises_then x.connection.client y.connection.client _ (packet-rises reading p x) (packets-rise reading ps y)

piece-rises : (reading : DescriptionReading) (bytes : List ℕ) (x : Exchange World Client)
    → Rises x.connection.client (after_piece (ads_device reading) bytes x).connection.client
unfolding after_piece
piece-rises reading bytes x = go (is_deaf x.connection)
  where
    y : Exchange World Client
    y = after_packets (ads_device reading) (packets_left (with_received bytes x.connection)) (with_piece bytes x)

    go : (b : Bool) → Rises x.connection.client (cond b x (end_of_piece y)).connection.client
    go true = rises_same x.connection.client
    go false = rises_to x.connection.client y.connection.client _
        (packets-rise reading (packets_left (with_received bytes x.connection)) (with_piece bytes x)) (sym (rest-client y.connection))

outcome-rises : (o : ClientOutcome Client) (k : Connection Client) → Rises k.client o.client
    → Rises k.client (cond (is_deaf k) k (after_client_outcome o k)).client
outcome-rises o k r = go (is_deaf k)
  where
    go : (b : Bool) → Rises k.client (cond b k (after_client_outcome o k)).client
    go true = rises_same k.client
    go false = rises_to k.client o.client _ r (sym (produce_all-client o.frames (with_client o.client k)))

tick-rises : (reading : DescriptionReading) (now : ℕ) (w : World) (k : Connection Client)
    → Rises k.client (connection_after_tick (ads_device reading) now w k).client
unfolding connection_after_tick client_after_tick
tick-rises reading now w k = outcome-rises (client_after_tick now w k.client) k (record { handles = omega arith; additions = omega arith })

reload-rises : (reading : DescriptionReading) (now : ℕ) (old new : World) (k : Connection Client)
    → Rises k.client (connection_after_reload (ads_device reading) now old new k).client
unfolding connection_after_reload client_reloaded client_after_reload handles_after
reload-rises reading now old new k =
    let l = length_mapped (handle_after_reload (kept_place (is_kept old.plant new.plant))) k.client.handles in
    outcome-rises (client_reloaded now old new k.client) k (record { handles = omega (arith, l); additions = omega arith })

-- a connection whose numbers are at least these
abbrev AtLeast : Client → Option (Connection Client) → Type 0
AtLeast c o = (l : Connection Client) × (o ≡ Some l) × Rises c l.client

at_least : (c : Client) (l : Connection Client) → AtLeast c (Some l) → Rises c l.client
at_least c l (m, e, r) = let same : m ≡ l = cc in subst (λ (x : Connection Client). Rises c x.client) same r

never-falls : (reading : DescriptionReading) (c : Client) → Carries (ads_device reading) (AtLeast c)
never-falls reading c = record {
  events = record {
    fresh = λ n h. none h.1;
    piece = λ bytes x h. (_, refl, rises_then c x.connection.client _ (at_least c x.connection h) (piece-rises reading bytes x));
    tick = λ now w k h. (_, refl, rises_then c k.client _ (at_least c k h) (tick-rises reading now w k));
    reload = λ now old new k h. (_, refl, rises_then c k.client _ (at_least c k h) (reload-rises reading now old new k));
    gone = λ x h. (_, refl, at_least c x.connection h);
  };
  took = λ n x h. took-cases (λ (l : Connection Client). AtLeast c (Some l)) n x h (_, refl, at_least c x.connection h);
}
  where
    none : {P : Type 0} {l : Connection Client} → None ≡ Some l → P
    none e = cc

pub numbers_never_fall : NumbersNeverFall
numbers_never_fall reading s c log k e =
    let r = log-carried (ads_device reading) (AtLeast k.client) (never-falls reading k.client) c log s (k, e, rises_same k.client) in
    let g = r.2 in
    (r.0, r.1, record { handles = g.handles; additions = g.additions })
