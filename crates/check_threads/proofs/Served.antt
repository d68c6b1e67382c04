-- Two sessions that stand for clients over a plant are served by the ports of its description.
use Rattle.std.proofs.Common.{◌≡◌, ℕ, zero, suc, ◌<◌, List, [], ◌∷◌, length, get_or, false, arith, refl, subst}
use Rattle.std.specs.Prelude.{All}
use Rattle.signals.specs.Wave.{Wave}
use Rattle.spec_plant.specs.Description.{Description}
use Rattle.spec_machine.specs.Client.{Client, new_client}
use Rattle.spec_machine.specs.Replies.{performed}
use Rattle.spec_machine.specs.World.{World, world_of}
use Rattle.port_device.specs.Holds.{HoldsPorts}
use Rattle.port_device.specs.PortMemory.{PortsMemory}
use Rattle.session.specs.Served.{IsServed}
use Rattle.session.specs.StandsFor.{StandsFor}
use Rattle.session.specs.SessionState.{SessionState}
use Rattle.session.specs.Takes.{Takes, outcome_of_packet}
use Rattle.session.specs.declared.taken.Taken.{Taken}
use Rattle.server_core.specs.declared.turned.Turned.{Turned}
use Rattle.check_threads.specs.Watching.{IsServedByPortsOf}

abbrev IsReady : PortsMemory → Turned → Type 0
IsReady ports t = t.skip ≡ false → IsServed ports t.session

all_cons : (P : Turned → Type 0) (t : Turned) (ts : List Turned) → P t → All P ts → (k : ℕ) (d : Turned) → k < length (t ∷ ts) → P (get_or (t ∷ ts) k d)
all_cons P t ts p ps zero d below = p
all_cons P t ts p ps (suc k) d below = ps k d (omega (arith, below))

pub both_ready : (d : Description) (ports : PortsMemory) (t u : Turned) → ((signals : List Wave) → HoldsPorts (world_of d signals) ports)
    → IsServedByPortsOf d t.session → IsServedByPortsOf d u.session
    → All (λ (t : Turned). t.skip ≡ false → IsServed ports t.session) (t ∷ u ∷ [])
both_ready d ports t u held first second =
    let w = world_of d [] in
    all_cons (IsReady ports) t (u ∷ []) (λ open_. record { world = w; client = first.client; held = held []; stands = first.stands })
    (all_cons (IsReady ports) u [] (λ open_. record { world = w; client = second.client; held = held []; stands = second.stands })
    (λ k d below. absurd (omega (arith, below))))

-- a packet leaves the plant as it is
plant_stays : (w : World) (c : Client) (packet : List ℕ) → (outcome_of_packet w c packet).world.plant ≡ w.plant
unfolding performed
plant_stays w c packet = refl

pub stands_behind : (d : Description) (packet : List ℕ) (taken : Taken) (ports : PortsMemory) (s : SessionState)
    → Takes (outcome_of_packet (world_of d []) new_client packet) taken ports s → IsServedByPortsOf d s
stands_behind d packet taken ports s takes = record {
  client = (outcome_of_packet (world_of d []) new_client packet).client;
  stands = subst (λ plant. StandsFor plant (outcome_of_packet (world_of d []) new_client packet).client s)
      (plant_stays (world_of d []) new_client packet) takes.stands;
}
