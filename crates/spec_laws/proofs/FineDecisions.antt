-- What a packet leaves of a client fits the plant, if the client fitted it before.
use Rattle.std.proofs.Common.{◌≡◌, ℕ, ◌-◌, List, [], ◌∷◌, sym, subst, inl, inr}
use Rattle.std.specs.Prelude.{Option, Some, None, ◌==◌, not}
use Rattle.std.proofs.lemmas.Bool.{cases_Bool}
use Rattle.spec_plant.specs.World.{Plant}
use Rattle.spec_formats.specs.Request.{Request}
use Rattle.spec_machine.specs.World.{Setup, port_numbered}
use Rattle.spec_machine.specs.Access.{Addressed}
use Rattle.spec_machine.specs.Handles.{Handle, Live, with_released, handles_after}
use Rattle.spec_machine.specs.Watches.{Watch}
use Rattle.spec_machine.specs.Client.{Place, Client, Effect, NoEffect, Grants, Releases, Adds, Deletes, client_after}
use Rattle.spec_machine.specs.Acts.{Act, Refusal, Allowed, effect_of, client_after_acts}
use Rattle.spec_machine.specs.Writes.{Asker}
use Rattle.spec_machine.specs.Requests.{act_of}
use Rattle.spec_machine.specs.Sums.{SumRequest, sum_of_reads, sum_of_writes, sum_of_read_writes, given_in_turn}
use Rattle.spec_machine.specs.Decisions.{Decision, NoAnswer, EndConnection, AmsError, refuse, acts_in}
use Rattle.spec_machine.specs.SumPackets.{client_after_request, acts_of, decide_parts, decide_single}
use Rattle.spec_machine.specs.Packets.{decide}
use Rattle.spec_machine.proofs.DecisionCases.{decide-cases}
use Rattle.spec_laws.specs.Soundness.{Each, IsSoundPlant}
use Rattle.spec_laws.specs.Reachable.{IsPlacedHandle}
use Rattle.spec_laws.proofs.Footprints.{each_both}
use Rattle.spec_laws.proofs.Exchanges.{WatchIn, WatchesIn, each_filter}
use Rattle.spec_laws.proofs.FirstMemory.{IsNamed, port_number}
use Rattle.spec_laws.proofs.FineActs.{IsAsked, FineEffect, FineAct, act-fine}

-- what a client keeps fits a plant: handles lie within symbols, and notifications watch names of the plant
pub record FitsPlant (plant : Plant) (c : Client) : Type 0 where
  pub handles : Each (IsPlacedHandle plant) c.handles
  pub watches : WatchesIn (IsNamed plant) c

released-fits : (plant : Plant) (hs : List (Handle Place)) (n : ℕ) → Each (IsPlacedHandle plant) hs → Each (IsPlacedHandle plant) (with_released hs n)
unfolding with_released
released-fits plant [] n e = tt
released-fits plant (h ∷ hs) n e =
    elim (cases_Bool (n == 1)) [
      | inl t ↦ rw t (tt, e.1)
      | inr t ↦ rw t (e.0, released-fits plant hs (n - 1) (e.1))
    ]

effect-fits : (plant : Plant) (c : Client) (x : Effect) → FitsPlant plant c → FineEffect plant x → FitsPlant plant (client_after c x)
unfolding client_after handles_after
effect-fits plant c NoEffect f h = f
effect-fits plant c (Grants port place) f h =
    record { handles = each_both (IsPlacedHandle plant) c.handles (record { port = port; status = Live place } ∷ []) f.handles (h, tt); watches = f.watches }
effect-fits plant c (Releases handle) f h = record { handles = released-fits plant c.handles handle f.handles; watches = f.watches }
effect-fits plant c (Adds w) f h = record { handles = f.handles; watches = each_both (WatchIn (IsNamed plant)) c.watches (w ∷ []) f.watches (h, tt) }
effect-fits plant c (Deletes handle) f h =
    record {
      handles = f.handles;
      watches = each_filter (WatchIn (IsNamed plant)) (λ (v : Watch (List Addressed)). not (v.handle == handle)) c.watches f.watches;
    }

act-fits : (plant : Plant) (c : Client) (a : Act) → FitsPlant plant c → FineAct plant a → FitsPlant plant (client_after c (effect_of a))
act-fits plant c (Refusal code) f h = effect-fits plant c NoEffect f tt
act-fits plant c (Allowed a) f h = effect-fits plant c a.effect f h.fine

pub acts-fit : (plant : Plant) (acts : List Act) (c : Client) → FitsPlant plant c → Each (FineAct plant) acts → FitsPlant plant (client_after_acts c acts)
unfolding client_after_acts
acts-fit plant [] c f h = f
acts-fit plant (a ∷ rest) c f h = acts-fit plant rest (client_after c (effect_of a)) (act-fits plant c a f (h.0)) (h.1)

-- the acts of requests, each decided for the client that those before it left
acts_of-fine : (d : Setup) (k : Asker) → IsAsked d.plant k.port → (rs : List Request) (c : Client)
    → FitsPlant d.plant c → Each (FineAct d.plant) (acts_of d c k rs)
unfolding acts_of given_in_turn
acts_of-fine d k i [] c f = tt
acts_of-fine d k i (r ∷ rs) c f =
    let a = act-fine d.plant d c k i f.handles r in
    (a, acts_of-fine d k i rs (client_after_request d k c r) (act-fits d.plant c (act_of d c k r) f a))

-- a decision, as a record so that `_` is found
pub record FineDecision (plant : Plant) (x : Decision) : Type 0 where
  pub acts : Each (FineAct plant) (acts_in x)

silent_fine : (plant : Plant) → FineDecision plant NoAnswer
silent_fine plant = record { acts = tt }

end_fine : (plant : Plant) → FineDecision plant EndConnection
end_fine plant = record { acts = tt }

error_fine : (plant : Plant) (code : ℕ) → FineDecision plant (AmsError code)
error_fine plant code = record { acts = tt }

refuse_fine : (plant : Plant) (code : ℕ) → FineDecision plant (refuse code)
refuse_fine plant code = record { acts = (record { fine = tt }, tt) }

parts-fine : (d : Setup) (c : Client) (k : Asker) → IsAsked d.plant k.port → FitsPlant d.plant c
    → (s : SumRequest) (o : Option ℕ) → FineDecision d.plant (decide_parts d c k s o)
parts-fine d c k i f s (Some code) = refuse_fine d.plant code
parts-fine d c k i f s None = record { acts = acts_of-fine d k i s.parts c f }

single-fine : (d : Setup) (c : Client) (k : Asker) → IsAsked d.plant k.port → FitsPlant d.plant c → (r : Request) → FineDecision d.plant (decide_single d c k r)
single-fine d c k i f r = record { acts = acts_of-fine d k i (r ∷ []) c f }

-- the port that is asked is there
asked_there : (d : Setup) (k : Asker) (number : ℕ) → IsSoundPlant d.plant → port_numbered number d.plant.ports ≡ Some k.port → IsAsked d.plant k.port
asked_there d k number sound e =
    let P : ℕ → Type 0 = λ m. port_numbered m d.plant.ports ≡ Some k.port in
    record { sound = sound; found = subst P (sym (port_number number d.plant.ports k.port e)) e }

pub decide-fine : (d : Setup) (c : Client) (packet : List ℕ) → IsSoundPlant d.plant → FitsPlant d.plant c → FineDecision d.plant (decide d c packet)
decide-fine d c packet sound f =
    decide-cases d c (FineDecision d.plant)
    (record {
      silent = silent_fine d.plant;
      ends = end_fine d.plant;
      error = error_fine d.plant;
      refused = refuse_fine d.plant;
      single = λ k number e r. single-fine d c k (asked_there d k number sound e) f r;
      reads = λ k number e n len bytes. parts-fine d c k (asked_there d k number sound e) f (sum_of_reads n bytes) _;
      writes = λ k number e n len bytes. parts-fine d c k (asked_there d k number sound e) f (sum_of_writes n bytes) _;
      read_writes = λ k number e n len bytes. parts-fine d c k (asked_there d k number sound e) f (sum_of_read_writes n bytes) _;
      more = λ k number e group sum is n len bytes. parts-fine d c k (asked_there d k number sound e) f (sum n bytes) _;
    })
    packet
