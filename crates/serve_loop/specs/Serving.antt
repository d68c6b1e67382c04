-- How one connection is served, and how all are.
use Rattle.std.specs.Prelude.{◌≡◌, ℕ, List, ◌++◌, Bool, true, false, None}
use Rattle.std.specs.List.{flat_map}
use Rattle.ads_outside.specs.declared.moves.Move.{Move}
use Rattle.ads_outside.specs.WireState.{WireHistory}
use Rattle.spec_machine.specs.Delivery.{AreOffers}
use Rattle.spec_machine.specs.MachineState.{present_numbers}
use Rattle.spec_machine.specs.Moves.{EventStep, state_after}
use Rattle.spec_machine.specs.Offers.{is_gone_at}
use Rattle.spec_machine.specs.Running.{Running, offer_at}
use Rattle.spec_machine.specs.Turns.{Serves, ServesEach}
use Rattle.ads_served.specs.Due.{LeavesOutIdle}
use Rattle.ads_served.specs.Opened.{AreApart}
use Rattle.ads_served.specs.Standing.{Standing, Noting, running_after_all}
use Rattle.serve_loop.specs.declared.offers.Offered.{Offered}
use Rattle.serve_loop.specs.declared.offers.Offered.TheVariants as offered
use Rattle.serve_loop.specs.Leads.{Leads}

-- moves that serve a connection
abbrev pub ServesOne : {W C : Type 0} → EventStep W C → ℕ → Running W C → List Move → Type 0
ServesOne step c x ms = Serves step c x.blocked x.state ms

-- offers to a connection were taken: whatever serves it from there on serves it with them from here on
pub record Begins {W C : Type 0} (step : EventStep W C) (c : ℕ) (x : Running W C) (ms : List Move)
    : Type 0 where
  pub so_far : (rest : List Move) → ServesOne step c (running_after_all step x ms) rest
      → ServesOne step c x (ms ++ rest)
  pub offers : AreOffers step x.state ms
  pub stays : is_gone_at c x.state ≡ false → is_gone_at c (state_after step x.state ms) ≡ false

-- a connection is served
pub record Ends {W C : Type 0} (step : EventStep W C) (c : ℕ) (x : Running W C) (ms : List Move)
    : Type 0 where
  pub served : ServesOne step c x ms
  pub offers : AreOffers step x.state ms

-- nothing more is offered to it
pub record BeginsAll {W C : Type 0} (step : EventStep W C) (c : ℕ) (x : Running W C) (ms : List Move)
    : Type 0 where
  pub begins : Begins step c x ms
  pub no_offer : offer_at c (running_after_all step x ms) ≡ None

-- offers to it were made; and it is served, where it is there
pub record EndsWhereThere {W C : Type 0} (step : EventStep W C) (c : ℕ) (x : Running W C)
    (ms : List Move) : Type 0 where
  pub served : is_gone_at c x.state ≡ false → ServesOne step c x ms
  pub offers : AreOffers step x.state ms

-- what one offer led to
abbrev pub AfterOffer : {W C : Type 0} → Offered → EventStep W C → Noting W C → (Standing W C → Type 0)
    → (Standing W C → Type 0) → WireHistory → WireHistory → ℕ → Type 0
AfterOffer offered.Taken step noted old_serves new_serves old new c =
    Leads step noted old_serves new_serves old new 0 (Begins step c)
AfterOffer offered.Lost step noted old_serves new_serves old new c =
    Leads step noted old_serves new_serves old new 0 (Ends step c)
AfterOffer offered.Nothing step noted old_serves new_serves old new c =
    Leads step noted old_serves new_serves old new 0 (BeginsAll step c)

-- what all offers to a connection led to: it is lost, or there is nothing more to be offered
abbrev pub AfterOffers : {W C : Type 0} → Bool → EventStep W C → Noting W C → (Standing W C → Type 0)
    → (Standing W C → Type 0) → WireHistory → WireHistory → ℕ → Type 0
AfterOffers true step noted old_serves new_serves old new c =
    Leads step noted old_serves new_serves old new 0 (Ends step c)
AfterOffers false step noted old_serves new_serves old new c =
    Leads step noted old_serves new_serves old new 0 (BeginsAll step c)

-- all connections that are there are served, one after another
pub record ServesAll {W C : Type 0} (step : EventStep W C) (x : Running W C) (ms : List Move)
    : Type 0 where
  pub each : List (List Move)
  pub are : ms ≡ flat_map (λ moves. moves) each
  pub served : ServesEach step (present_numbers x.state) x.blocked x.state each
  pub offers : AreOffers step x.state ms

-- they are, where these are the numbers of all that are due
abbrev pub ServesAllOf : {W C : Type 0} → EventStep W C → List ℕ → Running W C → List Move → Type 0
ServesAllOf step numbers x ms =
    LeavesOutIdle x numbers → AreApart x.state.connections → ServesAll step x ms
