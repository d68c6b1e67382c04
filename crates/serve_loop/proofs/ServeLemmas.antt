-- One connection is served: its offers, its end, and what all that leaves of others.
use Rattle.std.proofs.Common.{◌≡◌, ◌≢◌, ℕ, List, [], ◌∷◌, ◌++◌, length, true, false, refl, sym, ap, ◌∙◌, subst, append_assoc, append-nil, cond}
use Rattle.std.specs.Prelude.{Bool, not, ◌&&◌, nat_lt, Option, Some, None}
use Rattle.ads_outside.specs.declared.moves.Move.{Move}
use Rattle.ads_outside.specs.declared.moves.Move.TheVariants as move
use Rattle.ads_outside.specs.WireState.{WireHistory}
use Rattle.spec_machine.specs.Connection.{Connection, connection_of}
use Rattle.spec_machine.specs.Delivery.{AreOffers}
use Rattle.spec_machine.specs.MachineState.{MachineState}
use Rattle.spec_machine.specs.Moves.{EventStep, with_gone, with_took, state_after_move, state_after}
use Rattle.spec_machine.specs.Offers.{is_closing, is_closing_at, is_gone, is_gone_at, is_among, blocked_after}
use Rattle.spec_machine.specs.Running.{Running, offer_at, is_to_be_shut, is_to_be_shut_at}
use Rattle.spec_machine.specs.Turns.{Serves}
use Rattle.spec_machine.proofs.Changes.{exchange_other, with_took-number, with_gone-number, state_after-append}
use Rattle.spec_machine.proofs.Find.{test_other}
use Rattle.ads_served.specs.Standing.{Standing, Noting, standing_after_all, running_after_all}
use Rattle.serve_loop.specs.Leads.{Leads}
use Rattle.serve_loop.specs.Serving.{ServesOne, Begins, BeginsAll, Ends, EndsWhereThere}
use Rattle.serve_loop.proofs.LeadLemmas.{AreOffers-append, standing-running}
use Rattle.serve_loop.proofs.OfferLemmas.{none_at, running-append}

pub begins_nothing : {W C : Type 0} (step : EventStep W C) (c : ℕ) (x : Running W C) → Begins step c x []
unfolding AreOffers state_after blocked_after
begins_nothing step c x = record { so_far = λ rest serves. serves; offers = tt; stays = λ there. there }

pub begins_begins : {W C : Type 0} (step : EventStep W C) (c : ℕ) (x : Running W C) (ms ns : List Move)
    → Begins step c x ms → Begins step c (running_after_all step x ms) ns → Begins step c x (ms ++ ns)
begins_begins {W} {C} step c x ms ns first second = record {
  so_far = λ rest serves.
      let P : Running W C → Type 0 = λ y. ServesOne step c y rest in
      let Q : List Move → Type 0 = λ moves. ServesOne step c x moves in
      subst Q (sym (append_assoc ms ns rest)) (first.so_far (ns ++ rest) (second.so_far rest (subst P (running-append step x ms ns) serves)));
  offers = AreOffers-append step x ms ns first.offers second.offers;
  stays = λ there. ap (is_gone_at c) (state_after-append step ms ns x.state) ∙ second.stays (first.stays there);
}

pub begins_ends : {W C : Type 0} (step : EventStep W C) (c : ℕ) (x : Running W C) (ms ns : List Move)
    → Begins step c x ms → Ends step c (running_after_all step x ms) ns → Ends step c x (ms ++ ns)
begins_ends step c x ms ns first second = record { served = first.so_far ns second.served; offers = AreOffers-append step x ms ns first.offers second.offers }

pub begins_all : {W C : Type 0} (step : EventStep W C) (c : ℕ) (x : Running W C) (ms ns : List Move)
    → Begins step c x ms → BeginsAll step c (running_after_all step x ms) ns → BeginsAll step c x (ms ++ ns)
begins_all step c x ms ns first second = record {
  begins = begins_begins step c x ms ns first second.begins;
  no_offer = ap (offer_at c) (running-append step x ms ns) ∙ second.no_offer;
}

pub to_be_shut : {C : Type 0} (o : Option (Connection C)) → is_gone o ≡ false → is_to_be_shut o ≡ is_closing o
to_be_shut None e = refl
to_be_shut (Some k) e = ap (λ b. not b && k.closing) e

-- a connection that is not to be shut
pub ends_open : {W C : Type 0} (step : EventStep W C) (c : ℕ) (x : Running W C) (ms : List Move)
    → BeginsAll step c x ms → is_to_be_shut_at c (running_after_all step x ms) ≡ false → EndsWhereThere step c x ms
unfolding Serves
ends_open step c x ms all shut =
    let y = running_after_all step x ms in
    let Q : List Move → Type 0 = λ moves. ServesOne step c x moves in
    record {
      served = λ there.
          let closing : is_closing_at c y.state ≡ false = sym (to_be_shut (connection_of c y.state.connections) (all.begins.stays there)) ∙ shut in
          subst Q (append-nil ms) (all.begins.so_far [] (none_at y c all.no_offer, closing));
      offers = all.begins.offers;
    }

-- one that is lost
pub ends_there : {W C : Type 0} (step : EventStep W C) (c : ℕ) (x : Running W C) (ms : List Move) → Ends step c x ms → EndsWhereThere step c x ms
ends_there step c x ms ends = record { served = λ there. ends.served; offers = ends.offers }

-- a move that shuts one that is closing
pub record IsShutting {W C : Type 0} (c : ℕ) (x : Running W C) (ms : List Move) : Type 0 where
  pub is : ms ≡ move.Shut c ∷ []
  pub closing : is_to_be_shut_at c x ≡ true

pub ends_shut : {W C : Type 0} (step : EventStep W C) (c : ℕ) (x : Running W C) (ms ns : List Move)
    → BeginsAll step c x ms → IsShutting c (running_after_all step x ms) ns → EndsWhereThere step c x (ms ++ ns)
unfolding Serves AreOffers
ends_shut {W} {C} step c x ms ns all shutting =
    let y = running_after_all step x ms in
    let P : List Move → Type 0 = λ moves. EndsWhereThere step c x (ms ++ moves) in
    subst P (sym shutting.is) (record {
      served = λ there.
          let closing : is_closing_at c y.state ≡ true = sym (to_be_shut (connection_of c y.state.connections) (all.begins.stays there)) ∙ shutting.closing in
          all.begins.so_far (move.Shut c ∷ []) (refl, none_at y c all.no_offer, closing, refl);
      offers = AreOffers-append step x ms (move.Shut c ∷ []) all.begins.offers (tt, tt);
    })

-- what is known of whatever is served behind some moves
pub leads_seen : {W C : Type 0} (step : EventStep W C) (noted : Noting W C) (old_serves new_serves : Standing W C → Type 0)
    (old new : WireHistory) (n : ℕ) (Are Both : Running W C → List Move → Type 0) (Seen : Running W C → Type 0)
    → ((x : Running W C) (ms : List Move) → Are x ms → Seen (running_after_all step x ms) → Both x ms)
    → Leads step noted old_serves new_serves old new n Are → ((y : Standing W C) → new_serves y → Seen y.running)
    → Leads step noted old_serves new_serves old new n Both
leads_seen step noted old_serves new_serves old new n Are Both Seen join leads seen = record {
  moves = leads.moves;
  logged = leads.logged;
  events = leads.events;
  stands = leads.stands;
  are = λ x serves. join x.running leads.moves (leads.are x serves)
      (subst Seen (standing-running step noted x leads.moves) (seen (standing_after_all step noted x leads.moves) (leads.stands x serves)));
}

-- a connection is as it was
pub record IsSameAt {W C : Type 0} (d : ℕ) (x y : Running W C) : Type 0 where
  pub found : connection_of d y.state.connections ≡ connection_of d x.state.connections
  pub blocked : is_among d y.blocked ≡ is_among d x.blocked

pub same_then : {W C : Type 0} (d : ℕ) (x y z : Running W C) → IsSameAt d x y → IsSameAt d y z → IsSameAt d x z
same_then d x y z first second = record { found = second.found ∙ first.found; blocked = second.blocked ∙ first.blocked }

other_took : {W C : Type 0} (step : EventStep W C) (d n offered : ℕ) (bytes : List ℕ) (s : MachineState W C) → n ≢ d
    → connection_of d (state_after_move step s (move.Took n offered bytes)).connections ≡ connection_of d s.connections
unfolding state_after_move
other_took step d n offered bytes s differs = exchange_other d n (with_took (length bytes)) (with_took-number (length bytes)) differs s

other_lost : {W C : Type 0} (step : EventStep W C) (d n : ℕ) (s : MachineState W C) → n ≢ d
    → connection_of d (state_after_move step s (move.Lost n)).connections ≡ connection_of d s.connections
unfolding state_after_move
other_lost step d n s differs = exchange_other d n with_gone with_gone-number differs s

other_shut : {W C : Type 0} (step : EventStep W C) (d n : ℕ) (s : MachineState W C) → n ≢ d
    → connection_of d (state_after_move step s (move.Shut n)).connections ≡ connection_of d s.connections
unfolding state_after_move
other_shut step d n s differs = exchange_other d n with_gone with_gone-number differs s

other_among : (d n : ℕ) (blocked : List ℕ) (short : Bool) → n ≢ d → is_among d (cond short (n ∷ blocked) blocked) ≡ is_among d blocked
other_among d n blocked true differs = let t = test_other n d differs in rw t refl
other_among d n blocked false differs = refl

-- the moves of one leave another
pub serves-other : {W C : Type 0} (step : EventStep W C) (d c : ℕ) (ms : List Move) (x : Running W C)
    → c ≢ d → ServesOne step c x ms → IsSameAt d x (running_after_all step x ms)
unfolding Serves state_after blocked_after
serves-other step d c [] x differs serves = record { found = refl; blocked = refl }
serves-other step d c (move.Took n offered bytes ∷ ms) x differs serves =
    let other : n ≢ d = λ e. differs (sym serves.0 ∙ e) in
    let y = running_after_all step x (move.Took n offered bytes ∷ []) in
    same_then d x y (running_after_all step y ms)
    (record { found = other_took step d n offered bytes x.state other; blocked = other_among d n x.blocked (nat_lt (length bytes) offered) other })
    (serves-other step d c ms y differs serves.3)
serves-other {W} {C} step d c (move.Lost n ∷ ms) x differs serves =
    let other : n ≢ d = λ e. differs (sym serves.0 ∙ e) in
    let P : List Move → Type 0 = λ moves. IsSameAt d x (running_after_all step x (move.Lost n ∷ moves)) in
    subst P (sym serves.2) (record { found = other_lost step d n x.state other; blocked = refl })
serves-other {W} {C} step d c (move.Shut n ∷ ms) x differs serves =
    let other : n ≢ d = λ e. differs (sym serves.0 ∙ e) in
    let P : List Move → Type 0 = λ moves. IsSameAt d x (running_after_all step x (move.Shut n ∷ moves)) in
    subst P (sym serves.3) (record { found = other_shut step d n x.state other; blocked = refl })
serves-other step d c (move.Event e ∷ ms) x differs serves = absurd serves
