-- Moves one after another: what is served, the wire's history, and the numbers that are known.
use Rattle.std.proofs.Common.{◌≡◌, ℕ, ◌+◌, List, [], ◌∷◌, ◌++◌, refl, sym, ap, ◌∙◌, subst, arith}
use Rattle.std.specs.Prelude.{Result, Ok, Err, OnErr}
use Rattle.ads_outside.specs.declared.moves.Move.{Move}
use Rattle.ads_outside.specs.declared.moves.Move.TheVariants as move
use Rattle.ads_outside.specs.WireState.{WireHistory, history_after_move, history_after}
use Rattle.spec_machine.specs.Delivery.{AreOffers}
use Rattle.spec_machine.specs.MachineState.{MachineState}
use Rattle.spec_machine.specs.Moves.{EventStep, state_after_move, state_after}
use Rattle.spec_machine.specs.Offers.{blocked_after}
use Rattle.spec_machine.specs.Running.{Running}
use Rattle.ads_served.specs.Standing.{Standing, Noting, standing_after, standing_after_all, running_after_all}
use Rattle.serve_loop.specs.Leads.{Leads, Breaks, serves_any, events_in}

pub standing-append : {W C : Type 0} (step : EventStep W C) (noted : Noting W C) (x : Standing W C) (ms ns : List Move)
    → standing_after_all step noted x (ms ++ ns) ≡ standing_after_all step noted (standing_after_all step noted x ms) ns
unfolding standing_after_all
standing-append step noted x [] ns = refl
standing-append step noted x (m ∷ ms) ns = standing-append step noted (standing_after step noted x m) ms ns

pub history-append : (h : WireHistory) (ms ns : List Move) → history_after h (ms ++ ns) ≡ history_after (history_after h ms) ns
unfolding history_after
history-append h [] ns = refl
history-append h (m ∷ ms) ns = history-append (history_after_move h m) ms ns

-- the running machine of a standing after moves
pub standing-running : {W C : Type 0} (step : EventStep W C) (noted : Noting W C) (x : Standing W C) (ms : List Move)
    → (standing_after_all step noted x ms).running ≡ running_after_all step x.running ms
unfolding standing_after_all state_after blocked_after
standing-running step noted x [] = refl
standing-running step noted x (m ∷ ms) = standing-running step noted (standing_after step noted x m) ms

-- nothing was called
pub leads_nowhere : {W C : Type 0} (step : EventStep W C) (noted : Noting W C)
    (old_serves new_serves : Standing W C → Type 0) (old new : WireHistory) (Are : Running W C → List Move → Type 0)
    → new ≡ old → ((x : Standing W C) → old_serves x → new_serves x) → ((x : Standing W C) → old_serves x → Are x.running [])
    → Leads step noted old_serves new_serves old new 0 Are
unfolding standing_after_all history_after
leads_nowhere step noted old_serves new_serves old new Are same stays are = record { moves = []; logged = same; events = refl; stands = stays; are = are }

-- one move
pub leads_one : {W C : Type 0} (step : EventStep W C) (noted : Noting W C) (old_serves new_serves : Standing W C → Type 0)
    (old new : WireHistory) (Are : Running W C → List Move → Type 0) (m : Move)
    → events_in (m ∷ []) ≡ 0 → new ≡ history_after_move old m → ((x : Standing W C) → old_serves x → new_serves (standing_after step noted x m))
    → ((x : Standing W C) → old_serves x → Are x.running (m ∷ []))
    → Leads step noted old_serves new_serves old new 0 Are
unfolding standing_after_all history_after
leads_one step noted old_serves new_serves old new Are m no_event one stands are =
    record { moves = m ∷ []; logged = one; events = no_event; stands = stands; are = are }

pub events-append : (ms ns : List Move) → events_in (ms ++ ns) ≡ events_in ms + events_in ns
events-append [] ns = omega arith
events-append (move.Event e ∷ ms) ns = omega (arith, events-append ms ns)
events-append (move.Took c offered bytes ∷ ms) ns = events-append ms ns
events-append (move.Lost c ∷ ms) ns = events-append ms ns
events-append (move.Shut c ∷ ms) ns = events-append ms ns

-- what is called after what
pub leads_then : {W C : Type 0} (step : EventStep W C) (noted : Noting W C) (old_serves mid_serves new_serves : Standing W C → Type 0)
    (old mid new : WireHistory) (m n : ℕ) (First Second Both : Running W C → List Move → Type 0)
    → ((x : Running W C) (ms ns : List Move) → First x ms → Second (running_after_all step x ms) ns → Both x (ms ++ ns))
    → Leads step noted old_serves mid_serves old mid m First → Leads step noted mid_serves new_serves mid new n Second
    → Leads step noted old_serves new_serves old new (m + n) Both
leads_then {W} {C} step noted old_serves mid_serves new_serves old mid new m n First Second Both join first second = record {
  moves = first.moves ++ second.moves;
  events = events-append first.moves second.moves ∙ (ap (λ k. k + events_in second.moves) first.events ∙ ap (λ k. m + k) second.events);
  logged = second.logged ∙ (ap (λ h. history_after h second.moves) first.logged ∙ sym (history-append old first.moves second.moves));
  stands = λ x serves.
      subst new_serves (sym (standing-append step noted x first.moves second.moves))
      (second.stands (standing_after_all step noted x first.moves) (first.stands x serves));
  are = λ x serves.
      let P : Running W C → Type 0 = λ y. Second y second.moves in
      join x.running first.moves second.moves (first.are x serves)
      (subst P (standing-running step noted x first.moves) (second.are (standing_after_all step noted x first.moves) (first.stands x serves)));
}

-- weaker promises of the same moves
pub leads_so : {W C : Type 0} (step : EventStep W C) (noted : Noting W C) (old_serves new_serves : Standing W C → Type 0)
    (old new : WireHistory) (n : ℕ) (First Second : Running W C → List Move → Type 0)
    → ((x : Running W C) (ms : List Move) → First x ms → Second x ms)
    → Leads step noted old_serves new_serves old new n First → Leads step noted old_serves new_serves old new n Second
leads_so step noted old_serves new_serves old new n First Second so leads =
    record {
      moves = leads.moves;
      logged = leads.logged;
      events = leads.events;
      stands = leads.stands;
      are = λ x serves. so x.running leads.moves (leads.are x serves);
    }

offers-append : {W C : Type 0} (step : EventStep W C) (ms ns : List Move) (s : MachineState W C)
    → AreOffers step s ms → AreOffers step (state_after step s ms) ns → AreOffers step s (ms ++ ns)
unfolding AreOffers state_after
offers-append step [] ns s first second = second
offers-append step (m ∷ ms) ns s first second = (first.0, offers-append step ms ns (state_after_move step s m) first.1 second)

pub AreOffers-append : {W C : Type 0} (step : EventStep W C) (x : Running W C) (ms ns : List Move)
    → AreOffers step x.state ms → AreOffers step (state_after step x.state ms) ns → AreOffers step x.state (ms ++ ns)
AreOffers-append step x ms ns first second = offers-append step ms ns x.state first second

-- memory was wanting behind some offers
pub breaks_then : {W C : Type 0} (step : EventStep W C) (noted : Noting W C) (old_serves mid_serves : Standing W C → Type 0)
    (old mid new : WireHistory) (m n : ℕ) (First : Running W C → List Move → Type 0)
    → ((x : Running W C) (ms : List Move) → First x ms → AreOffers step x.state ms)
    → Leads step noted old_serves mid_serves old mid m First → Breaks step noted mid_serves mid new n → Breaks step noted old_serves old new (m + n)
breaks_then {W} {C} step noted old_serves mid_serves old mid new m n First offers first second =
    leads_then step noted old_serves mid_serves serves_any old mid new m n First (λ x ms. AreOffers step x.state ms) (λ x ms. AreOffers step x.state ms)
    (λ x ms ns a b. AreOffers-append step x ms ns (offers x ms a) b) first second

-- or nothing more was called
pub breaks_here : {W C : Type 0} (step : EventStep W C) (noted : Noting W C) (old_serves mid_serves : Standing W C → Type 0)
    (old mid new : WireHistory) (n : ℕ) (First : Running W C → List Move → Type 0)
    → ((x : Running W C) (ms : List Move) → First x ms → AreOffers step x.state ms)
    → Leads step noted old_serves mid_serves old mid n First → new ≡ mid → Breaks step noted old_serves old new n
breaks_here step noted old_serves mid_serves old mid new n First offers first same = record {
  moves = first.moves;
  logged = same ∙ first.logged;
  events = first.events;
  stands = λ x serves. tt;
  are = λ x serves. offers x.running first.moves (first.are x serves);
}

pub breaks_nowhere : {W C : Type 0} (step : EventStep W C) (noted : Noting W C) (old_serves : Standing W C → Type 0) (old new : WireHistory)
    → new ≡ old → Breaks step noted old_serves old new 0
unfolding AreOffers
breaks_nowhere step noted old_serves old new same =
    leads_nowhere step noted old_serves serves_any old new (λ x ms. AreOffers step x.state ms) same (λ x serves. tt) (λ x serves. tt)

-- what was served before served also this
pub leads_from : {W C : Type 0} (step : EventStep W C) (noted : Noting W C) (old_serves mid_serves new_serves : Standing W C → Type 0)
    (old new : WireHistory) (n : ℕ) (First Second : Running W C → List Move → Type 0)
    → ((x : Standing W C) → old_serves x → mid_serves x) → ((x : Standing W C) (ms : List Move) → mid_serves x → First x.running ms → Second x.running ms)
    → Leads step noted mid_serves new_serves old new n First → Leads step noted old_serves new_serves old new n Second
leads_from step noted old_serves mid_serves new_serves old new n First Second from so leads = record {
  moves = leads.moves;
  logged = leads.logged;
  events = leads.events;
  stands = λ x serves. leads.stands x (from x serves);
  are = λ x serves. so x leads.moves (from x serves) (leads.are x (from x serves));
}

pub on_err : {T E : Type 0} (r : Result T E) {P : Type 0} → P → OnErr r P
on_err (Ok v) p = tt
on_err (Err e) p = p
