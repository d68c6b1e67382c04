-- An event and what follows it are one turn; turns follow one another.
use Rattle.std.proofs.Common.{◌≡◌, ℕ, ◌+◌, ◌<◌, ◌≤◌, List, [], ◌∷◌, ◌++◌, length, true, false, refl, sym, ap, ◌∙◌, subst, append-nil, arith}
use Rattle.std.specs.Prelude.{Bool, ◌==◌, not, IsTrue}
use Rattle.std.specs.List.{flat_map}
use Rattle.std.proofs.lemmas.Grind.{flat_map-append}
use Rattle.std.proofs.lemmas.List.Folds.{list_any-append}
use Rattle.ads_outside.specs.declared.event.Event.{Event}
use Rattle.ads_outside.specs.declared.event.Event.TheVariants as event
use Rattle.ads_outside.specs.declared.moves.Move.{Move}
use Rattle.ads_outside.specs.declared.moves.Move.TheVariants as move
use Rattle.ads_outside.specs.Opened.{opened_by, is_opened, is_new}
use Rattle.ads_outside.specs.Rose.{Rose}
use Rattle.ads_outside.specs.WireAnswers.{Stops}
use Rattle.ads_outside.specs.WireState.{WireState, WireHistory, history_after_move, history_after, event_given}
use Rattle.spec_machine.specs.Connection.{connection_of}
use Rattle.spec_machine.specs.Delivery.{AreOffers}
use Rattle.spec_machine.specs.MachineState.{MachineState}
use Rattle.spec_machine.specs.Moves.{EventStep, with_gone, with_took, state_after_move, state_after}
use Rattle.spec_machine.specs.Offers.{blocked_after}
use Rattle.spec_machine.specs.Running.{Running, OpensNew}
use Rattle.spec_machine.specs.Turns.{LogTurn, moves_of_turn, AreTurns}
use Rattle.spec_machine.proofs.Emptied.{or_false}
use Rattle.ads_served.specs.Opened.{HasNumbersIn, OpensAlone}
use Rattle.ads_served.specs.Standing.{Standing, Noting, standing_after, standing_after_all, running_after_all}
use Rattle.ads_served.proofs.DeviceEvents.{exchange-none}
use Rattle.serve_loop.specs.declared.turn_end.Turn.{Turn}
use Rattle.serve_loop.specs.Leads.{Leads, Breaks}
use Rattle.serve_loop.specs.Serving.{ServesAll}
use Rattle.serve_loop.specs.TurnTaken.{StandsOver, ComesBy, IsTurnOf, turn_of_event, TakesEvent, Stays}
use Rattle.serve_loop.specs.TurnTaken.{BreaksTurn, AfterTurn, AreTurnsOf, TakesTurns, EndsBefore}
use Rattle.serve_loop.proofs.LeadLemmas.{leads_then, breaks_nowhere, AreOffers-append, standing-running}
use Rattle.serve_loop.proofs.OfferLemmas.{running-append}
use Rattle.serve_loop.proofs.WantLemmas.{rose_later}

-- an event leaves each connection with a number that was opened
event-numbers : {W C : Type 0} (step : EventStep W C) → OpensAlone step → (opened : List ℕ) (e : Event) (s : MachineState W C)
    → HasNumbersIn opened s → HasNumbersIn (opened ++ opened_by e) (step s e)
event-numbers step alone opened e s numbers n other =
    let both = or_false (is_opened n opened) (is_opened n (opened_by e)) (sym (list_any-append (λ m. m == n) opened (opened_by e)) ∙ other) in
    alone s e n both.1 (numbers n both.0)

-- so do all moves
pub numbers-after : {W C : Type 0} (step : EventStep W C) → OpensAlone step → (ms : List Move) (h : WireHistory) (s : MachineState W C)
    → HasNumbersIn h.opened s → HasNumbersIn (history_after h ms).opened (state_after step s ms)
unfolding history_after state_after state_after_move
numbers-after step alone [] h s numbers = numbers
numbers-after step alone (move.Event e ∷ ms) h s numbers =
    numbers-after step alone ms (event_given e h) (step s e) (event-numbers step alone h.opened e s numbers)
numbers-after step alone (move.Took c offered bytes ∷ ms) h s numbers =
    numbers-after step alone ms (history_after_move h (move.Took c offered bytes)) (state_after_move step s (move.Took c offered bytes))
    (λ n other. exchange-none n (connection_of c s.connections) (with_took (length bytes)) s (numbers n other))
numbers-after step alone (move.Lost c ∷ ms) h s numbers =
    numbers-after step alone ms (history_after_move h (move.Lost c)) (state_after_move step s (move.Lost c))
    (λ n other. exchange-none n (connection_of c s.connections) with_gone s (numbers n other))
numbers-after step alone (move.Shut c ∷ ms) h s numbers =
    numbers-after step alone ms (history_after_move h (move.Shut c)) (state_after_move step s (move.Shut c))
    (λ n other. exchange-none n (connection_of c s.connections) with_gone s (numbers n other))

not_true : (b : Bool) → IsTrue (not b) → b ≡ false
not_true true e = cc
not_true false e = refl

-- a number that is new to the wire is new to the machine
pub opens_new : {W C : Type 0} (opened : List ℕ) (x : Running W C) (e : Event) → HasNumbersIn opened x.state → IsTrue (is_new e opened) → OpensNew x e
opens_new opened x (event.Opened c) numbers new = numbers c (not_true (is_opened c opened) new)
opens_new opened x (event.Piece c bytes) numbers new = tt
opens_new opened x (event.Closed c) numbers new = tt
opens_new opened x (event.Tick t) numbers new = tt
opens_new opened x (event.Reload bytes) numbers new = tt
opens_new opened x (event.Writable c) numbers new = tt

-- what an event makes of a standing
pub came : {W C : Type 0} (step : EventStep W C) (noted : Noting W C) (serves : Standing W C → Type 0) (opened : List ℕ) (e : Event)
    → IsTrue (is_new e opened) → (x : Standing W C) → StandsOver serves opened x → ComesBy step noted serves e (standing_after step noted x (move.Event e))
came step noted serves opened e new x over = record { before = x; served = over.stands; opens_new = opens_new opened x.running e over.numbers new; is = refl }

-- the machine took an event
pub comes_to : {W C : Type 0} (step : EventStep W C) (noted : Noting W C) (old_serves new_serves : Standing W C → Type 0) (e : Event)
    → ((x : Standing W C) → old_serves x → OpensNew x.running e → new_serves (standing_after step noted x (move.Event e)))
    → (y : Standing W C) → ComesBy step noted old_serves e y → new_serves y
comes_to step noted old_serves new_serves e follows y comes = subst new_serves (sym comes.is) (follows comes.before comes.served comes.opens_new)

-- an event that was given, and the moves of all connections behind it
pub event_leads : {W C : Type 0} (step : EventStep W C) (noted : Noting W C) → OpensAlone step
    → (old_serves new_serves : Standing W C → Type 0) (old mid new : WireHistory) (e : Event)
    → IsTrue (is_new e old.opened) → mid ≡ event_given e old → Leads step noted (ComesBy step noted old_serves e) new_serves mid new 0 (ServesAll step)
    → Leads step noted (StandsOver old_serves old.opened) (StandsOver new_serves new.opened) old new 1 (IsTurnOf step e)
unfolding history_after state_after state_after_move blocked_after standing_after_all AreOffers
event_leads {W} {C} step noted alone old_serves new_serves old mid new e new_number given leads =
    let logged : new ≡ history_after old (move.Event e ∷ leads.moves) = leads.logged ∙ ap (λ h. history_after h leads.moves) given in
    let came_so : (x : Standing W C) → StandsOver old_serves old.opened x
    → ComesBy step noted old_serves e (standing_after step noted x (move.Event e)) = came step noted old_serves old.opened e new_number in
    record {
      moves = move.Event e ∷ leads.moves;
      logged = logged;
      events = ap (λ n. n + 1) leads.events;
      stands = λ x over. record {
        stands = leads.stands (standing_after step noted x (move.Event e)) (came_so x over);
        numbers =
            let running = standing-running step noted x (move.Event e ∷ leads.moves) in
            let N : WireHistory → Type 0 = λ h. HasNumbersIn h.opened (state_after step x.running.state (move.Event e ∷ leads.moves)) in
            let R : Running W C → Type 0 = λ r. HasNumbersIn new.opened r.state in
            subst R (sym running) (subst N (sym logged) (numbers-after step alone (move.Event e ∷ leads.moves) old x.running.state over.numbers));
      };
      are = λ x over.
          let all = leads.are (standing_after step noted x (move.Event e)) (came_so x over) in
          record { served = all.each; are = ap (λ ms. move.Event e ∷ ms) all.are; each = all.served; offers = (tt, all.offers) };
    }

pub takes_event : {W C : Type 0} (step : EventStep W C) (noted : Noting W C) (old_serves new_serves : Standing W C → Type 0) (old new : WireHistory)
    (e : Event) → Leads step noted (StandsOver old_serves old.opened) (StandsOver new_serves new.opened) old new 1 (IsTurnOf step e)
    → TakesEvent step noted old_serves new_serves old new (turn_of_event e)
takes_event step noted old_serves new_serves old new e leads = record { event = e; kind = refl; leads = leads }

-- memory was wanting behind an event that was given
pub breaks_event : {W C : Type 0} (step : EventStep W C) (noted : Noting W C) (old_serves : Standing W C → Type 0) (old mid new : WireHistory) (e : Event)
    → IsTrue (is_new e old.opened) → mid ≡ event_given e old → Breaks step noted (ComesBy step noted old_serves e) mid new 0
    → BreaksTurn step noted old_serves old new 1
unfolding history_after state_after_move AreOffers
breaks_event {W} {C} step noted old_serves old mid new e new_number given breaks = record {
  count = 1;
  within = omega arith;
  breaks = record {
    moves = move.Event e ∷ breaks.moves;
    logged = breaks.logged ∙ ap (λ h. history_after h breaks.moves) given;
    events = ap (λ n. n + 1) breaks.events;
    stands = λ x over. tt;
    are = λ x over. (tt, breaks.are (standing_after step noted x (move.Event e)) (came step noted old_serves old.opened e new_number x over));
  };
}

-- or before any event
pub breaks_none : {W C : Type 0} (step : EventStep W C) (noted : Noting W C) (old_serves : Standing W C → Type 0) (old new : WireHistory)
    → new ≡ old → BreaksTurn step noted old_serves old new 1
breaks_none {W} {C} step noted old_serves old new same =
    record { count = 0; within = omega arith; breaks = breaks_nowhere step noted (StandsOver old_serves old.opened) old new same }

-- what is told of it
pub told_turn : {W C : Type 0} (step : EventStep W C) (noted : Noting W C) (old_serves new_serves : Standing W C → Type 0) (old new : WireState) (e : Event)
    → TakesEvent step noted old_serves new_serves old.history new.history (turn_of_event e)
    → AfterTurn (turn_of_event e) step noted old_serves new_serves old new
told_turn step noted old_serves new_serves old new (event.Opened c) takes = takes
told_turn step noted old_serves new_serves old new (event.Piece c bytes) takes = takes
told_turn step noted old_serves new_serves old new (event.Closed c) takes = takes
told_turn step noted old_serves new_serves old new (event.Tick t) takes = takes
told_turn step noted old_serves new_serves old new (event.Reload bytes) takes = takes
told_turn step noted old_serves new_serves old new (event.Writable c) takes = takes

-- and the event went back to the wire, which changes nothing
pub told_after : {W C : Type 0} (step : EventStep W C) (noted : Noting W C) (old_serves new_serves : Standing W C → Type 0) (old mid new : WireState)
    (e : Event)
    → new ≡ mid → TakesEvent step noted old_serves new_serves old.history mid.history (turn_of_event e)
    → (tells : Turn) → tells ≡ turn_of_event e → AfterTurn tells step noted old_serves new_serves old new
told_after {W} {C} step noted old_serves new_serves old mid new e same takes tells is =
    let N : WireState → Type 0 = λ s. AfterTurn (turn_of_event e) step noted old_serves new_serves old s in
    let T : Turn → Type 0 = λ t. AfterTurn t step noted old_serves new_serves old new in
    subst T (sym is) (subst N (sym same) (told_turn step noted old_serves new_serves old mid e takes))

-- no turn was taken
pub turns_none : {W C : Type 0} (step : EventStep W C) (x : Running W C) → AreTurnsOf step x []
unfolding AreTurns AreOffers
turns_none step x = record { turns = []; are = refl; served = tt; offers = tt }

AreTurns-append : {W C : Type 0} (step : EventStep W C) (ts us : List LogTurn) (x : Running W C) → AreTurns step x.blocked x.state ts
    → AreTurns step (running_after_all step x (flat_map moves_of_turn ts)).blocked (running_after_all step x (flat_map moves_of_turn ts)).state us
    → AreTurns step x.blocked x.state (ts ++ us)
unfolding AreTurns state_after blocked_after
AreTurns-append step [] us x first second = second
AreTurns-append {W} {C} step (t ∷ ts) us x first second =
    let y = running_after_all step x (moves_of_turn t) in
    let P : Running W C → Type 0 = λ z. AreTurns step z.blocked z.state us in
    (first.0, AreTurns-append step ts us y first.1 (subst P (running-append step x (moves_of_turn t) (flat_map moves_of_turn ts)) second))

-- one more turn
pub turns_then : {W C : Type 0} (step : EventStep W C) (e : Event) (x : Running W C) (ms ns : List Move)
    → AreTurnsOf step x ms → IsTurnOf step e (running_after_all step x ms) ns → AreTurnsOf step x (ms ++ ns)
unfolding AreTurns
turns_then {W} {C} step e x ms ns first second =
    let t : LogTurn = record { event = e; served = second.served } in
    let P : List Move → Type 0 = λ moves. AreTurns step (running_after_all step x moves).blocked (running_after_all step x moves).state (t ∷ []) in
    record {
      turns = first.turns ++ t ∷ [];
      are = ap (λ moves. moves ++ ns) first.are
          ∙ (ap (λ moves. flat_map moves_of_turn first.turns ++ moves) (second.are ∙ sym (append-nil (moves_of_turn t)))
          ∙ sym (flat_map-append moves_of_turn first.turns (t ∷ [])));
      served = AreTurns-append step first.turns (t ∷ []) x first.served (subst P first.are (second.each, tt));
      offers = AreOffers-append step x ms ns first.offers second.offers;
    }

-- what is served then may be seen otherwise
pub leads_to : {W C : Type 0} (step : EventStep W C) (noted : Noting W C)
    (old_serves mid_serves new_serves : Standing W C → Type 0) (old new : WireHistory) (n : ℕ) (Are : Running W C → List Move → Type 0)
    → ((y : Standing W C) → mid_serves y → new_serves y) → Leads step noted old_serves mid_serves old new n Are
    → Leads step noted old_serves new_serves old new n Are
leads_to step noted old_serves mid_serves new_serves old new n Are to leads = record {
  moves = leads.moves;
  logged = leads.logged;
  events = leads.events;
  stands = λ x serves. to (standing_after_all step noted x leads.moves) (leads.stands x serves);
  are = leads.are;
}

pub stands_over : {W C : Type 0} (mid_serves new_serves : Standing W C → Type 0) (opened : List ℕ)
    → Stays mid_serves new_serves → (y : Standing W C) → StandsOver mid_serves opened y → StandsOver new_serves opened y
stands_over mid_serves new_serves opened stays y over = record { stands = stays y over.stands; numbers = over.numbers }

-- further moves raise no count but that of events
pub stops-after : (ms : List Move) (h : WireHistory) → (history_after h ms).stops ≡ h.stops
unfolding history_after
stops-after [] h = refl
stops-after (move.Event e ∷ ms) h = stops-after ms (event_given e h)
stops-after (move.Took c offered bytes ∷ ms) h = stops-after ms (history_after_move h (move.Took c offered bytes))
stops-after (move.Lost c ∷ ms) h = stops-after ms (history_after_move h (move.Lost c))
stops-after (move.Shut c ∷ ms) h = stops-after ms (history_after_move h (move.Shut c))

pub ends-after : (ms : List Move) (h : WireHistory) → (history_after h ms).ends ≡ h.ends
unfolding history_after
ends-after [] h = refl
ends-after (move.Event e ∷ ms) h = ends-after ms (event_given e h)
ends-after (move.Took c offered bytes ∷ ms) h = ends-after ms (history_after_move h (move.Took c offered bytes))
ends-after (move.Lost c ∷ ms) h = ends-after ms (history_after_move h (move.Lost c))
ends-after (move.Shut c ∷ ms) h = ends-after ms (history_after_move h (move.Shut c))

-- a fault behind other calls
pub stops_later : (old mid new : WireState) → mid.history.stops ≡ old.history.stops
    → old.faults ≤ mid.faults → Stops mid new mid.history → Stops old new mid.history
stops_later old mid new same later stops = record {
  same = stops.same;
  stopped = (let P : ℕ → Type 0 = λ n. Rose n new.history.stops in subst P same stops.stopped);
  faulted = rose_later old.faults mid.faults new.faults later stops.faulted;
}

-- one more turn of the loop
pub one_more : {W C : Type 0} (step : EventStep W C) (noted : Noting W C)
    (old_serves mid_serves new_serves : Standing W C → Type 0) (old mid new : WireHistory) (count : ℕ) (tells : Turn)
    → TakesTurns step noted old_serves mid_serves old mid count → TakesEvent step noted mid_serves new_serves mid new tells
    → TakesTurns step noted old_serves new_serves old new (count + 1)
one_more step noted old_serves mid_serves new_serves old mid new count tells turns takes =
    leads_then step noted (StandsOver old_serves old.opened) (StandsOver mid_serves mid.opened) (StandsOver new_serves new.opened) old mid new count 1
    (AreTurnsOf step) (IsTurnOf step takes.event) (AreTurnsOf step) (turns_then step takes.event) turns takes.leads

-- what is served stays, and then this came of the wire
pub ends_before : {W C : Type 0} (step : EventStep W C) (noted : Noting W C)
    (old_serves mid_serves new_serves : Standing W C → Type 0) (old mid : WireHistory) (count limit : ℕ) (Then : WireHistory → Type 0)
    → TakesTurns step noted old_serves mid_serves old mid count → count < limit
    → Stays mid_serves new_serves → Then mid → EndsBefore step noted old_serves new_serves old limit Then
ends_before step noted old_serves mid_serves new_serves old mid count limit Then turns fewer stays then_ = record {
  last = mid;
  count = count;
  fewer = fewer;
  turns = leads_to step noted (StandsOver old_serves old.opened) (StandsOver mid_serves mid.opened)
      (StandsOver new_serves mid.opened) old mid count (AreTurnsOf step)
      (stands_over mid_serves new_serves mid.opened stays) turns;
  then_ = then_;
}

-- turns raise no count of stops
pub stops_kept : {W C : Type 0} (step : EventStep W C) (noted : Noting W C) (old_serves new_serves : Standing W C → Type 0)
    (old new : WireHistory) (count : ℕ) → TakesTurns step noted old_serves new_serves old new count → new.stops ≡ old.stops
stops_kept step noted old_serves new_serves old new count turns = ap (λ (h : WireHistory). h.stops) turns.logged ∙ stops-after turns.moves old
