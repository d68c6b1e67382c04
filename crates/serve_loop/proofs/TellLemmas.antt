-- What was told of moves one after another.
use Rattle.std.proofs.Common.{◌≡◌, ℕ, ◌+◌, List, [], ◌∷◌, ◌++◌, refl, sym, ap, ◌∙◌, subst, append_assoc, append-nil, arith, inl, inr}
use Rattle.std.specs.List.{flat_map}
use Rattle.ads_outside.specs.declared.event.Event.{Event}
use Rattle.ads_outside.specs.declared.event.Event.TheVariants as event
use Rattle.ads_outside.specs.declared.moves.Move.{Move}
use Rattle.ads_outside.specs.declared.moves.Move.TheVariants as move
use Rattle.ads_outside.specs.WireState.{WireState, WireHistory, history_after, event_given}
use Rattle.spec_machine.specs.MachineState.{MachineState}
use Rattle.spec_machine.specs.Moves.{EventStep, state_after_move, state_after}
use Rattle.spec_machine.specs.Running.{Running}
use Rattle.ads_served.specs.Standing.{Standing, Noting, standing_after_all}
use Rattle.serve_loop.specs.declared.turn_end.Turn.{Turn}
use Rattle.serve_loop.specs.declared.turn_end.Turn.TheVariants as turn
use Rattle.serve_loop.specs.Leads.{Leads, Breaks, serves_any, events_in}
use Rattle.serve_loop.specs.Telling.{Coming, CameTo, StaysTold, Told, Hears, HearsOrNot, TellsBroken, TellsEvent, TellsTurn}
use Rattle.serve_loop.specs.TurnTaken.{StandsOver, ComesBy, IsTurnOf, turn_of_event}
use Rattle.serve_loop.proofs.LeadLemmas.{leads_then}

pub CameTo-append : {W C Came : Type 0} (comes_to : Coming W C Came) (step : EventStep W C) (ms ns : List Move) (cs ds : List Came) (s : MachineState W C)
    → CameTo comes_to step s ms cs → CameTo comes_to step (state_after step s ms) ns ds → CameTo comes_to step s (ms ++ ns) (cs ++ ds)
unfolding CameTo state_after state_after_move
CameTo-append {W} {C} {Came} comes_to step [] ns cs ds s first second =
    subst (λ (all : List Came). CameTo comes_to step s ns all) (ap (λ (some : List Came). some ++ ds) (sym first)) second
CameTo-append comes_to step (move.Event e ∷ ms) ns [] ds s first second = absurd first
CameTo-append comes_to step (move.Event e ∷ ms) ns (came ∷ cs) ds s first second =
    (first.0, CameTo-append comes_to step ms ns cs ds (step s e) first.1 second)
CameTo-append comes_to step (move.Took c offered bytes ∷ ms) ns cs ds s first second =
    CameTo-append comes_to step ms ns cs ds (state_after_move step s (move.Took c offered bytes)) first second
CameTo-append comes_to step (move.Lost c ∷ ms) ns cs ds s first second =
    CameTo-append comes_to step ms ns cs ds (state_after_move step s (move.Lost c)) first second
CameTo-append comes_to step (move.Shut c ∷ ms) ns cs ds s first second =
    CameTo-append comes_to step ms ns cs ds (state_after_move step s (move.Shut c)) first second

-- moves without an event
came_none : {W C Came : Type 0} (comes_to : Coming W C Came) (step : EventStep W C) (ms : List Move) (s : MachineState W C)
    → events_in ms ≡ 0 → CameTo comes_to step s ms []
unfolding CameTo
came_none comes_to step [] s none = refl
came_none comes_to step (move.Event e ∷ ms) s none = omega (arith, none)
came_none comes_to step (move.Took c offered bytes ∷ ms) s none =
    came_none comes_to step ms (state_after_move step s (move.Took c offered bytes)) none
came_none comes_to step (move.Lost c ∷ ms) s none = came_none comes_to step ms (state_after_move step s (move.Lost c)) none
came_none comes_to step (move.Shut c ∷ ms) s none = came_none comes_to step ms (state_after_move step s (move.Shut c)) none

-- an event, and moves without one
came_one : {W C Came : Type 0} (comes_to : Coming W C Came) (step : EventStep W C) (e : Event) (ms : List Move) (s : MachineState W C) (came : Came)
    → comes_to s e came → events_in ms ≡ 0 → CameTo comes_to step s (move.Event e ∷ ms) (came ∷ [])
unfolding CameTo
came_one comes_to step e ms s came is none = (is, came_none comes_to step ms (step s e) none)

came_turn : {W C Came : Type 0} (comes_to : Coming W C Came) (step : EventStep W C) (e : Event) (ms : List Move) (x : Running W C) (came : Came)
    → comes_to x.state e came → events_in ms ≡ 1 → IsTurnOf step e x ms → CameTo comes_to step x.state ms (came ∷ [])
came_turn {W} {C} {Came} comes_to step e ms x came is one turn =
    let rest = flat_map (λ moves. moves) turn.served in
    let none : events_in rest ≡ 0 = (let all : events_in ms ≡ events_in rest + 1 = ap events_in turn.are in omega (arith, one, all)) in
    subst (λ (moves : List Move). CameTo comes_to step x.state moves (came ∷ [])) (sym turn.are) (came_one comes_to step e rest x.state came is none)

-- nothing was given, and nothing told
pub told_none : {W C Came : Type 0} (comes_to : Coming W C Came) (step : EventStep W C) (noted : Noting W C)
    (old_serves new_serves : Standing W C → Type 0) (h : WireHistory) (Old New : List Came → Type 0)
    → ((x : Standing W C) → old_serves x → new_serves x) → StaysTold Old New → Told comes_to step noted old_serves new_serves h h 0 Old New
unfolding CameTo standing_after_all history_after
told_none comes_to step noted old_serves new_serves h Old New stay stays = record {
  cames = [];
  leads = record { moves = []; logged = refl; events = refl; stands = stay; are = λ x over. refl };
  told = λ before old. subst New (sym (append-nil before)) (stays before old);
}

-- what is served then may be seen otherwise, and nothing more is told
pub told_so : {W C Came : Type 0} (comes_to : Coming W C Came) (step : EventStep W C) (noted : Noting W C)
    (old_serves mid_serves new_serves : Standing W C → Type 0) (old new : WireHistory) (n : ℕ) (Old Mid New : List Came → Type 0)
    → ((y : Standing W C) → mid_serves y → new_serves y) → StaysTold Mid New
    → Told comes_to step noted old_serves mid_serves old new n Old Mid → Told comes_to step noted old_serves new_serves old new n Old New
told_so comes_to step noted old_serves mid_serves new_serves old new n Old Mid New so stays tells = record {
  cames = tells.cames;
  leads = record {
    moves = tells.leads.moves;
    logged = tells.leads.logged;
    events = tells.leads.events;
    stands = λ x serves. so (standing_after_all step noted x tells.leads.moves) (tells.leads.stands x serves);
    are = tells.leads.are;
  };
  told = λ before old. stays (before ++ tells.cames) (tells.told before old);
}

-- some events, and others behind them
pub told_then : {W C Came : Type 0} (comes_to : Coming W C Came) (step : EventStep W C) (noted : Noting W C)
    (old_serves mid_serves new_serves : Standing W C → Type 0) (old mid new : WireHistory) (m n : ℕ) (Old Mid New : List Came → Type 0)
    → Told comes_to step noted old_serves mid_serves old mid m Old Mid → Told comes_to step noted mid_serves new_serves mid new n Mid New
    → Told comes_to step noted old_serves new_serves old new (m + n) Old New
told_then {W} {C} {Came} comes_to step noted old_serves mid_serves new_serves old mid new m n Old Mid New first second = record {
  cames = first.cames ++ second.cames;
  leads = leads_then step noted old_serves mid_serves new_serves old mid new m n (λ x ms. CameTo comes_to step x.state ms first.cames)
      (λ x ms. CameTo comes_to step x.state ms second.cames) (λ x ms. CameTo comes_to step x.state ms (first.cames ++ second.cames))
      (λ x ms ns a b. CameTo-append comes_to step ms ns first.cames second.cames x.state a b) first.leads second.leads;
  told = λ before old. subst New (append_assoc before first.cames second.cames) (second.told (before ++ first.cames) (first.told before old));
}

-- an event that was given and taken
pub told_event : {W C Came : Type 0} (comes_to : Coming W C Came) (step : EventStep W C) (noted : Noting W C)
    (old_serves new_serves : Standing W C → Type 0) (old new : WireHistory) (e : Event) (Old New : List Came → Type 0)
    → Leads step noted (StandsOver old_serves old.opened) (StandsOver new_serves new.opened) old new 1 (IsTurnOf step e)
    → Hears comes_to old_serves e Old New → TellsEvent comes_to step noted old_serves new_serves old new Old New
told_event comes_to step noted old_serves new_serves old new e Old New leads hears = record {
  cames = hears.came ∷ [];
  leads = record {
    moves = leads.moves;
    logged = leads.logged;
    events = leads.events;
    stands = leads.stands;
    are = λ x over. came_turn comes_to step e leads.moves x.running hears.came (hears.is x over.stands) leads.events (leads.are x over);
  };
  told = hears.told;
}

-- memory was wanting before anything was told, or behind it
pub told_broken : {W C Came : Type 0} (comes_to : Coming W C Came) (step : EventStep W C) (noted : Noting W C) (old_serves : Standing W C → Type 0)
    (old mid new : WireHistory) (e : Event) (Old New : List Came → Type 0) → mid ≡ event_given e old
    → Breaks step noted (ComesBy step noted old_serves e) mid new 0 → HearsOrNot comes_to old_serves e mid new Old New
    → TellsBroken comes_to step noted old_serves old new Old New
unfolding history_after
told_broken comes_to step noted old_serves old mid new e Old New given breaks (inl untold) = record {
  last = old;
  count = 0;
  tells = told_none comes_to step noted (StandsOver old_serves old.opened) serves_any old Old New (λ x over. tt) untold.1;
  untold = inr (e, untold.0 ∙ given);
}
told_broken comes_to step noted old_serves old mid new e Old New given breaks (inr hears) = record {
  last = new;
  count = 1;
  tells = record {
    cames = hears.came ∷ [];
    leads = record {
      moves = move.Event e ∷ breaks.moves;
      logged = breaks.logged ∙ ap (λ h. history_after h breaks.moves) given;
      events = ap (λ n. n + 1) breaks.events;
      stands = λ x over. tt;
      are = λ x over. came_one comes_to step e breaks.moves x.running.state hears.came (hears.is x over.stands) breaks.events;
    };
    told = hears.told;
  };
  untold = inl refl;
}

-- or before any event
pub untold_turn : {W C Came : Type 0} (comes_to : Coming W C Came) (step : EventStep W C) (noted : Noting W C) (old_serves : Standing W C → Type 0)
    (old new : WireHistory) (Old New : List Came → Type 0) → new ≡ old → StaysTold Old New → TellsBroken comes_to step noted old_serves old new Old New
untold_turn comes_to step noted old_serves old new Old New same stays = record {
  last = old;
  count = 0;
  tells = told_none comes_to step noted (StandsOver old_serves old.opened) serves_any old Old New (λ x over. tt) stays;
  untold = inl same;
}

over_event : (P : Turn → Type 0) (e : Event) → P turn.Tick → P turn.Other → P (turn_of_event e)
over_event P (event.Opened c) tick other = other
over_event P (event.Piece c bytes) tick other = other
over_event P (event.Closed c) tick other = other
over_event P (event.Tick t) tick other = tick
over_event P (event.Reload bytes) tick other = other
over_event P (event.Writable c) tick other = other

-- an event was taken, and went back to the wire, which changes nothing
pub tells_after : {W C Came : Type 0} (comes_to : Coming W C Came) (step : EventStep W C) (noted : Noting W C)
    (old_serves new_serves : Standing W C → Type 0) (old : WireHistory) (mid new : WireState) (e : Event) (Old New : List Came → Type 0)
    → new ≡ mid → TellsEvent comes_to step noted old_serves new_serves old mid.history Old New
    → (tells : Turn) → tells ≡ turn_of_event e → TellsTurn tells comes_to step noted old_serves new_serves old new.history Old New
tells_after comes_to step noted old_serves new_serves old mid new e Old New same told tells is =
    let P : Turn → WireHistory → Type 0 = λ t h. TellsTurn t comes_to step noted old_serves new_serves old h Old New in
    subst (λ (t : Turn). P t new.history) (sym is) (subst (P (turn_of_event e)) (ap (λ (s : WireState). s.history) (sym same))
    (over_event (λ t. P t mid.history) e told told))
