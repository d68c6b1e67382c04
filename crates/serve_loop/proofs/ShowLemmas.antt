-- What is shown of turns one after another.
use Rattle.std.proofs.Common.{◌≡◌, ℕ, zero, suc, ◌+◌, ◌<◌, List, [], ◌∷◌, ◌++◌, refl, sym, ap, ◌∙◌, subst, append_assoc, append-nil, arith}
use Rattle.std.specs.List.{flat_map}
use Rattle.std.proofs.lemmas.Grind.{flat_map-append}
use Rattle.std.proofs.lemmas.List.Elements.{All-append, All-cons, All-nil}
use Rattle.ads_outside.specs.declared.event.Event.{Event}
use Rattle.ads_outside.specs.declared.event.Event.TheVariants as event
use Rattle.ads_outside.specs.declared.moves.Move.{Move}
use Rattle.ads_outside.specs.WireState.{WireHistory, history_after}
use Rattle.spec_machine.specs.Delivery.{AreOffers}
use Rattle.spec_machine.specs.MachineState.{MachineState}
use Rattle.spec_machine.specs.Moves.{EventStep, state_after}
use Rattle.spec_machine.specs.Running.{Running}
use Rattle.spec_machine.specs.Turns.{LogTurn, moves_of_turn}
use Rattle.spec_machine.proofs.Changes.{state_after-append}
use Rattle.ads_served.specs.Standing.{Standing, Noting, running_after_all, standing_after_all}
use Rattle.serve_loop.specs.declared.turn_end.Turn.{Turn}
use Rattle.serve_loop.specs.declared.turn_end.Turn.TheVariants as turn
use Rattle.serve_loop.specs.Beside.{ShownOf, ShowsEvent, ShowsTurn, ShowsTurns, ShowsBefore, ShowsBroken, StaysSeen, StopsTurn, ShowsStopped}
use Rattle.serve_loop.specs.Leads.{events_in}
use Rattle.serve_loop.specs.Looks.{Look, look_at, looks_at_event, looks_of_turns, SeesMore}
use Rattle.serve_loop.specs.TurnTaken.{StandsOver, StandsForSome, IsTurnOf, TakesEvent, TakesTurns, Stays, BreaksTurn, turn_of_event}
use Rattle.serve_loop.proofs.LeadLemmas.{events-append, history-append, standing-append, standing-running, AreOffers-append}
use Rattle.serve_loop.proofs.TurnLemmas.{stands_over, turns_none, turns_then}

pub looks-append : {W C : Type 0} (body_of : W → List ℕ) (step : EventStep W C) (ts us : List LogTurn) (s : MachineState W C) (h : WireHistory)
    → looks_of_turns body_of step s h (ts ++ us) ≡ looks_of_turns body_of step s h ts
    ++ looks_of_turns body_of step (state_after step s (flat_map moves_of_turn ts)) (history_after h (flat_map moves_of_turn ts)) us
unfolding looks_of_turns state_after history_after
looks-append body_of step [] us s h = refl
looks-append {W} {C} body_of step (t ∷ ts) us s h =
    let m = moves_of_turn t in
    let rest = flat_map moves_of_turn ts in
    let one = looks_at_event t.event (look_at (body_of (state_after step s m).world) (history_after h m)) in
    let later = looks_of_turns body_of step (state_after step s m) (history_after h m) ts in
    let State : MachineState W C → Type 0 = λ y. looks_of_turns body_of step (state_after step s m) (history_after h m) (ts ++ us)
    ≡ later ++ looks_of_turns body_of step y (history_after (history_after h m) rest) us in
    let Wire : WireHistory → Type 0 = λ y. looks_of_turns body_of step (state_after step s m) (history_after h m) (ts ++ us)
    ≡ later ++ looks_of_turns body_of step (state_after step s (m ++ rest)) y us in
    let by_state = subst State (sym (state_after-append step m rest s)) (looks-append body_of step ts us (state_after step s m) (history_after h m)) in
    let by_wire = subst Wire (sym (history-append h m rest)) by_state in
    ap (λ looks. one ++ looks) by_wire ∙ sym (append_assoc one later
    (looks_of_turns body_of step (state_after step s (m ++ rest)) (history_after h (m ++ rest)) us))

-- what is shown behind a turn with a tick, and behind any other
pub tick_looks : (e : Event) (look : Look) → turn.Tick ≡ turn_of_event e → looks_at_event e look ≡ look ∷ []
tick_looks (event.Opened c) look kind = cc
tick_looks (event.Piece c bytes) look kind = cc
tick_looks (event.Closed c) look kind = cc
tick_looks (event.Tick t) look kind = refl
tick_looks (event.Reload bytes) look kind = cc
tick_looks (event.Writable c) look kind = cc

pub other_looks : (e : Event) (look : Look) → turn.Other ≡ turn_of_event e → looks_at_event e look ≡ []
other_looks (event.Opened c) look kind = refl
other_looks (event.Piece c bytes) look kind = refl
other_looks (event.Closed c) look kind = refl
other_looks (event.Tick t) look kind = cc
other_looks (event.Reload bytes) look kind = refl
other_looks (event.Writable c) look kind = refl

-- the look behind moves
abbrev pub look_behind : {W C : Type 0} → (W → List ℕ) → EventStep W C → MachineState W C → WireHistory → List Move → Look
look_behind body_of step s h ms = look_at (body_of (state_after step s ms).world) (history_after h ms)

look_behind-append : {W C : Type 0} (body_of : W → List ℕ) (step : EventStep W C) (s : MachineState W C) (h : WireHistory) (ms ns : List Move)
    → look_behind body_of step (state_after step s ms) (history_after h ms) ns ≡ look_behind body_of step s h (ms ++ ns)
look_behind-append {W} {C} body_of step s h ms ns =
    ap (λ (y : MachineState W C). look_at (body_of y.world) (history_after (history_after h ms) ns)) (sym (state_after-append step ms ns s))
    ∙ ap (λ y. look_at (body_of (state_after step s (ms ++ ns)).world) y) (sym (history-append h ms ns))

-- one turn more is shown
pub shown_more : {W C : Type 0} (body_of : W → List ℕ) (step : EventStep W C) (x : Running W C) (h : WireHistory) (ms ns : List Move) (e : Event)
    (Old New : List Look → Type 0)
    → ShownOf body_of step x h ms Old → IsTurnOf step e (running_after_all step x ms) ns → events_in ns ≡ 1
    → ((looks : List Look) → Old looks → New (looks ++ looks_at_event e (look_behind body_of step x.state h (ms ++ ns))))
    → ShownOf body_of step x h (ms ++ ns) New
unfolding looks_of_turns
shown_more {W} {C} body_of step x h ms ns e Old New first second one goes =
    let One : LogTurn → Type 0 = λ turn. events_in (moves_of_turn turn) ≡ 1 in
    let t : LogTurn = record { event = e; served = second.served } in
    let looks = looks_of_turns body_of step x.state h first.turns in
    let K : List Move → List Move → List Look = λ ps qs. looks ++ (looks_at_event e (look_behind body_of step (state_after step x.state ps)
    (history_after h ps) qs) ++ []) in
    let all : looks_of_turns body_of step x.state h (first.turns ++ t ∷ []) ≡ K (flat_map moves_of_turn first.turns) (moves_of_turn t) =
    looks-append body_of step first.turns (t ∷ []) x.state h in
    let here : looks_of_turns body_of step x.state h (first.turns ++ t ∷ []) ≡ K ms ns =
    all ∙ (ap (λ ps. K ps (moves_of_turn t)) (sym first.are) ∙ ap (λ qs. K ms qs) (sym second.are)) in
    let is : looks_of_turns body_of step x.state h (first.turns ++ t ∷ []) ≡ looks ++ looks_at_event e (look_behind body_of step x.state h (ms ++ ns)) =
    here ∙ (ap (λ more. looks ++ more) (append-nil (looks_at_event e (look_behind body_of step (state_after step x.state ms) (history_after h ms) ns)))
    ∙ ap (λ look. looks ++ looks_at_event e look) (look_behind-append body_of step x.state h ms ns)) in
    record {
      turns = first.turns ++ t ∷ [];
      are = ap (λ moves. moves ++ ns) first.are
          ∙ (ap (λ moves. flat_map moves_of_turn first.turns ++ moves) (second.are ∙ sym (append-nil (moves_of_turn t)))
          ∙ sym (flat_map-append moves_of_turn first.turns (t ∷ [])));
      one = All-append One first.turns (t ∷ []) first.one (All-cons One t [] (subst (λ moves. events_in moves ≡ 1) second.are one) (All-nil One));
      seen = subst New (sym is) (goes looks first.seen);
    }

-- no turn was taken, and nothing is shown
pub shows_none : {W C K : Type 0} (body_of : W → List ℕ) (step : EventStep W C) (noted : Noting W C) (serves : Standing W C → Type 0) (h : WireHistory)
    (Seen : K → List Look → Type 0) → (kept : K) × Seen kept [] → ShowsTurns body_of step noted serves serves h h 0 Seen
unfolding looks_of_turns standing_after_all history_after
shows_none body_of step noted serves h Seen begins = record {
  turns = record { moves = []; logged = refl; events = refl; stands = λ x over. over; are = λ x over. turns_none step x.running };
  kept = begins.0;
  shown = λ x over. record { turns = []; are = refl; one = All-nil (λ t. events_in (moves_of_turn t) ≡ 1); seen = begins.1 };
}

-- turns, and one more
joined : {W C : Type 0} (step : EventStep W C) (noted : Noting W C) (old_serves mid_serves new_serves : Standing W C → Type 0)
    (old mid new : WireHistory) (count : ℕ) (tells : Turn) (turns : TakesTurns step noted old_serves mid_serves old mid count)
    (takes : TakesEvent step noted mid_serves new_serves mid new tells)
    → (both : TakesTurns step noted old_serves new_serves old new (count + 1)) × (both.moves ≡ turns.moves ++ takes.leads.moves)
joined {W} {C} step noted old_serves mid_serves new_serves old mid new count tells turns takes =
    let ms = turns.moves in
    let ns = takes.leads.moves in (
      record {
        moves = ms ++ ns;
        events = events-append ms ns ∙ (ap (λ k. k + events_in ns) turns.events ∙ ap (λ k. count + k) takes.leads.events);
        logged = takes.leads.logged ∙ (ap (λ h. history_after h ns) turns.logged ∙ sym (history-append old ms ns));
        stands = λ x over.
            let P : Standing W C → Type 0 = λ y. StandsOver new_serves new.opened y in
            subst P (sym (standing-append step noted x ms ns)) (takes.leads.stands (standing_after_all step noted x ms) (turns.stands x over));
        are = λ x over.
            let R : Running W C → Type 0 = λ r. IsTurnOf step takes.event r ns in
            turns_then step takes.event x.running ms ns (turns.are x over)
            (subst R (standing-running step noted x ms) (takes.leads.are (standing_after_all step noted x ms) (turns.stands x over)));
      },
      refl,
    )

-- one turn more, of whatever kind
pub shows_more : {W C K : Type 0} (body_of : W → List ℕ) (step : EventStep W C) (noted : Noting W C)
    (old_serves mid_serves new_serves : Standing W C → Type 0) (old mid new : WireHistory) (count : ℕ) (tells : Turn)
    (Old New : K → List Look → Type 0) → (shows : ShowsTurns body_of step noted old_serves mid_serves old mid count Old)
    → (takes : TakesEvent step noted mid_serves new_serves mid new tells)
    → ShowsEvent body_of new_serves new takes.event (Old shows.kept) New
    → ShowsTurns body_of step noted old_serves new_serves old new (count + 1) New
shows_more {W} {C} {K} body_of step noted old_serves mid_serves new_serves old mid new count tells Old New shows takes goes =
    let it = joined step noted old_serves mid_serves new_serves old mid new count tells shows.turns takes in
    let ms = shows.turns.moves in
    let ns = takes.leads.moves in
    let Of : List Move → Standing W C → Type 0 = λ moves x. ShownOf body_of step x.running old moves (New goes.more) in
    record {
      turns = it.0;
      kept = goes.more;
      shown = λ x over.
          let y = standing_after_all step noted x (ms ++ ns) in
          let z = standing_after_all step noted x ms in
          let R : Running W C → Type 0 = λ r. IsTurnOf step takes.event r ns in
          let turn_is : IsTurnOf step takes.event (running_after_all step x.running ms) ns =
          subst R (standing-running step noted x ms) (takes.leads.are z (shows.turns.stands x over)) in
          let L : Running W C → WireHistory → Look = λ r h. look_at (body_of r.state.world) h in
          let logged : new ≡ history_after old (ms ++ ns) = subst (λ moves. new ≡ history_after old moves) it.1 it.0.logged in
          let same : look_at (body_of y.running.state.world) new ≡ look_behind body_of step x.running.state old (ms ++ ns) =
          ap (λ r. L r new) (standing-running step noted x (ms ++ ns))
          ∙ ap (λ h. L (running_after_all step x.running (ms ++ ns)) h) logged in
          let serves : new_serves y = subst (λ moves. new_serves (standing_after_all step noted x moves)) it.1 (it.0.stands x over).stands in
          subst (λ moves. Of moves x) (sym it.1) (shown_more body_of step x.running old ms ns takes.event (Old shows.kept) (New goes.more) (shows.shown x over)
          turn_is takes.leads.events
          (λ looks seen. let P : Look → Type 0 = λ look. New goes.more (looks ++ looks_at_event takes.event look) in
          subst P same (goes.sees looks y seen serves)));
    }

-- what is served stays, and then this came of the wire
pub shows_before : {W C K : Type 0} (body_of : W → List ℕ) (step : EventStep W C) (noted : Noting W C)
    (old_serves mid_serves new_serves : Standing W C → Type 0) (old mid : WireHistory) (count limit : ℕ) (Then : WireHistory → Type 0)
    (Seen : K → List Look → Type 0) → ShowsTurns body_of step noted old_serves mid_serves old mid count Seen → count < limit
    → Stays mid_serves new_serves → Then mid → ShowsBefore body_of step noted old_serves new_serves old limit Then Seen
shows_before body_of step noted old_serves mid_serves new_serves old mid count limit Then Seen shows fewer stays then_ = record {
  last = mid;
  count = count;
  fewer = fewer;
  shows = record {
    turns = record {
      moves = shows.turns.moves;
      logged = shows.turns.logged;
      events = shows.turns.events;
      stands = λ x over. stands_over mid_serves new_serves mid.opened stays _ (shows.turns.stands x over);
      are = shows.turns.are;
    };
    kept = shows.kept;
    shown = shows.shown;
  };
  then_ = then_;
}

-- memory was wanting behind some turns
pub shows_broken : {W C K : Type 0} (body_of : W → List ℕ) (step : EventStep W C) (noted : Noting W C)
    (old_serves mid_serves : Standing W C → Type 0) (old mid new : WireHistory) (count limit : ℕ) (Seen : K → List Look → Type 0)
    → ShowsTurns body_of step noted old_serves mid_serves old mid count Seen → count < limit
    → BreaksTurn step noted mid_serves mid new 1 → ShowsBroken body_of step noted old_serves old new limit Seen
shows_broken {W} {C} {K} body_of step noted old_serves mid_serves old mid new count limit Seen shows fewer broken = record {
  last = mid;
  count = count;
  shows = record {
    turns = record {
      moves = shows.turns.moves;
      logged = shows.turns.logged;
      events = shows.turns.events;
      stands = λ x over. record { stands = tt; numbers = (shows.turns.stands x over).numbers };
      are = shows.turns.are;
    };
    kept = shows.kept;
    shown = shows.shown;
  };
  later = broken.breaks.moves;
  logged = broken.breaks.logged;
  few = (let same : events_in broken.breaks.moves ≡ broken.count = broken.breaks.events in omega (arith, broken.within, same));
  most = (let same : events_in broken.breaks.moves ≡ broken.count = broken.breaks.events in omega (arith, fewer, broken.within, same));
  offers = λ x over.
      let P : Running W C → Type 0 = λ r. AreOffers step r.state broken.breaks.moves in
      let z = standing_after_all step noted x shows.turns.moves in
      AreOffers-append step x.running shows.turns.moves broken.breaks.moves (shows.turns.are x over).offers
      (subst P (standing-running step noted x shows.turns.moves) (broken.breaks.are z (shows.turns.stands x over)));
}

-- a turn with a tick, and any other
pub turn_ticked : {W C A O K : Type 0} (body_of : W → List ℕ) (step : EventStep W C) (noted : Noting W C)
    (old_serves new_serves : Standing W C → Type 0) (old new : WireHistory) (Old Mid New : A → O → K → List Look → Type 0)
    → TakesEvent step noted old_serves new_serves old new turn.Tick → StaysSeen Old Mid
    → ((first : A) (start : O) (kept : K) → SeesMore body_of new_serves new (Mid first start kept) (New first start))
    → ShowsTurn body_of step noted old_serves new_serves old new Old New
turn_ticked {W} {C} {A} {O} {K} body_of step noted old_serves new_serves old new Old Mid New takes stays goes = record {
  tells = turn.Tick;
  takes = takes;
  shows = λ first start kept.
      let one = goes first start kept in
      record {
        more = one.more;
        sees = λ looks y seen serves.
            let P : List Look → Type 0 = λ more. New first start one.more (looks ++ more) in
            subst P (sym (tick_looks takes.event (look_at (body_of y.running.state.world) new) takes.kind))
            (one.sees looks y (stays first start kept looks seen) serves);
      };
}

pub turn_other : {W C A O K : Type 0} (body_of : W → List ℕ) (step : EventStep W C) (noted : Noting W C)
    (old_serves new_serves : Standing W C → Type 0) (old new : WireHistory) (Old New : A → O → K → List Look → Type 0)
    → TakesEvent step noted old_serves new_serves old new turn.Other → StaysSeen Old New
    → ShowsTurn body_of step noted old_serves new_serves old new Old New
turn_other {W} {C} {A} {O} {K} body_of step noted old_serves new_serves old new Old New takes stays = record {
  tells = turn.Other;
  takes = takes;
  shows = λ first start kept. record {
    more = kept;
    sees = λ looks y seen serves.
        let P : List Look → Type 0 = λ more. New first start kept (looks ++ more) in
        subst P (sym (other_looks takes.event (look_at (body_of y.running.state.world) new) takes.kind))
        (subst (λ l. New first start kept l) (sym (append-nil looks)) (stays first start kept looks seen));
  };
}

-- turns, and one more
pub shows_turn : {W C A O K : Type 0} (body_of : W → List ℕ) (step : EventStep W C) (noted : Noting W C)
    (old_serves mid_serves new_serves : Standing W C → Type 0) (old mid new : WireHistory) (count : ℕ)
    (Old New : A → O → K → List Look → Type 0) (first : A) (start : O)
    → ShowsTurns body_of step noted old_serves mid_serves old mid count (Old first start)
    → ShowsTurn body_of step noted mid_serves new_serves mid new Old New
    → ShowsTurns body_of step noted old_serves new_serves old new (count + 1) (New first start)
shows_turn body_of step noted old_serves mid_serves new_serves old mid new count Old New first start shows one =
    shows_more body_of step noted old_serves mid_serves new_serves old mid new count one.tells (Old first start) (New first start) shows one.takes
    (one.shows first start shows.kept)

-- what was seen may be told otherwise
pub shows_seen : {W C K : Type 0} (body_of : W → List ℕ) (step : EventStep W C) (noted : Noting W C) (old_serves new_serves : Standing W C → Type 0)
    (old new : WireHistory) (count : ℕ) (Old New : K → List Look → Type 0) → ((kept : K) (looks : List Look) → Old kept looks → New kept looks)
    → ShowsTurns body_of step noted old_serves new_serves old new count Old → ShowsTurns body_of step noted old_serves new_serves old new count New
shows_seen body_of step noted old_serves new_serves old new count Old New so shows = record {
  turns = shows.turns;
  kept = shows.kept;
  shown = λ x over.
      let all = shows.shown x over in
      record { turns = all.turns; are = all.are; one = all.one; seen = so shows.kept _ all.seen };
}

-- what stood beside the loop ended it behind some turns and one more
pub shows_stopped : {W C A O K M : Type 0} (body_of : W → List ℕ) (step : EventStep W C) (noted : Noting W C) (serves : M → Standing W C → Type 0)
    (old_serves new_serves : Standing W C → Type 0) (old mid new : WireHistory) (count limit : ℕ) (served : M) (there : O)
    (Old : A → O → K → List Look → Type 0) (Mid : A → O → A → O → K → List Look → Type 0) (Stops : A → O → Type 0) (first : A) (start : O)
    → ShowsTurns body_of step noted old_serves (serves served) old mid count (Old first start) → count < limit
    → StopsTurn step noted (serves served) new_serves mid new Old (λ (b : A) (a : A) (o : O). Mid a o b there) (λ (b : A). Stops b there)
    → ShowsStopped body_of step noted serves old_serves new_serves old new limit (λ (b : A) (o : O). Mid first start b o) Stops
shows_stopped body_of step noted serves old_serves new_serves old mid new count limit served there Old Mid Stops first start shows fewer stops = record {
  served = served;
  beside = stops.beside;
  outside = there;
  last = mid;
  count = count;
  fewer = fewer;
  shows = shows_seen body_of step noted old_serves (serves served) old mid count (Old first start) (Mid first start stops.beside there)
      (λ kept looks seen. stops.stays first start kept looks seen) shows;
  takes = stops.takes;
  stops = stops.stops;
}

-- where so many may be shown, fewer may
pub fewer_many : {P : ℕ → Type 0} → ((n : ℕ) → P (n + 1) → P n) → (k m : ℕ) → P (k + m) → P m
fewer_many {P} one zero m p = subst P (omega arith) p
fewer_many {P} one (suc k) m p = fewer_many {P = P} one k m (one (k + m) (subst P (omega arith) p))

-- it stands for something after some turns, and after one more
pub some_after : {W C K : Type 0} (body_of : W → List ℕ) (step : EventStep W C) (noted : Noting W C) (old_serves new_serves : Standing W C → Type 0)
    (old new : WireHistory) (count : ℕ) (Seen : K → List Look → Type 0) → ShowsTurns body_of step noted old_serves new_serves old new count Seen
    → StandsForSome (StandsOver old_serves old.opened) → StandsForSome (StandsOver new_serves new.opened)
some_after body_of step noted old_serves new_serves old new count Seen shows some =
    record { standing = standing_after_all step noted some.standing shows.turns.moves; stands = shows.turns.stands some.standing some.stands }

pub some_at_turn : {W C : Type 0} (step : EventStep W C) (noted : Noting W C) (old_serves new_serves : Standing W C → Type 0)
    (old new : WireHistory) (tells : Turn) → TakesEvent step noted old_serves new_serves old new tells
    → StandsForSome (StandsOver old_serves old.opened) → StandsForSome new_serves
some_at_turn step noted old_serves new_serves old new tells takes some =
    record { standing = standing_after_all step noted some.standing takes.leads.moves; stands = (takes.leads.stands some.standing some.stands).stands }

-- a turn is over: where so many might be shown before it, none may now
pub ready_none : (Old New : ℕ → Type 0) → ((n : ℕ) → New (n + 1) → New n) → (n : ℕ) → 0 < n → Old n → ((m : ℕ) → Old (m + 1) → New m) → New 0
ready_none Old New fewer zero some ready goes = absurd (omega (arith, some))
ready_none Old New fewer (suc n) some ready goes =
    fewer_many {P = New} fewer n 0 (subst New (omega arith) (goes n (subst Old (omega arith) ready)))
