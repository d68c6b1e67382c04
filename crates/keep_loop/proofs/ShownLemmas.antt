-- What was shown of turns, in terms of their moves: the bodies after their ticks, and the marks behind them.
use Rattle.std.proofs.Common.{◌≡◌, ℕ, ◌+◌, ◌-◌, List, [], ◌∷◌, ◌++◌, length, refl, sym, ap, ◌∙◌, subst, append_assoc, append-nil, inl, inr, arith}
use Rattle.std.specs.Prelude.{Option, ◌⊎◌}
use Rattle.std.specs.List.{All, flat_map}
use Rattle.std.proofs.lemmas.Grind.{flat_map-append}
use Rattle.std.proofs.lemmas.List.{length-append}
use Rattle.std.proofs.lemmas.List.Elements.{All-head, All-tail, All-nil, All-cons, All-append}
use Rattle.ads_outside.specs.declared.event.Event.{Event}
use Rattle.ads_outside.specs.declared.event.Event.TheVariants as event
use Rattle.ads_outside.specs.WireState.{WireHistory, history_after}
use Rattle.spec_machine.specs.MachineState.{MachineState}
use Rattle.spec_machine.specs.Moves.{EventStep, state_after}
use Rattle.spec_machine.specs.Turns.{LogTurn, moves_of_turn}
use Rattle.serve_loop.specs.Leads.{events_in}
use Rattle.serve_loop.specs.Looks.{Look, look_at, looks_at_event, looks_of_turns}
use Rattle.serve_loop.proofs.LeadLemmas.{history-append}
use Rattle.persist_store.specs.Marks.{Mark}
use Rattle.keep_loop.specs.Bodies.{BodyOf, bodies_at_event, bodies_at_ticks, bodies_looked_at, paced}
use Rattle.keep_loop.specs.Keeping.{left_behind}
use Rattle.keep_loop.specs.Marking.{AreMarks, IsBehind, MarksLook, MarksSoFar}
use Rattle.keep_loop.specs.Shown.{bodies_shown, looked_at, MarksShown, MarksShownSoFar}
use Rattle.keep_loop.proofs.BodyLemmas.{bodies-append, turn_shown}
use Rattle.keep_loop.proofs.MarkLemmas.{Follows, marks_more}
use Rattle.keep_loop.proofs.PaceLemmas.{paced-append, left-append}

-- each turn has one event
abbrev pub HasOne : LogTurn → Type 0
HasOne t = events_in (moves_of_turn t) ≡ 1

event_shown : (e : Event) (look : Look) → bodies_shown (looks_at_event e look) ≡ bodies_at_event e look.body
event_shown (event.Opened c) look = refl
event_shown (event.Piece c bytes) look = refl
event_shown (event.Closed c) look = refl
event_shown (event.Tick t) look = refl
event_shown (event.Reload bytes) look = refl
event_shown (event.Writable c) look = refl

pub shown-append : (looks more : List Look) → bodies_shown (looks ++ more) ≡ bodies_shown looks ++ bodies_shown more
shown-append [] more = refl
shown-append (look ∷ looks) more = ap (λ l. look.body ∷ l) (shown-append looks more)

-- the bodies that were shown are those after the ticks of the moves
pub bodies_of_turns : {W C : Type 0} (body_of : BodyOf W) (step : EventStep W C) (ts : List LogTurn) (s : MachineState W C) (h : WireHistory)
    → All HasOne ts → bodies_shown (looks_of_turns body_of step s h ts) ≡ bodies_at_ticks body_of step s (flat_map moves_of_turn ts)
unfolding looks_of_turns bodies_at_ticks
bodies_of_turns body_of step [] s h each = refl
bodies_of_turns {W} {C} body_of step (t ∷ ts) s h each =
    let ms = moves_of_turn t in
    let later = state_after step s ms in
    let behind = history_after h ms in
    let here = look_at (body_of later.world) behind in
    let one = All-head HasOne t ts each in
    let rest = bodies_at_ticks body_of step later (flat_map moves_of_turn ts) in
    shown-append (looks_at_event t.event here) (looks_of_turns body_of step later behind ts)
    ∙ (ap (λ l. l ++ bodies_shown (looks_of_turns body_of step later behind ts))
    (event_shown t.event here ∙ sym (turn_shown body_of step t s one))
    ∙ (ap (λ l. bodies_at_ticks body_of step s ms ++ l) (bodies_of_turns body_of step ts later behind (All-tail HasOne t ts each))
    ∙ sym (bodies-append body_of step ms (flat_map moves_of_turn ts) s)))

quiet_or_tick : (e : Event) → ((look : Look) → looks_at_event e look ≡ []) ⊎ ((look : Look) → looks_at_event e look ≡ look ∷ [])
quiet_or_tick (event.Opened c) = inl (λ look. refl)
quiet_or_tick (event.Piece c bytes) = inl (λ look. refl)
quiet_or_tick (event.Closed c) = inl (λ look. refl)
quiet_or_tick (event.Tick t) = inr (λ look. refl)
quiet_or_tick (event.Reload bytes) = inl (λ look. refl)
quiet_or_tick (event.Writable c) = inl (λ look. refl)

-- turns up to the one that showed this look behind others
record SplitsAt {W C : Type 0} (body_of : BodyOf W) (step : EventStep W C) (s : MachineState W C) (h : WireHistory) (ts : List LogTurn)
    (before : List Look) (look : Look) : Type 0 where
  front : List LogTurn
  turn : LogTurn
  back : List LogTurn
  are : ts ≡ front ++ turn ∷ back
  shown : looks_of_turns body_of step s h front ≡ before
  more : looks_of_turns body_of step s h (front ++ turn ∷ []) ≡ before ++ look ∷ []
  wire : look.wire ≡ history_after h (flat_map moves_of_turn front ++ moves_of_turn turn)

nothing_split : {X : Type 0} (before : List Look) (look : Look) (later : List Look) → [] ≡ before ++ look ∷ later → X
nothing_split [] look later e = cc
nothing_split (b ∷ before) look later e = cc

-- a turn that shows nothing before them
split_quiet : {W C : Type 0} (body_of : BodyOf W) (step : EventStep W C) (t : LogTurn) (ts : List LogTurn) (s : MachineState W C) (h : WireHistory)
    (before : List Look) (look : Look) → ((l : Look) → looks_at_event t.event l ≡ [])
    → SplitsAt body_of step (state_after step s (moves_of_turn t)) (history_after h (moves_of_turn t)) ts before look
    → SplitsAt body_of step s h (t ∷ ts) before look
unfolding looks_of_turns
split_quiet body_of step t ts s h before look none r =
    let ms = moves_of_turn t in
    let later = state_after step s ms in
    let behind = history_after h ms in
    let here = look_at (body_of later.world) behind in
    record {
      front = t ∷ r.front;
      turn = r.turn;
      back = r.back;
      are = ap (λ l. t ∷ l) r.are;
      shown = ap (λ l. l ++ looks_of_turns body_of step later behind r.front) (none here) ∙ r.shown;
      more = ap (λ l. l ++ looks_of_turns body_of step later behind (r.front ++ r.turn ∷ [])) (none here) ∙ r.more;
      wire = r.wire ∙ (sym (history-append h ms (flat_map moves_of_turn r.front ++ moves_of_turn r.turn))
          ∙ ap (history_after h) (sym (append_assoc ms (flat_map moves_of_turn r.front) (moves_of_turn r.turn))));
    }

-- a turn that shows a look before them
split_shown : {W C : Type 0} (body_of : BodyOf W) (step : EventStep W C) (t : LogTurn) (ts : List LogTurn) (s : MachineState W C) (h : WireHistory)
    (b : Look) (before : List Look) (look : Look) → looks_at_event t.event (look_at (body_of (state_after step s (moves_of_turn t)).world)
    (history_after h (moves_of_turn t))) ≡ b ∷ []
    → SplitsAt body_of step (state_after step s (moves_of_turn t)) (history_after h (moves_of_turn t)) ts before look
    → SplitsAt body_of step s h (t ∷ ts) (b ∷ before) look
unfolding looks_of_turns
split_shown body_of step t ts s h b before look one r =
    let ms = moves_of_turn t in
    let later = state_after step s ms in
    let behind = history_after h ms in
    record {
      front = t ∷ r.front;
      turn = r.turn;
      back = r.back;
      are = ap (λ l. t ∷ l) r.are;
      shown = ap (λ l. l ++ looks_of_turns body_of step later behind r.front) one ∙ ap (λ l. b ∷ l) r.shown;
      more = ap (λ l. l ++ looks_of_turns body_of step later behind (r.front ++ r.turn ∷ [])) one ∙ ap (λ l. b ∷ l) r.more;
      wire = r.wire ∙ (sym (history-append h ms (flat_map moves_of_turn r.front ++ moves_of_turn r.turn))
          ∙ ap (history_after h) (sym (append_assoc ms (flat_map moves_of_turn r.front) (moves_of_turn r.turn))));
    }

-- the turn itself
split_here : {W C : Type 0} (body_of : BodyOf W) (step : EventStep W C) (t : LogTurn) (ts : List LogTurn) (s : MachineState W C) (h : WireHistory)
    (look : Look) → looks_at_event t.event (look_at (body_of (state_after step s (moves_of_turn t)).world) (history_after h (moves_of_turn t))) ≡ look ∷ []
    → look_at (body_of (state_after step s (moves_of_turn t)).world) (history_after h (moves_of_turn t)) ≡ look
    → SplitsAt body_of step s h (t ∷ ts) [] look
unfolding looks_of_turns
split_here body_of step t ts s h look one is = record {
  front = [];
  turn = t;
  back = ts;
  are = refl;
  shown = refl;
  more = ap (λ l. l ++ []) one;
  wire = ap (λ (l : Look). l.wire) (sym is);
}

head_is : {X : Type 0} (x y : X) (xs ys : List X) → x ∷ xs ≡ y ∷ ys → x ≡ y
head_is x y xs ys e = cc

tail_is : {X : Type 0} (x y : X) (xs ys : List X) → x ∷ xs ≡ y ∷ ys → xs ≡ ys
tail_is x y xs ys e = cc

split_at : {W C : Type 0} (body_of : BodyOf W) (step : EventStep W C) (ts : List LogTurn) (s : MachineState W C) (h : WireHistory)
    (before : List Look) (look : Look) (later : List Look) → looks_of_turns body_of step s h ts ≡ before ++ look ∷ later
    → SplitsAt body_of step s h ts before look
unfolding looks_of_turns
split_at body_of step [] s h before look later are = nothing_split before look later are
split_at {W} {C} body_of step (t ∷ ts) s h before look later are =
    let next = state_after step s (moves_of_turn t) in
    let behind = history_after h (moves_of_turn t) in
    let here = look_at (body_of next.world) behind in
    let rest = looks_of_turns body_of step next behind ts in
    elim (quiet_or_tick t.event) [
      | inl none ↦ split_quiet body_of step t ts s h before look none
          (split_at body_of step ts next behind before look later (sym (ap (λ l. l ++ rest) (none here)) ∙ are))
      | inr one ↦ split_tick body_of step t ts s h before look later (one here) (sym (ap (λ l. l ++ rest) (one here)) ∙ are)
          (λ front e. split_at body_of step ts next behind front look later e)
    ]
  where
    split_tick : {W C : Type 0} (body_of : BodyOf W) (step : EventStep W C) (t : LogTurn) (ts : List LogTurn) (s : MachineState W C) (h : WireHistory)
        (before : List Look) (look : Look) (later : List Look)
        → looks_at_event t.event (look_at (body_of (state_after step s (moves_of_turn t)).world) (history_after h (moves_of_turn t)))
        ≡ look_at (body_of (state_after step s (moves_of_turn t)).world) (history_after h (moves_of_turn t)) ∷ []
        → look_at (body_of (state_after step s (moves_of_turn t)).world) (history_after h (moves_of_turn t))
        ∷ looks_of_turns body_of step (state_after step s (moves_of_turn t)) (history_after h (moves_of_turn t)) ts ≡ before ++ look ∷ later
        → ((front : List Look) → looks_of_turns body_of step (state_after step s (moves_of_turn t)) (history_after h (moves_of_turn t)) ts
        ≡ front ++ look ∷ later → SplitsAt body_of step (state_after step s (moves_of_turn t)) (history_after h (moves_of_turn t)) ts front look)
        → SplitsAt body_of step s h (t ∷ ts) before look
    split_tick body_of step t ts s h [] look later one are goes =
        let here = look_at (body_of (state_after step s (moves_of_turn t)).world) (history_after h (moves_of_turn t)) in
        let is : here ≡ look = head_is here look (looks_of_turns body_of step (state_after step s (moves_of_turn t)) (history_after h (moves_of_turn t))
        ts) later are in
        split_here body_of step t ts s h look (one ∙ ap (λ l. l ∷ []) is) is
    split_tick body_of step t ts s h (b ∷ before) look later one are goes =
        let here = look_at (body_of (state_after step s (moves_of_turn t)).world) (history_after h (moves_of_turn t)) in
        let rest = looks_of_turns body_of step (state_after step s (moves_of_turn t)) (history_after h (moves_of_turn t)) ts in
        split_shown body_of step t ts s h b before look (one ∙ ap (λ l. l ∷ []) (head_is here b rest (before ++ look ∷ later) are))
        (goes before (tail_is here b rest (before ++ look ∷ later) are))

marks_each : (Is Then : ℕ → Mark → Type 0) → ((n : ℕ) (mark : Mark) → Is n mark → Then n mark) → (count : ℕ) (marks : List Mark)
    → AreMarks Is count marks → AreMarks Then count marks
marks_each Is Then to count [] are = tt
marks_each Is Then to count (mark ∷ marks) are = (to count mark are.0, marks_each Is Then to (count + 1) marks are.1)

flat_one : (front : List LogTurn) (turn : LogTurn) → flat_map moves_of_turn (front ++ turn ∷ []) ≡ flat_map moves_of_turn front ++ moves_of_turn turn
flat_one front turn =
    flat_map-append moves_of_turn front (turn ∷ []) ∙ ap (λ l. flat_map moves_of_turn front ++ l) (append-nil (moves_of_turn turn))

flat_split : (front back : List LogTurn) (turn : LogTurn)
    → flat_map moves_of_turn (front ++ turn ∷ back) ≡ (flat_map moves_of_turn front ++ moves_of_turn turn) ++ flat_map moves_of_turn back
flat_split front back turn =
    flat_map-append moves_of_turn front (turn ∷ back)
    ∙ sym (append_assoc (flat_map moves_of_turn front) (moves_of_turn turn) (flat_map moves_of_turn back))

all_front : (front back : List LogTurn) → All HasOne (front ++ back) → All HasOne front
all_front [] back each = All-nil HasOne
all_front (t ∷ front) back each =
    All-cons HasOne t front (All-head HasOne t (front ++ back) each) (all_front front back (All-tail HasOne t (front ++ back) each))

all_one : (front back : List LogTurn) (t : LogTurn) → All HasOne (front ++ t ∷ back) → HasOne t
all_one [] back t each = All-head HasOne t back each
all_one (f ∷ front) back t each = all_one front back t (All-tail HasOne f (front ++ t ∷ back) each)

module _ {W C : Type 0} (every : ℕ) (body_of : BodyOf W) (step : EventStep W C) (s : MachineState W C) (h : WireHistory)
    (Holds : List (List ℕ) → Option (List ℕ) → Type 0) where
  -- the bodies that were looked at
  pub looked_of_turns : (ts : List LogTurn) → All HasOne ts
      → looked_at every (looks_of_turns body_of step s h ts) ≡ bodies_looked_at every body_of step s (flat_map moves_of_turn ts)
  looked_of_turns ts each = ap (paced every (every - 1)) (bodies_of_turns body_of step ts s h each)

  -- a mark behind a look stands behind the turn that showed it
  mark_of_turn : (ts : List LogTurn) → All HasOne ts → (count : ℕ) (mark : Mark)
      → MarksShown every Holds (looks_of_turns body_of step s h ts) count mark
      → MarksLook (bodies_looked_at every body_of step s) (IsBehind h) Holds (flat_map moves_of_turn ts) count mark
  mark_of_turn ts each count mark m =
      let r = split_at body_of step ts s h m.before m.look m.later m.are in
      let all : All HasOne (r.front ++ r.turn ∷ r.back) = subst (All HasOne) r.are each in
      let first = flat_map moves_of_turn r.front in
      let turn = moves_of_turn r.turn in
      let one = all_one r.front r.back r.turn all in
      let front = all_front r.front (r.turn ∷ r.back) all in
      let both : All HasOne (r.front ++ r.turn ∷ []) =
      All-append HasOne r.front (r.turn ∷ []) front (All-cons HasOne r.turn [] one (All-nil HasOne)) in
      let so_far : looked_at every m.before ≡ bodies_looked_at every body_of step s first =
      ap (looked_at every) (sym r.shown) ∙ looked_of_turns r.front front in
      let due : looked_at every (m.before ++ m.look ∷ []) ≡ bodies_looked_at every body_of step s (first ++ turn) =
      ap (looked_at every) (sym r.more) ∙ (looked_of_turns (r.front ++ r.turn ∷ []) both
      ∙ ap (bodies_looked_at every body_of step s) (flat_one r.front r.turn)) in
      record {
        before = first;
        turn = turn;
        later = flat_map moves_of_turn r.back;
        are = ap (flat_map moves_of_turn) r.are ∙ flat_split r.front r.back r.turn;
        one = one;
        so_far = ap length (sym so_far) ∙ m.so_far;
        due = ap length (sym due) ∙ m.due;
        wire = m.wire ∙ r.wire;
        holds = subst (λ l. Holds l mark.file) due m.holds;
      }

  pub marks_of_turns : (Marked : List Mark → Type 0) (marks : List Mark) (ts : List LogTurn) → All HasOne ts
      → MarksShownSoFar Marked marks every Holds (looks_of_turns body_of step s h ts)
      → MarksSoFar Marked marks (bodies_looked_at every body_of step s) h Holds (flat_map moves_of_turn ts)
  marks_of_turns Marked marks ts each m = record {
    looks = m.marked;
    told = m.told;
    each = m.each ∙ ap length (looked_of_turns ts each);
    are = marks_each (MarksShown every Holds (looks_of_turns body_of step s h ts))
        (MarksLook (bodies_looked_at every body_of step s) (IsBehind h) Holds (flat_map moves_of_turn ts))
        (λ n mark is. mark_of_turn ts each n mark is) 0 m.marked m.are;
  }

-- the marks behind looks go on with one more
marks_shown_later : (every : ℕ) (Holds Then : List (List ℕ) → Option (List ℕ) → Type 0) (looks more : List Look) (count : ℕ) (marked : List Mark)
    → Follows Holds Then → AreMarks (MarksShown every Holds looks) count marked → AreMarks (MarksShown every Then (looks ++ more)) count marked
marks_shown_later every Holds Then looks more count marked follows are =
    marks_each (MarksShown every Holds looks) (MarksShown every Then (looks ++ more)) (λ n mark is. record {
      before = is.before;
      look = is.look;
      later = is.later ++ more;
      are = ap (λ l. l ++ more) is.are ∙ append_assoc is.before (is.look ∷ is.later) more;
      so_far = is.so_far;
      due = is.due;
      wire = is.wire;
      holds = follows (looked_at every (is.before ++ is.look ∷ [])) mark.file is.holds;
    }) count marked are

pub marked_shown_none : (every : ℕ) (Holds : List (List ℕ) → Option (List ℕ) → Type 0) (Marked : List Mark → Type 0) (marks : List Mark)
    → Marked marks → MarksShownSoFar Marked marks every Holds []
unfolding paced
marked_shown_none every Holds Marked marks told =
    record { marked = []; told = subst Marked (sym (append-nil marks)) told; each = refl; are = tt }

module _ (every : ℕ) (Holds Then : List (List ℕ) → Option (List ℕ) → Type 0) (looks : List Look) (look : Look) (marks : List Mark)
    (follows : Follows Holds Then) where
  -- one whose body is let pass
  pub marked_shown_passed : (Marked : List Mark → Type 0) → looked_at every (looks ++ look ∷ []) ≡ looked_at every looks
      → MarksShownSoFar Marked marks every Holds looks → MarksShownSoFar Marked marks every Then (looks ++ look ∷ [])
  marked_shown_passed Marked same m = record {
    marked = m.marked;
    told = m.told;
    each = m.each ∙ sym (ap length same);
    are = marks_shown_later every Holds Then looks (look ∷ []) 0 m.marked follows m.are;
  }

  -- one whose body is looked at, and which is marked
  pub marked_shown_looked : (Marked Now : List Mark → Type 0) (mark : Mark)
      → length (looked_at every (looks ++ look ∷ [])) ≡ length (looked_at every looks) + 1 → mark.wire ≡ look.wire
      → Then (looked_at every (looks ++ look ∷ [])) mark.file → ((l : List Mark) → Marked l → Now (l ++ mark ∷ []))
      → MarksShownSoFar Marked marks every Holds looks → MarksShownSoFar Now marks every Then (looks ++ look ∷ [])
  marked_shown_looked Marked Now mark more wire holds adds m =
      let each = m.each in
      let due : length (looked_at every (looks ++ look ∷ [])) ≡ 0 + length m.marked + 1 = omega (arith, each, more) in
      let so_far : length (looked_at every looks) ≡ 0 + length m.marked = omega (arith, each) in
      record {
        marked = m.marked ++ mark ∷ [];
        told = subst Now (append_assoc marks m.marked (mark ∷ [])) (adds (marks ++ m.marked) m.told);
        each = length-append m.marked (mark ∷ []) ∙ (ap (λ n. n + 1) each ∙ sym more);
        are = marks_more (MarksShown every Then (looks ++ look ∷ [])) 0 m.marked mark
            (marks_shown_later every Holds Then looks (look ∷ []) 0 m.marked follows m.are)
            (record { before = looks; look = look; later = []; are = refl; so_far = so_far; due = due; wire = wire; holds = holds });
      }

-- the bodies that are looked at with one look more, and how many more are let pass then
pub looked_at-more : (every left : ℕ) (looks : List Look) (look : Look) → left ≡ left_behind every (every - 1) (bodies_shown looks)
    → looked_at every (looks ++ look ∷ []) ≡ looked_at every looks ++ paced every left (look.body ∷ [])
looked_at-more every left looks look pace =
    ap (paced every (every - 1)) (shown-append looks (look ∷ [])) ∙ (paced-append every (every - 1) (bodies_shown looks) (look.body ∷ [])
    ∙ ap (λ n. looked_at every looks ++ paced every n (look.body ∷ [])) (sym pace))

pub pace-more : (every left then_ : ℕ) (looks : List Look) (look : Look) → left ≡ left_behind every (every - 1) (bodies_shown looks)
    → then_ ≡ left_behind every left (look.body ∷ []) → then_ ≡ left_behind every (every - 1) (bodies_shown (looks ++ look ∷ []))
pace-more every left then_ looks look pace next =
    next ∙ (ap (λ n. left_behind every n (look.body ∷ [])) pace
    ∙ (sym (left-append every (every - 1) (bodies_shown looks) (look.body ∷ [])) ∙ ap (left_behind every (every - 1)) (sym (shown-append looks (look ∷ [])))))
