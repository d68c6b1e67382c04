-- There is one log that keeps the turns and is answered by a script: the script's play.
use Rattle.std.proofs.Common.{◌≡◌, ℕ, List, [], ◌∷◌, ◌++◌, length, take, true, false, cond, refl, sym, ap, ◌∙◌, subst, inl, inr, arith}
use Rattle.std.specs.Prelude.{Bool, ◌⊎◌, nat_lt}
use Rattle.std.specs.List.{flat_map}
use Rattle.std.proofs.lemmas.Bool.{cases_Bool, ltb-false}
use Rattle.std.proofs.lemmas.Bool.Decides.{nat_tests}
use Rattle.std.proofs.lemmas.List.{take_all}
use Rattle.ads_outside.specs.declared.event.Event.{Event}
use Rattle.ads_outside.specs.declared.event.Event.TheVariants as event
use Rattle.ads_outside.specs.declared.moves.Move.{Move}
use Rattle.ads_outside.specs.declared.moves.Move.TheVariants as move
use Rattle.spec_machine.specs.MachineState.{MachineState, present_numbers}
use Rattle.spec_machine.specs.Moves.{EventStep, state_after_move, state_after}
use Rattle.spec_machine.specs.Offers.{waiting_at, is_closing_at, is_among, blocked_after_move, blocked_after}
use Rattle.spec_machine.specs.Peers.{Peers, first_peers, with_room, with_failing, taken_by, rooms_after}
use Rattle.spec_machine.specs.Peers.{offers_to, served_moves, moves_of_connection, peers_after_move}
use Rattle.spec_machine.specs.Peers.{peers_after}
use Rattle.spec_machine.specs.Play.{Scene, scene_after, moves_at, moves_of_each, turn_of, scene_after_turn, turns_of, play_of}
use Rattle.spec_machine.specs.ScriptLine.{ScriptLine, Happens, TakesAtMost, FailsNext}
use Rattle.spec_machine.specs.Turns.{IsOffer, IsServed, Serves, ServesEach, LogTurn, moves_of_turn, AreTurns, KeepsTurns}
use Rattle.spec_machine.proofs.Find.{test_same}
use Rattle.spec_machine.proofs.Played.{took-closing, took-waiting}
use Rattle.replay_script.specs.Answering.{IsAnswer, AnsweredBy}

-- the moves of connections alone, each answered
abbrev Answers : Peers → List Move → Type 0
Answers peers [] = Unit {0}
Answers peers (m ∷ ms) = IsAnswer peers m × Answers (peers_after_move peers m) ms

abbrev scene : {W C : Type 0} → Peers → MachineState W C → Scene W C
scene peers s = record { peers = peers; state = s }

abbrev joined : List (List Move) → List Move
joined mss = flat_map (λ ms. ms) mss

abbrev flat : List LogTurn → List Move
flat ts = flat_map moves_of_turn ts

served_cons : (closing : Bool) (c : ℕ) (m : Move) (ms : List Move) → served_moves closing c (m ∷ ms) ≡ m ∷ served_moves closing c ms
served_cons true c m ms = refl
served_cons false c m ms = refl

served_none : (closing b : Bool) (c : ℕ) → closing ≡ b → served_moves b c [] ≡ served_moves closing c []
served_none closing b c e = ap (λ x. served_moves x c []) (sym e)

-- nothing more is offered to a connection: it is shut where it is closing
served_end : {W C : Type 0} (step : EventStep W C) (c : ℕ) (blocked : List ℕ) (s : MachineState W C) (ms : List Move)
    → (is_among c blocked ≡ true) ⊎ (waiting_at c s ≡ []) → Serves step c blocked s ms → ms ≡ served_moves (is_closing_at c s) c []
unfolding Serves
served_end step c blocked s [] over serves = served_none (is_closing_at c s) false c serves.1
served_end {W} {C} step c blocked s (move.Took n offered bytes ∷ ms) (inl b) serves = (let both = sym b ∙ serves.1 in cc)
served_end {W} {C} step c blocked s (move.Took n offered bytes ∷ ms) (inr w) serves =
    let P : List (List ℕ) → Type 0 = λ fs. IsOffer fs offered bytes in
    absurd (subst P w serves.2)
served_end step c blocked s (move.Lost n ∷ ms) (inl b) serves = (let both = sym b ∙ serves.1.1 in cc)
served_end step c blocked s (move.Lost n ∷ ms) (inr w) serves = absurd (serves.1.0 w)
served_end step c blocked s (move.Shut n ∷ ms) over serves =
    ap (λ k. move.Shut k ∷ ms) serves.0 ∙ (ap (λ rest. move.Shut c ∷ rest) serves.3 ∙ served_none (is_closing_at c s) true c serves.2)
served_end step c blocked s (move.Event e ∷ ms) over serves = absurd serves

-- something waits, and the connection is not blocked: more is offered
more_offered : {W C : Type 0} (c : ℕ) (blocked : List ℕ) (s : MachineState W C) (f : List ℕ) (fs : List (List ℕ))
    → is_among c blocked ≡ false → waiting_at c s ≡ f ∷ fs → IsServed c blocked s → ⊥
more_offered c blocked s f fs open_ w (inl none) = (let both : f ∷ fs ≡ [] = sym w ∙ none in cc)
more_offered c blocked s f fs open_ w (inr b) = (let both = sym open_ ∙ b in cc)

not_short : (n : ℕ) → nat_lt n n ≡ false
not_short n = grind (arith, nat_tests)

-- what serves a connection that is offered these frames
abbrev Again : {W C : Type 0} → EventStep W C → ℕ → List Move → Type 0
Again {W} {C} step c ms = (peers : Peers) (s : MachineState W C) (fs : List (List ℕ))
    → is_among c peers.blocked ≡ false → is_among c peers.failing ≡ false → waiting_at c s ≡ fs
    → Serves step c peers.blocked s ms → Answers peers ms → ms ≡ served_moves (is_closing_at c s) c (offers_to peers.rooms c fs)

-- the first offer, and what is behind it
took_offers : {W C : Type 0} (step : EventStep W C) (c : ℕ) (f : List ℕ) (fs : List (List ℕ))
    (bytes : List ℕ) (ms : List Move) (peers : Peers) (s : MachineState W C) → Again step c ms
    → is_among c peers.blocked ≡ false → is_among c peers.failing ≡ false → waiting_at c s ≡ f ∷ fs
    → bytes ≡ take (length bytes) f → length bytes ≡ taken_by peers.rooms c (length f)
    → Serves step c (blocked_after_move peers.blocked (move.Took c (length f) bytes)) (state_after_move step s (move.Took c (length f) bytes)) ms
    → Answers (peers_after_move peers (move.Took c (length f) bytes)) ms
    → move.Took c (length f) bytes ∷ ms ≡ served_moves (is_closing_at c s) c (offers_to peers.rooms c (f ∷ fs))
unfolding offers_to
took_offers {W} {C} step c f fs bytes ms peers s again open_ free w is len serves answers =
    ap (λ b. move.Took c (length f) b ∷ ms) first
    ∙ (ap (λ rest. move.Took c (length f) (take n f) ∷ rest) behind ∙ sym (served_cons closing c (move.Took c (length f) (take n f)) others))
  where
    n : ℕ
    n = taken_by peers.rooms c (length f)

    closing : Bool
    closing = is_closing_at c s

    others : List Move
    others = cond (nat_lt n (length f)) [] (offers_to (rooms_after peers.rooms c (length f)) c fs)

    first : bytes ≡ take n f
    first = is ∙ ap (λ i. take i f) len

    behind : ms ≡ served_moves closing c others
    behind = elim (cases_Bool (nat_lt n (length f))) [
      | inl t ↦
          let short : nat_lt (length bytes) (length f) ≡ true = ap (λ i. nat_lt i (length f)) len ∙ t in
          let now_blocked : is_among c (blocked_after_move peers.blocked (move.Took c (length f) bytes)) ≡ true = rw short (rw (test_same c c refl) refl) in
          rw t (served_end step c (blocked_after_move peers.blocked (move.Took c (length f) bytes))
          (state_after_move step s (move.Took c (length f) bytes)) ms (inl now_blocked) serves
          ∙ ap (λ b. served_moves b c []) (took-closing step c (length f) bytes s))
      | inr t ↦
          let whole : bytes ≡ f = first ∙ take_all n f (ltb-false n (length f) t) in
          let P : List ℕ → Type 0 =
          λ x. Serves step c (blocked_after_move peers.blocked (move.Took c (length f) x)) (state_after_move step s (move.Took c (length f) x)) ms in
          let Q : List ℕ → Type 0 = λ x. Answers (peers_after_move peers (move.Took c (length f) x)) ms in
          let m = move.Took c (length f) f in
          let same : blocked_after_move peers.blocked m ≡ peers.blocked = rw (not_short (length f)) refl in
          rw t (again (peers_after_move peers m) (state_after_move step s m) fs (ap (is_among c) same ∙ open_) free
          (took-waiting step c (length f) f fs s w) (subst P whole serves) (subst Q whole answers)
          ∙ ap (λ b. served_moves b c (offers_to (rooms_after peers.rooms c (length f)) c fs)) (took-closing step c (length f) f s))
    ]

-- the offers to a connection that is not lost
served_offers : {W C : Type 0} (step : EventStep W C) (c : ℕ) (ms : List Move) → Again step c ms
unfolding Serves offers_to
served_offers step c ms peers s [] open_ free w serves answers = served_end step c peers.blocked s ms (inr w) serves
served_offers step c [] peers s (f ∷ fs) open_ free w serves answers = absurd (more_offered c peers.blocked s f fs open_ w serves.0)
served_offers step c (move.Shut n ∷ ms) peers s (f ∷ fs) open_ free w serves answers = absurd (more_offered c peers.blocked s f fs open_ w serves.1)
served_offers step c (move.Lost n ∷ ms) peers s (f ∷ fs) open_ free w serves answers =
    (let fails : is_among c peers.failing ≡ true = ap (λ k. is_among k peers.failing) (sym serves.0) ∙ answers.0 in let both = sym free ∙ fails in cc)
served_offers step c (move.Event e ∷ ms) peers s (f ∷ fs) open_ free w serves answers = absurd serves
served_offers {W} {C} step c (move.Took n offered bytes ∷ ms) peers s (f ∷ fs) open_ free w serves answers =
    let again : Again step c ms = λ p t gs o r v sv an. served_offers step c ms p t gs o r v sv an in
    let P : List (List ℕ) → Type 0 = λ gs. IsOffer gs offered bytes in
    let offer : P (f ∷ fs) = subst P w serves.2 in
    let T : ℕ → ℕ → Type 0 = λ k o. Serves step c (blocked_after_move peers.blocked (move.Took k o bytes)) (state_after_move step s (move.Took k o bytes)) ms in
    let A : ℕ → ℕ → Type 0 = λ k o. Answers (peers_after_move peers (move.Took k o bytes)) ms in
    let T1 : T c offered = subst (λ k. T k offered) serves.0 serves.3 in
    let A1 : A c offered = subst (λ k. A k offered) serves.0 answers.1 in
    let T2 : T c (length f) = subst (λ o. T c o) offer.0 T1 in
    let A2 : A c (length f) = subst (λ o. A c o) offer.0 A1 in
    let len : length bytes ≡ taken_by peers.rooms c (length f) =
    answers.0.1 ∙ (ap (λ k. taken_by peers.rooms k offered) serves.0 ∙ ap (λ o. taken_by peers.rooms c o) offer.0) in
    ap (λ k. move.Took k offered bytes ∷ ms) serves.0 ∙ (ap (λ o. move.Took c o bytes ∷ ms) offer.0
    ∙ took_offers step c f fs bytes ms peers s again open_ free w offer.2 len T2 A2)

-- a connection whose next offer fails
served_lost : {W C : Type 0} (step : EventStep W C) (c : ℕ) (ms : List Move) (peers : Peers) (s : MachineState W C) (f : List ℕ) (fs : List (List ℕ))
    → is_among c peers.blocked ≡ false → is_among c peers.failing ≡ true → waiting_at c s ≡ f ∷ fs
    → Serves step c peers.blocked s ms → Answers peers ms → ms ≡ move.Lost c ∷ []
unfolding Serves
served_lost step c [] peers s f fs open_ fails w serves answers = absurd (more_offered c peers.blocked s f fs open_ w serves.0)
served_lost step c (move.Shut n ∷ ms) peers s f fs open_ fails w serves answers = absurd (more_offered c peers.blocked s f fs open_ w serves.1)
served_lost step c (move.Event e ∷ ms) peers s f fs open_ fails w serves answers = absurd serves
served_lost step c (move.Took n offered bytes ∷ ms) peers s f fs open_ fails w serves answers =
    (let free : is_among c peers.failing ≡ false = ap (λ k. is_among k peers.failing) (sym serves.0) ∙ answers.0.0 in let both = sym free ∙ fails in cc)
served_lost step c (move.Lost n ∷ ms) peers s f fs open_ fails w serves answers = ap (λ k. move.Lost k ∷ ms) serves.0 ∙ ap (λ rest. move.Lost c ∷ rest) serves.2

-- the moves of a connection
served_at : {W C : Type 0} (step : EventStep W C) (c : ℕ) (ms : List Move) (peers : Peers) (s : MachineState W C)
    → Serves step c peers.blocked s ms → Answers peers ms → ms ≡ moves_at (scene peers s) c
served_at {W} {C} step c ms peers s serves answers = go (waiting_at c s) refl
  where
    closing : Bool
    closing = is_closing_at c s

    first : (f : List ℕ) (fs : List (List ℕ)) → waiting_at c s ≡ f ∷ fs → ms ≡ moves_of_connection peers c closing (f ∷ fs)
    first f fs w = elim (cases_Bool (is_among c peers.blocked)) [
      | inl b ↦ rw b (served_end step c peers.blocked s ms (inl b) serves)
      | inr b ↦ rw b (elim (cases_Bool (is_among c peers.failing)) [
        | inl t ↦ rw t (served_lost step c ms peers s f fs b t w serves answers)
        | inr t ↦ rw t (served_offers step c ms peers s (f ∷ fs) b t w serves answers)
      ])
    ]

    go : (fs : List (List ℕ)) → waiting_at c s ≡ fs → ms ≡ moves_of_connection peers c closing (waiting_at c s)
    go [] w = served_end step c peers.blocked s ms (inr w) serves ∙ ap (moves_of_connection peers c closing) (sym w)
    go (f ∷ fs) w = first f fs w ∙ ap (moves_of_connection peers c closing) (sym w)

answers_split : (ms ns : List Move) (peers : Peers) → Answers peers (ms ++ ns) → Answers peers ms × Answers (peers_after peers ms) ns
unfolding peers_after
answers_split [] ns peers answers = (tt, answers)
answers_split (m ∷ ms) ns peers answers = let both = answers_split ms ns (peers_after_move peers m) answers.1 in ((answers.0, both.0), both.1)

peers_after-blocked : (peers : Peers) (ms : List Move) → (peers_after peers ms).blocked ≡ blocked_after peers.blocked ms
unfolding peers_after blocked_after
peers_after-blocked peers [] = refl
peers_after-blocked peers (m ∷ ms) = peers_after-blocked (peers_after_move peers m) ms

-- the moves of all connections
each_at : {W C : Type 0} (step : EventStep W C) (cs : List ℕ) (mss : List (List Move)) (peers : Peers) (s : MachineState W C)
    → ServesEach step cs peers.blocked s mss → Answers peers (joined mss) → mss ≡ moves_of_each step (scene peers s) cs
unfolding ServesEach moves_of_each
each_at step [] [] peers s serves answers = refl
each_at step [] (ms ∷ mss) peers s serves answers = absurd serves
each_at step (c ∷ cs) [] peers s serves answers = absurd serves
each_at {W} {C} step (c ∷ cs) (ms ∷ mss) peers s serves answers =
    let both = answers_split ms (joined mss) peers answers in
    let here = served_at step c ms peers s serves.0 both.0 in
    let P : List ℕ → Type 0 = λ blocked. ServesEach step cs blocked (state_after step s ms) mss in
    let rest = each_at step cs mss (peers_after peers ms) (state_after step s ms) (subst P (sym (peers_after-blocked peers ms)) serves.1) both.1 in
    ap (λ others. ms ∷ others) rest ∙ ap (λ moves. moves ∷ moves_of_each step (scene_after step (scene peers s) moves) cs) here

-- moves without an event
abbrev HasNoEvent : List Move → Type 0
HasNoEvent [] = Unit {0}
HasNoEvent (move.Event e ∷ ms) = ⊥
HasNoEvent (move.Took c offered bytes ∷ ms) = HasNoEvent ms
HasNoEvent (move.Lost c ∷ ms) = HasNoEvent ms
HasNoEvent (move.Shut c ∷ ms) = HasNoEvent ms

no_event : {W C : Type 0} (step : EventStep W C) (c : ℕ) (ms : List Move) (blocked : List ℕ) (s : MachineState W C) → Serves step c blocked s ms → HasNoEvent ms
unfolding Serves
no_event step c [] blocked s serves = tt
no_event step c (move.Event e ∷ ms) blocked s serves = serves
no_event step c (move.Took n offered bytes ∷ ms) blocked s serves =
    no_event step c ms (blocked_after_move blocked (move.Took n offered bytes)) (state_after_move step s (move.Took n offered bytes)) serves.3
no_event step c (move.Lost n ∷ ms) blocked s serves = subst HasNoEvent (sym serves.2) tt
no_event step c (move.Shut n ∷ ms) blocked s serves = subst HasNoEvent (sym serves.3) tt

no_event-append : (ms ns : List Move) → HasNoEvent ms → HasNoEvent ns → HasNoEvent (ms ++ ns)
no_event-append [] ns first second = second
no_event-append (move.Event e ∷ ms) ns first second = first
no_event-append (move.Took c offered bytes ∷ ms) ns first second = no_event-append ms ns first second
no_event-append (move.Lost c ∷ ms) ns first second = no_event-append ms ns first second
no_event-append (move.Shut c ∷ ms) ns first second = no_event-append ms ns first second

no_events : {W C : Type 0} (step : EventStep W C) (cs : List ℕ) (mss : List (List Move)) (blocked : List ℕ) (s : MachineState W C)
    → ServesEach step cs blocked s mss → HasNoEvent (joined mss)
unfolding ServesEach
no_events step [] [] blocked s serves = tt
no_events step [] (ms ∷ mss) blocked s serves = absurd serves
no_events step (c ∷ cs) [] blocked s serves = absurd serves
no_events step (c ∷ cs) (ms ∷ mss) blocked s serves =
    no_event-append ms (joined mss) (no_event step c ms blocked s serves.0) (no_events step cs mss (blocked_after blocked ms) (state_after step s ms) serves.1)

-- moves without an event, and what is behind them
answered_split : (lines : List ScriptLine) (ms ns : List Move) (peers : Peers) → HasNoEvent ms
    → AnsweredBy peers lines (ms ++ ns) → Answers peers ms × AnsweredBy (peers_after peers ms) lines ns
unfolding AnsweredBy peers_after
answered_split lines [] ns peers none answered = (tt, answered)
answered_split lines (move.Event e ∷ ms) ns peers none answered = absurd none
answered_split lines (move.Took c offered bytes ∷ ms) ns peers none answered =
    let both = answered_split lines ms ns (peers_after_move peers (move.Took c offered bytes)) none answered.1 in ((answered.0, both.0), both.1)
answered_split lines (move.Lost c ∷ ms) ns peers none answered =
    let both = answered_split lines ms ns (peers_after_move peers (move.Lost c)) none answered.1 in ((answered.0, both.0), both.1)
answered_split lines (move.Shut c ∷ ms) ns peers none answered =
    let both = answered_split lines ms ns (peers_after_move peers (move.Shut c)) none answered.1 in ((answered.0, both.0), both.1)

-- a turn is the one of its event, and what is left of the log is answered by the lines behind
record IsTurn {W C : Type 0} (step : EventStep W C) (peers : Peers) (s : MachineState W C)
    (t : LogTurn) (lines : List ScriptLine) (rest : List Move) : Type 0 where
  moves : moves_of_turn t ≡ moves_of_turn (turn_of step (scene peers s) t.event)
  answered : AnsweredBy (peers_after peers (moves_of_turn t)) lines rest

one_turn : {W C : Type 0} (step : EventStep W C) (peers : Peers) (s : MachineState W C) (t : LogTurn) (lines : List ScriptLine) (rest : List Move)
    → ServesEach step (present_numbers (step s t.event)) (blocked_after_move peers.blocked (move.Event t.event)) (step s t.event) t.served
    → AnsweredBy (peers_after_move peers (move.Event t.event)) lines (joined t.served ++ rest) → IsTurn step peers s t lines rest
unfolding peers_after
one_turn step peers s t lines rest serves answered =
    let later = peers_after_move peers (move.Event t.event) in
    let none = no_events step (present_numbers (step s t.event)) t.served later.blocked (step s t.event) serves in
    let both = answered_split lines (joined t.served) rest later none answered in
    let each = each_at step (present_numbers (step s t.event)) t.served later (step s t.event) serves both.0 in
    record { moves = ap (λ mss. move.Event t.event ∷ joined mss) each; answered = both.1 }

-- one more turn of the play
turn_behind : {W C : Type 0} (step : EventStep W C) (peers : Peers) (s : MachineState W C) (e : Event)
    (t : LogTurn) (ts : List LogTurn) (lines : List ScriptLine) → e ≡ t.event → IsTurn step peers s t lines (flat ts)
    → flat ts ≡ flat (turns_of step (scene (peers_after peers (moves_of_turn t)) (state_after step s (moves_of_turn t))) lines)
    → moves_of_turn t ++ flat ts ≡ moves_of_turn (turn_of step (scene peers s) e) ++ flat (turns_of step (scene_after_turn step (scene peers s) e) lines)
turn_behind {W} {C} step peers s e t ts lines same turn rest =
    let x = scene peers s in
    let moves = turn.moves ∙ ap (λ d. moves_of_turn (turn_of step x d)) (sym same) in
    ap (λ later. moves_of_turn t ++ later) rest ∙ ap (λ ms. ms ++ flat (turns_of step (scene_after step x ms) lines)) moves

fails_first : (peers : Peers) (c : ℕ) (lines : List ScriptLine) (ts : List LogTurn)
    → AnsweredBy peers (FailsNext c ∷ lines) (flat ts) → AnsweredBy (with_failing c peers) lines (flat ts)
unfolding AnsweredBy
fails_first peers c lines [] answered = answered
fails_first peers c lines (t ∷ ts) answered = answered

turns_played : {W C : Type 0} (step : EventStep W C) (lines : List ScriptLine) (peers : Peers) (s : MachineState W C) (ts : List LogTurn)
    → AreTurns step peers.blocked s ts → AnsweredBy peers lines (flat ts) → flat ts ≡ flat (turns_of step (scene peers s) lines)
unfolding AreTurns AnsweredBy turns_of
turns_played step [] peers s [] turns answered = refl
turns_played step [] peers s (t ∷ ts) turns answered = absurd answered
turns_played step (Happens e ∷ lines) peers s [] turns answered = cc
turns_played {W} {C} step (Happens e ∷ lines) peers s (t ∷ ts) turns answered =
    let turn = one_turn step peers s t lines (flat ts) turns.0 answered.1 in
    let P : List ℕ → Type 0 = λ blocked. AreTurns step blocked (state_after step s (moves_of_turn t)) ts in
    let rest = turns_played step lines (peers_after peers (moves_of_turn t)) (state_after step s (moves_of_turn t)) ts
    (subst P (sym (peers_after-blocked peers (moves_of_turn t))) turns.1) turn.answered in
    turn_behind step peers s e t ts lines answered.0 turn rest
turns_played step (TakesAtMost c n ∷ lines) peers s [] turns answered = cc
turns_played {W} {C} step (TakesAtMost c n ∷ lines) peers s (t ∷ ts) turns answered =
    let roomy = with_room c n peers in
    let turn = one_turn step roomy s t lines (flat ts) turns.0 answered.1 in
    let P : List ℕ → Type 0 = λ blocked. AreTurns step blocked (state_after step s (moves_of_turn t)) ts in
    let rest = turns_played step lines (peers_after roomy (moves_of_turn t)) (state_after step s (moves_of_turn t)) ts
    (subst P (sym (peers_after-blocked roomy (moves_of_turn t))) turns.1) turn.answered in
    turn_behind step roomy s (event.Writable c) t ts lines answered.0 turn rest
turns_played step (FailsNext c ∷ lines) peers s ts turns answered =
    turns_played step lines (with_failing c peers) s ts turns (fails_first peers c lines ts answered)

-- the one log
pub log_is_play : {W C : Type 0} (step : EventStep W C) (s : MachineState W C) (lines : List ScriptLine) (log : List Move)
    → KeepsTurns step s log → AnsweredBy first_peers lines log → log ≡ play_of step s lines
log_is_play {W} {C} step s lines log keeps answered =
    keeps.whole ∙ turns_played step lines first_peers s keeps.turns keeps.served (subst (AnsweredBy first_peers lines) keeps.whole answered)
