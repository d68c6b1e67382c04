-- The play of a script keeps the turns.
use Rattle.std.proofs.Common.{◌≡◌, ℕ, ◌≤◌, List, [], ◌∷◌, map, length, take, Bool, true, false, cond, refl, sym, ◌∙◌, ap, subst, inl, inr, arith}
use Rattle.std.specs.Prelude.{Option, Some, None, ◌==◌, nat_lt}
use Rattle.std.proofs.lemmas.Bool.{cases_Bool, ltb-false}
use Rattle.std.proofs.lemmas.Bool.Decides.{nat_tests}
use Rattle.std.proofs.lemmas.List.{length-take, take_all}
use Rattle.ads_outside.specs.declared.event.Event.{Event}
use Rattle.ads_outside.specs.declared.event.Event.TheVariants as event
use Rattle.ads_outside.specs.declared.moves.Move.{Move}
use Rattle.ads_outside.specs.declared.moves.Move.TheVariants as move
use Rattle.spec_machine.specs.Connection.{Connection, connection_of, bytes_of}
use Rattle.spec_machine.specs.MachineState.{MachineState, exchange_of, after_exchange, present_numbers}
use Rattle.spec_machine.specs.Moves.{EventStep, with_took, state_after_move, state_after}
use Rattle.spec_machine.specs.Offers.{left_after, waiting_of, waiting_at, is_closing, is_closing_at, is_among, blocked_after_move, blocked_after}
use Rattle.spec_machine.specs.Turns.{IsOffer, IsServed, Serves, ServesEach, moves_of_turn, AreTurns}
use Rattle.spec_machine.specs.ScriptLine.{ScriptLine, Happens, TakesAtMost, FailsNext}
use Rattle.spec_machine.specs.Peers.{Room, Peers, first_peers, with_room, with_failing, taken_by, rooms_after}
use Rattle.spec_machine.specs.Peers.{offers_to, served_moves, moves_of_connection, peers_after_move}
use Rattle.spec_machine.specs.Peers.{peers_after}
use Rattle.spec_machine.specs.Play.{Scene, scene_after, scene_after_event, scene_after_turn, moves_at, moves_of_each, turn_of, with_peers, turns_of}
use Rattle.spec_machine.specs.Delivery.{PlayKeepsTurns}
use Rattle.spec_machine.proofs.Find.{test_same}
use Rattle.spec_machine.proofs.Waiting.{left_after_first}
use Rattle.spec_machine.proofs.Changes.{exchange_own, exchange_none, with_took-number}

-- an offer that is taken does not close
pub took-closing : {W C : Type 0} (step : EventStep W C) (c offered : ℕ) (bytes : List ℕ) (s : MachineState W C)
    → is_closing_at c (state_after_move step s (move.Took c offered bytes)) ≡ is_closing_at c s
unfolding state_after_move
took-closing {W} {C} step c offered bytes s = go (connection_of c s.connections) refl
  where
    kept : (k : Connection C) → (with_took (length bytes) (exchange_of s k)).connection.closing ≡ k.closing
    kept k = elim (cases_Bool k.gone) [ inl b ↦ rw b refl | inr b ↦ rw b refl ]

    go : (o : Option (Connection C)) → connection_of c s.connections ≡ o
        → is_closing_at c (after_exchange (connection_of c s.connections) (with_took (length bytes)) s) ≡ is_closing_at c s
    go None e = ap (is_closing_at c) (exchange_none c (with_took (length bytes)) s e)
    go (Some k) e = ap is_closing (exchange_own c (with_took (length bytes)) (with_took-number (length bytes)) s k e) ∙ kept k ∙ sym (ap is_closing e)

-- once the first frame that waits is taken whole, the others wait
pub took-waiting : {W C : Type 0} (step : EventStep W C) (c offered : ℕ) (f : List ℕ) (fs : List (List ℕ)) (s : MachineState W C)
    → waiting_at c s ≡ f ∷ fs → waiting_at c (state_after_move step s (move.Took c offered f)) ≡ fs
unfolding state_after_move
took-waiting {W} {C} step c offered f fs s h = go (connection_of c s.connections) refl
  where
    kept : (k : Connection C) (b : Bool) → k.gone ≡ b → waiting_of (Some k) ≡ f ∷ fs
        → waiting_of (Some (with_took (length f) (exchange_of s k)).connection) ≡ fs
    kept k true e w = let P : Bool → Type 0 = λ b. cond b [] (left_after k.bytes_taken (map bytes_of k.produced)) ≡ f ∷ fs in let x = subst P e w in cc
    kept k false e w =
        let P : Bool → Type 0 = λ b. cond b [] (left_after k.bytes_taken (map bytes_of k.produced)) ≡ f ∷ fs in
        let x : left_after k.bytes_taken (map bytes_of k.produced) ≡ f ∷ fs = subst P e w in
        rw e (left_after_first (map bytes_of k.produced) k.bytes_taken f fs x)

    go : (o : Option (Connection C)) → connection_of c s.connections ≡ o
        → waiting_at c (after_exchange (connection_of c s.connections) (with_took (length f)) s) ≡ fs
    go None e = let w : waiting_of {C = C} None ≡ f ∷ fs = sym (ap waiting_of e) ∙ h in cc
    go (Some k) e = ap waiting_of (exchange_own c (with_took (length f)) (with_took-number (length f)) s k e) ∙ kept k k.gone refl (sym (ap waiting_of e) ∙ h)

-- the end of a connection that is served
served-ends : {W C : Type 0} (step : EventStep W C) (c : ℕ) (blocked : List ℕ) (s : MachineState W C) (closing : Bool)
    → is_closing_at c s ≡ closing → IsServed c blocked s → Serves step c blocked s (served_moves closing c [])
unfolding Serves
served-ends step c blocked s true e h = (refl, h, e, refl)
served-ends step c blocked s false e h = (h, e)

served_moves-cons : (closing : Bool) (c : ℕ) (m : Move) (ms : List Move) → served_moves closing c (m ∷ ms) ≡ m ∷ served_moves closing c ms
served_moves-cons true c m ms = refl
served_moves-cons false c m ms = refl

taken_by-most : (rooms : List Room) (c n : ℕ) → taken_by rooms c n ≤ n
taken_by-most [] c n = omega arith
taken_by-most (r ∷ rs) c n =
    elim (cases_Bool (r.number == c)) [
      | inl b ↦ rw b (omega arith)
      | inr b ↦ rw b (taken_by-most rs c n)
    ]

test_short : (a b : ℕ) → nat_lt a b ≡ true → (n : ℕ) → n ≡ a → nat_lt n b ≡ true
test_short a b t n e = ap (λ x. nat_lt x b) e ∙ t

not_short : (n : ℕ) → nat_lt n n ≡ false
not_short n = grind (arith, nat_tests)

-- what serves behind an offer that is taken whole
abbrev ServesBehind : {W C : Type 0} → EventStep W C → ℕ → Bool → List ℕ → List (List ℕ) → List Move → Type 0
ServesBehind {W} {C} step c closing blocked fs ms = (s : MachineState W C) → waiting_at c s ≡ fs
    → is_closing_at c s ≡ closing → Serves step c blocked s (served_moves closing c ms)

offer-serves : {W C : Type 0} (step : EventStep W C) (c : ℕ) (closing : Bool) (f : List ℕ) (fs : List (List ℕ)) (rooms : List Room)
    (blocked : List ℕ) (s : MachineState W C) → waiting_at c s ≡ f ∷ fs → is_closing_at c s ≡ closing → is_among c blocked ≡ false
    → ServesBehind step c closing blocked fs (offers_to (rooms_after rooms c (length f)) c fs)
    → Serves step c blocked s (served_moves closing c (offers_to rooms c (f ∷ fs)))
unfolding Serves offers_to
offer-serves {W} {C} step c closing f fs rooms blocked s w e b again =
    subst (Serves step c blocked s) (sym (served_moves-cons closing c here others)) (refl, b, offer, rest)
  where
    n : ℕ
    n = taken_by rooms c (length f)

    here : Move
    here = move.Took c (length f) (take n f)

    others : List Move
    others = cond (nat_lt n (length f)) [] (offers_to (rooms_after rooms c (length f)) c fs)

    len : length (take n f) ≡ n
    len = let m = taken_by-most rooms c (length f) in let l = length-take n f in omega (arith, m, l)

    offer : IsOffer (waiting_at c s) (length f) (take n f)
    offer = subst (λ (x : List (List ℕ)). IsOffer x (length f) (take n f)) (sym w)
        (refl, (let m = taken_by-most rooms c (length f) in omega (arith, m, len)), ap (λ i. take i f) (sym len))

    after : MachineState W C
    after = state_after_move step s here

    closing_after : is_closing_at c after ≡ closing
    closing_after = took-closing step c (length f) (take n f) s ∙ e

    rest : Serves step c (blocked_after_move blocked here) after (served_moves closing c others)
    rest = elim (cases_Bool (nat_lt n (length f))) [
      | inl t ↦
          let short : nat_lt (length (take n f)) (length f) ≡ true = test_short n (length f) t (length (take n f)) len in
          let now_blocked : is_among c (blocked_after_move blocked here) ≡ true = rw short (rw (test_same c c refl) refl) in
          rw t (served-ends step c (blocked_after_move blocked here) after closing closing_after (inr now_blocked))
      | inr t ↦
          let le = ltb-false n (length f) t in
          let whole : take n f ≡ f = take_all n f le in
          let P : List ℕ → Type 0 =
          λ x. Serves step c (blocked_after_move blocked (move.Took c (length f) x)) (state_after_move step s (move.Took c (length f) x))
          (served_moves closing c (offers_to (rooms_after rooms c (length f)) c fs)) in
          let waits : waiting_at c (state_after_move step s (move.Took c (length f) f)) ≡ fs = took-waiting step c (length f) f fs s w in
          let closes : is_closing_at c (state_after_move step s (move.Took c (length f) f)) ≡ closing = took-closing step c (length f) f s ∙ e in
          let same : blocked_after_move blocked (move.Took c (length f) f) ≡ blocked = rw (not_short (length f)) refl in
          let Q : List ℕ → Type 0 =
          λ bs. Serves step c bs (state_after_move step s (move.Took c (length f) f))
          (served_moves closing c (offers_to (rooms_after rooms c (length f)) c fs)) in
          rw t (subst P (sym whole) (subst Q (sym same) (again (state_after_move step s (move.Took c (length f) f)) waits closes)))
    ]

offers-serve : {W C : Type 0} (step : EventStep W C) (c : ℕ) (closing : Bool) (fs : List (List ℕ)) (rooms : List Room)
    (blocked : List ℕ) (s : MachineState W C) → waiting_at c s ≡ fs → is_closing_at c s ≡ closing → is_among c blocked ≡ false
    → Serves step c blocked s (served_moves closing c (offers_to rooms c fs))
unfolding Serves offers_to
offers-serve step c closing [] rooms blocked s w e b = served-ends step c blocked s closing e (inl w)
offers-serve step c closing (f ∷ fs) rooms blocked s w e b =
    offer-serves step c closing f fs rooms blocked s w e b
    (λ u waits closes. offers-serve step c closing fs (rooms_after rooms c (length f)) blocked u waits closes b)

-- the moves of a connection serve it
moves-serve : {W C : Type 0} (step : EventStep W C) (x : Scene W C) (c : ℕ) → Serves step c x.peers.blocked x.state (moves_at x c)
unfolding Serves
moves-serve {W} {C} step x c = go (waiting_at c x.state) refl
  where
    closing : Bool
    closing = is_closing_at c x.state

    go : (fs : List (List ℕ)) → waiting_at c x.state ≡ fs → Serves step c x.peers.blocked x.state (moves_of_connection x.peers c closing (waiting_at c x.state))
    go [] w = subst (λ (fs : List (List ℕ)). Serves step c x.peers.blocked x.state (moves_of_connection x.peers c closing fs))
        (sym w) (served-ends step c x.peers.blocked x.state closing refl (inl w))
    go (f ∷ fs) w =
        subst (λ (gs : List (List ℕ)). Serves step c x.peers.blocked x.state (moves_of_connection x.peers c closing gs)) (sym w)
        (elim (cases_Bool (is_among c x.peers.blocked)) [
          | inl b ↦ rw b (at_blocked b)
          | inr b ↦ rw b (at_open b)
        ])
      where
        at_blocked : is_among c x.peers.blocked ≡ true → Serves step c x.peers.blocked x.state (served_moves closing c [])
        at_blocked b = served-ends step c x.peers.blocked x.state closing refl (inr b)

        some : waiting_at c x.state ≡ [] → ⊥
        some e = let z : f ∷ fs ≡ [] = sym w ∙ e in cc

        at_open : is_among c x.peers.blocked ≡ false
            → Serves step c x.peers.blocked x.state
            (cond (is_among c x.peers.failing) (move.Lost c ∷ []) (served_moves closing c (offers_to x.peers.rooms c (f ∷ fs))))
        at_open b = elim (cases_Bool (is_among c x.peers.failing)) [
          | inl t ↦ rw t (refl, (some, b), refl)
          | inr t ↦ rw t (offers-serve step c closing (f ∷ fs) x.peers.rooms x.peers.blocked x.state w refl b)
        ]

peers_after-blocked : (peers : Peers) (ms : List Move) → (peers_after peers ms).blocked ≡ blocked_after peers.blocked ms
unfolding peers_after blocked_after
peers_after-blocked peers [] = refl
peers_after-blocked peers (m ∷ ms) = peers_after-blocked (peers_after_move peers m) ms

each-serve : {W C : Type 0} (step : EventStep W C) (cs : List ℕ) (x : Scene W C) → ServesEach step cs x.peers.blocked x.state (moves_of_each step x cs)
unfolding ServesEach moves_of_each
each-serve step [] x = tt
each-serve {W} {C} step (c ∷ cs) x =
    let ms = moves_at x c in
    let P : List ℕ → Type 0 = λ bs. ServesEach step cs bs (state_after step x.state ms) (moves_of_each step (scene_after step x ms) cs) in
    (moves-serve step x c, subst P (peers_after-blocked x.peers ms) (each-serve step cs (scene_after step x ms)))

turn-serves : {W C : Type 0} (step : EventStep W C) (x : Scene W C) (e : Event)
    → ServesEach step (present_numbers (step x.state e)) (blocked_after_move x.peers.blocked (move.Event e)) (step x.state e) (turn_of step x e).served
turn-serves {W} {C} step x e =
    let y : Scene W C = scene_after_event step x e in
    each-serve step (present_numbers y.state) y

turns-served : {W C : Type 0} (step : EventStep W C) (lines : List ScriptLine) (x : Scene W C) → AreTurns step x.peers.blocked x.state (turns_of step x lines)
unfolding AreTurns turns_of
turns-served step [] x = tt
turns-served {W} {C} step (Happens e ∷ lines) x =
    let ms = moves_of_turn (turn_of step x e) in
    let P : List ℕ → Type 0 = λ bs. AreTurns step bs (state_after step x.state ms) (turns_of step (scene_after_turn step x e) lines) in
    (turn-serves step x e, subst P (peers_after-blocked x.peers ms) (turns-served step lines (scene_after_turn step x e)))
turns-served {W} {C} step (TakesAtMost c n ∷ lines) x =
    let y : Scene W C = with_peers (with_room c n x.peers) x in
    let e = event.Writable c in
    let ms = moves_of_turn (turn_of step y e) in
    let P : List ℕ → Type 0 = λ bs. AreTurns step bs (state_after step y.state ms) (turns_of step (scene_after_turn step y e) lines) in
    (turn-serves step y e, subst P (peers_after-blocked y.peers ms) (turns-served step lines (scene_after_turn step y e)))
turns-served step (FailsNext c ∷ lines) x = turns-served step lines (with_peers (with_failing c x.peers) x)

pub play_keeps_turns : (W C : Type 0) → PlayKeepsTurns W C
play_keeps_turns W C step s lines =
    let x : Scene W C = record { peers = first_peers; state = s } in
    record { turns = turns_of step x lines; whole = refl; served = turns-served step lines x }
