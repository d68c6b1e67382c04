-- A log that keeps the turns offers the whole rest of the first frame that waits.
use Rattle.std.proofs.Common.{ℕ, List, [], ◌∷◌, ◌++◌, refl, sym, subst}
use Rattle.std.specs.Prelude.{flat_map}
use Rattle.ads_outside.specs.declared.moves.Move.{Move}
use Rattle.ads_outside.specs.declared.moves.Move.TheVariants as move
use Rattle.spec_machine.specs.MachineState.{MachineState, start_of, present_numbers}
use Rattle.spec_machine.specs.Moves.{EventStep, state_after_move, state_after}
use Rattle.spec_machine.specs.Offers.{waiting_at, blocked_after_move, blocked_after, taken_of}
use Rattle.spec_machine.specs.Turns.{IsOffer, Serves, ServesEach, LogTurn, moves_of_turn, AreTurns, KeepsTurns}
use Rattle.spec_machine.specs.Delivery.{AreOffers, OffersWhole, OnlyAdds, TakesOutput}
use Rattle.spec_machine.specs.Connection.{connection_of}
use Rattle.spec_machine.proofs.Delivered.{MaybeGave, gave_log, prefix_of_gave}

offers-append : {W C : Type 0} (step : EventStep W C) (ms ns : List Move) (s : MachineState W C)
    → AreOffers step s ms → AreOffers step (state_after step s ms) ns → AreOffers step s (ms ++ ns)
unfolding state_after AreOffers
offers-append step [] ns s h k = k
offers-append step (m ∷ ms) ns s h k = (h.0, offers-append step ms ns (state_after_move step s m) (h.1) k)

serves-offers : {W C : Type 0} (step : EventStep W C) (c : ℕ) (ms : List Move) (blocked : List ℕ) (s : MachineState W C)
    → Serves step c blocked s ms → AreOffers step s ms
unfolding Serves AreOffers
serves-offers step c [] blocked s h = tt
serves-offers step c (move.Took n offered bytes ∷ ms) blocked s h =
    let P : ℕ → Type 0 = λ x. IsOffer (waiting_at x s) offered bytes in (
      subst P (sym (h.0)) (h.2),
      serves-offers step c ms (blocked_after_move blocked (move.Took n offered bytes)) (state_after_move step s (move.Took n offered bytes)) (h.3),
    )
serves-offers step c (move.Lost n ∷ ms) blocked s h = let e = h.2 in (tt, subst (AreOffers step (state_after_move step s (move.Lost n))) (sym e) tt)
serves-offers step c (move.Shut n ∷ ms) blocked s h = let e = h.3 in (tt, subst (AreOffers step (state_after_move step s (move.Shut n))) (sym e) tt)
serves-offers step c (move.Event e ∷ ms) blocked s h = absurd h

each-offers : {W C : Type 0} (step : EventStep W C) (cs : List ℕ) (mss : List (List Move)) (blocked : List ℕ) (s : MachineState W C)
    → ServesEach step cs blocked s mss → AreOffers step s (flat_map (λ ms. ms) mss)
unfolding ServesEach AreOffers
each-offers step [] [] blocked s h = tt
each-offers step (c ∷ cs) (ms ∷ mss) blocked s h =
    offers-append step ms (flat_map (λ xs. xs) mss) s (serves-offers step c ms blocked s (h.0))
    (each-offers step cs mss (blocked_after blocked ms) (state_after step s ms) (h.1))
each-offers step [] (ms ∷ mss) blocked s h = absurd h
each-offers step (c ∷ cs) [] blocked s h = absurd h

turns-offers : {W C : Type 0} (step : EventStep W C) (ts : List LogTurn) (blocked : List ℕ) (s : MachineState W C)
    → AreTurns step blocked s ts → AreOffers step s (flat_map moves_of_turn ts)
unfolding AreTurns AreOffers state_after_move
turns-offers step [] blocked s h = tt
turns-offers step (t ∷ ts) blocked s h =
    let u = step s t.event in
    offers-append step (moves_of_turn t) (flat_map moves_of_turn ts) s
    (tt, each-offers step (present_numbers u) t.served (blocked_after_move blocked (move.Event t.event)) u (h.0))
    (turns-offers step ts (blocked_after blocked (moves_of_turn t)) (state_after step s (moves_of_turn t)) (h.1))

offers-before : {W C : Type 0} (step : EventStep W C) (ms ns : List Move) (s : MachineState W C) → AreOffers step s (ms ++ ns) → AreOffers step s ms
unfolding AreOffers
offers-before step [] ns s h = tt
offers-before step (m ∷ ms) ns s h = (h.0, offers-before step ms ns (state_after_move step s m) (h.1))

pub offers_whole : (W C : Type 0) → OffersWhole W C
offers_whole W C step s log later k = offers-before step log later s (subst (AreOffers step s) (sym k.whole) (turns-offers step k.turns [] s k.served))

-- of a whole log
pub offers_kept : {W C : Type 0} (step : EventStep W C) (s : MachineState W C) (log : List Move) → KeepsTurns step s log → AreOffers step s log
offers_kept step s log k = subst (AreOffers step s) (sym k.whole) (turns-offers step k.turns [] s k.served)

pub gave_offers : {W C : Type 0} (step : EventStep W C) → OnlyAdds step → (world : W) (c : ℕ) (log : List Move) → AreOffers step (start_of {C = C} world) log
    → MaybeGave (taken_of c log) (connection_of c (state_after step (start_of {C = C} world) log).connections)
unfolding connection_of
gave_offers step adds world c log k = gave_log step adds c log (start_of world) [] refl k

pub takes_output : (W C : Type 0) → TakesOutput W C
takes_output W C step world c log adds k =
    prefix_of_gave (taken_of c log) (connection_of c (state_after step (start_of world) log).connections) (gave_offers step adds world c log k)
