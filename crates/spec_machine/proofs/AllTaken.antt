-- A connection took all that it was given, unless its last offer was short or it was cut off: over any
-- machine that only adds to what connections are given and keeps them there.
use Rattle.std.proofs.Common.{◌≡◌, ℕ, List, [], ◌∷◌, map, length, Bool, true, false, refl, sym, ◌∙◌, ap, subst, inl, inr, arith}
use Rattle.std.specs.Prelude.{Option, Some, None, ◌==◌, not, filter, flat_map}
use Rattle.std.proofs.lemmas.Bool.{cases_Bool, eqb-true, false≢true}
use Rattle.std.proofs.lemmas.List.{take_all}
use Rattle.ads_outside.specs.declared.event.Event.{Event}
use Rattle.ads_outside.specs.declared.event.Event.TheVariants as event
use Rattle.ads_outside.specs.declared.moves.Move.{Move}
use Rattle.ads_outside.specs.declared.moves.Move.TheVariants as move
use Rattle.spec_machine.specs.Connection.{Connection, connection_of, bytes_of, bytes_of_all}
use Rattle.spec_machine.specs.MachineState.{MachineState, start_of, present_numbers, output_of_connection}
use Rattle.spec_machine.specs.Moves.{EventStep, state_after_move, state_after}
use Rattle.spec_machine.specs.Offers.{not_taken, is_gone, is_among, blocked_after_move, blocked_after, taken_of}
use Rattle.spec_machine.specs.Turns.{LogTurn, moves_of_turn, AreTurns}
use Rattle.spec_machine.specs.Delivery.{is_cut_off, is_short_from, is_short, PassesOn, KeepsThere, TakesAll}
use Rattle.spec_machine.proofs.Waiting.{joined_bytes, left_none}
use Rattle.spec_machine.proofs.Delivered.{MaybeGave}
use Rattle.spec_machine.proofs.TurnsKept.{offers_kept, gave_offers}
use Rattle.spec_machine.proofs.Emptied.{not_taken_at, Settled, Marked, SettledAfter}
use Rattle.spec_machine.proofs.EmptiedTurns.{IsIn, WillSettle, each-settled, settled-append, cut_off-append}

present-in : {C : Type 0} (c : ℕ) (ks : List (Connection C)) (k : Connection C) → connection_of c ks ≡ Some k
    → k.gone ≡ false → IsIn c (map (λ (x : Connection C). x.number) (filter (λ (x : Connection C). not x.gone) ks))
unfolding connection_of
present-in c [] k e g = cc
present-in {C} c (l ∷ ls) k e g =
    elim (cases_Bool (l.number == c)) [
      | inl t ↦
          let f : Some l ≡ Some k = rw t at e in
          let same : l ≡ k = cc in
          let here : l.gone ≡ false = ap (λ (x : Connection C). x.gone) same ∙ g in
          rw here (inl (eqb-true l.number c t))
      | inr t ↦
          let f : connection_of c ls ≡ Some k = rw t at e in
          elim (cases_Bool l.gone) [
            | inl u ↦ rw u (present-in c ls k f g)
            | inr u ↦ rw u (inr (present-in c ls k f g))
          ]
    ]

passes-settles : {W C : Type 0} (c : ℕ) (short : Bool) (s u : MachineState W C)
    → PassesOn (connection_of c s.connections) (connection_of c u.connections) → Settled c short s → WillSettle c short (present_numbers u) u
passes-settles c short s u p (inl e) = inl (inl e)
passes-settles c short s u (inl e) (inr h) = inl (inr (e ∙ h))
passes-settles c short s u (inr (l, e, g)) (inr h) = inr (present-in c u.connections l e g, ap is_gone e ∙ g)

filtered : (c n : ℕ) (blocked : List ℕ) → is_among c (filter (λ b. not (b == n)) blocked) ≡ true → is_among c blocked ≡ true
filtered c n [] h = h
filtered c n (b ∷ bs) h =
    elim (cases_Bool (b == c)) [
      | inl t ↦ rw t refl
      | inr t ↦ rw t (elim (cases_Bool (b == n)) [
        | inl u ↦ filtered c n bs (rw u at h)
        | inr u ↦ filtered c n bs (let g = rw u at h in rw t at g)
      ])
    ]

event-marked : (c : ℕ) (short : Bool) (e : Event) (blocked : List ℕ) → Marked c short blocked → Marked c short (blocked_after_move blocked (move.Event e))
event-marked c short (event.Opened n) blocked m = m
event-marked c short (event.Piece n bytes) blocked m = m
event-marked c short (event.Closed n) blocked m = m
event-marked c short (event.Tick t) blocked m = m
event-marked c short (event.Reload bytes) blocked m = m
event-marked c short (event.Writable n) blocked m = λ b. m (filtered c n blocked b)

turns-settled : {W C : Type 0} (step : EventStep W C) → KeepsThere step → (c : ℕ) (ts : List LogTurn) (short : Bool) (blocked : List ℕ) (s : MachineState W C)
    → AreTurns step blocked s ts → is_cut_off c (flat_map moves_of_turn ts) ≡ false
    → Marked c short blocked → Settled c short s → SettledAfter step c short blocked s (flat_map moves_of_turn ts)
unfolding AreTurns state_after state_after_move blocked_after is_short_from
turns-settled step keeps c [] short blocked s h cut m o = (o, m)
turns-settled {W} {C} step keeps c (t ∷ ts) short blocked s h cut m o =
    let u : MachineState W C = step s t.event in
    let cuts = cut_off-append c (moves_of_turn t) (flat_map moves_of_turn ts) cut in
    let event_cuts = cut_off-append c (move.Event t.event ∷ []) (flat_map (λ ms. ms) t.served) (cuts.0) in
    let bs = blocked_after_move blocked (move.Event t.event) in
    let will = passes-settles c short s u (keeps s t.event c (event_cuts.0)) o in
    let a = each-settled step c (present_numbers u) t.served short bs u (h.0) (event_cuts.1) (event-marked c short t.event blocked m) will in
    settled-append step c short blocked (moves_of_turn t) (flat_map moves_of_turn ts) s
    (turns-settled step keeps c ts (is_short_from c short (moves_of_turn t))
    (blocked_after blocked (moves_of_turn t)) (state_after step s (moves_of_turn t)) (h.1) (cuts.1) (a.1) (a.0))

all_of_it : {C : Type 0} (t : List ℕ) (o : Option (Connection C)) → MaybeGave t o → not_taken o ≡ [] → t ≡ output_of_connection o
all_of_it t None g l = g
all_of_it t (Some k) g l =
    let n = left_none (map bytes_of k.produced) k.bytes_taken l in
    let all = ap length (joined_bytes k.produced) in
    g.is ∙ take_all k.bytes_taken (bytes_of_all k.produced) (omega (arith, n, all))

pub takes_all : (W C : Type 0) → TakesAll W C
unfolding connection_of
takes_all W C step world c log adds keeps k whole cut =
    all_of_it (taken_of c log) (connection_of c end.connections) (gave_offers step adds world c log (offers_kept step (start_of world) log k)) (nothing settled)
  where
    end : MachineState W C
    end = state_after step (start_of world) log

    settled : Settled c (is_short c log) end
    settled =
        let P : List Move → Type 0 = λ ms. Settled c (is_short c ms) (state_after step (start_of world) ms) in
        let Q : List Move → Type 0 = λ ms. is_cut_off c ms ≡ false in
        subst P (sym k.whole) (turns-settled step keeps c k.turns false [] (start_of world) k.served (subst Q k.whole cut) (λ b. b) (inr refl)).0

    nothing : Settled c (is_short c log) end → not_taken_at c end ≡ []
    nothing (inl e) = absurd (false≢true (sym whole ∙ e))
    nothing (inr e) = e
