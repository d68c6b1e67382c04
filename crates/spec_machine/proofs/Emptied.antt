-- A connection took all that it was given, unless its last offer was short or it was cut off.
use Rattle.std.proofs.Common.{◌≡◌, ◌⊎◌, ℕ, List, [], ◌∷◌, map, length, Bool, true, false, cond, refl, sym, ◌∙◌, ap, subst, inl, inr}
use Rattle.std.specs.Prelude.{Option, Some, None, ◌==◌, ◌||◌, nat_lt}
use Rattle.std.proofs.lemmas.Bool.{cases_Bool, cases_eq, false≢true}
use Rattle.ads_outside.specs.declared.moves.Move.{Move}
use Rattle.ads_outside.specs.declared.moves.Move.TheVariants as move
use Rattle.spec_machine.specs.Connection.{Connection, connection_of, bytes_of}
use Rattle.spec_machine.specs.MachineState.{MachineState, exchange_of, after_exchange}
use Rattle.spec_machine.specs.Moves.{EventStep, with_gone, with_took, state_after_move, state_after}
use Rattle.spec_machine.specs.Offers.{left_after, not_taken, waiting_of, is_gone, is_gone_at, is_among, blocked_after_move, blocked_after}
use Rattle.spec_machine.specs.Turns.{IsOffer, IsServed, Serves}
use Rattle.spec_machine.specs.Delivery.{is_cut_off, is_short_after, is_short_from}
use Rattle.spec_machine.proofs.Find.{test_same}
use Rattle.spec_machine.proofs.Changes.{exchange_own, exchange_other, exchange_none, with_gone-number, with_took-number}

-- what a connection has not taken, whether it is gone or not
abbrev pub not_taken_at : {W C : Type 0} → ℕ → MachineState W C → List (List ℕ)
not_taken_at c s = not_taken (connection_of c s.connections)

not_taken-waiting : {C : Type 0} (o : Option (Connection C)) → is_gone o ≡ false → waiting_of o ≡ not_taken o
not_taken-waiting None g = refl
not_taken-waiting (Some k) g = ap (λ (b : Bool). cond b [] (left_after k.bytes_taken (map bytes_of k.produced))) g

gone-waiting : {C : Type 0} (o : Option (Connection C)) → is_gone o ≡ true → waiting_of o ≡ []
gone-waiting None g = cc
gone-waiting (Some k) g = ap (λ (b : Bool). cond b [] (left_after k.bytes_taken (map bytes_of k.produced))) g

-- its last offer was short, or it has taken all
abbrev pub Settled : {W C : Type 0} → ℕ → Bool → MachineState W C → Type 0
Settled c short s = (short ≡ true) ⊎ (not_taken_at c s ≡ [])

-- where a connection is blocked, its last offer was short
abbrev pub Marked : ℕ → Bool → List ℕ → Type 0
Marked c short blocked = is_among c blocked ≡ true → short ≡ true

-- it is there, or it is gone and settled
abbrev pub Ready : {W C : Type 0} → ℕ → Bool → MachineState W C → Type 0
Ready c short s = (is_gone_at c s ≡ false) ⊎ (Settled c short s × (is_gone_at c s ≡ true))

served-settled : {W C : Type 0} (c : ℕ) (short : Bool) (blocked : List ℕ) (s : MachineState W C)
    → IsServed c blocked s → Marked c short blocked → Ready c short s → Settled c short s
served-settled c short blocked s (inl e) m (inl g) = inr (sym (not_taken-waiting (connection_of c s.connections) g) ∙ e)
served-settled c short blocked s (inr b) m r = inl (m b)
served-settled c short blocked s (inl e) m (inr r) = r.0

pub took-gone : {W C : Type 0} (step : EventStep W C) (c offered : ℕ) (bytes : List ℕ) (s : MachineState W C)
    → is_gone_at c (state_after_move step s (move.Took c offered bytes)) ≡ is_gone_at c s
unfolding state_after_move
took-gone {W} {C} step c offered bytes s = go (connection_of c s.connections) refl
  where
    kept : (k : Connection C) → (with_took (length bytes) (exchange_of s k)).connection.gone ≡ k.gone
    kept k = elim (cases_Bool k.gone) [ inl b ↦ rw b refl | inr b ↦ rw b refl ]

    go : (o : Option (Connection C)) → connection_of c s.connections ≡ o
        → is_gone_at c (after_exchange (connection_of c s.connections) (with_took (length bytes)) s) ≡ is_gone_at c s
    go None e = ap (is_gone_at c) (exchange_none c (with_took (length bytes)) s e)
    go (Some k) e = ap is_gone (exchange_own c (with_took (length bytes)) (with_took-number (length bytes)) s k e) ∙ kept k ∙ sym (ap is_gone e)

-- a mark that it is gone leaves what it has not taken
gone-not_taken : {W C : Type 0} (c n : ℕ) (s : MachineState W C)
    → not_taken (connection_of c (after_exchange (connection_of n s.connections) with_gone s).connections) ≡ not_taken_at c s
gone-not_taken {W} {C} c n s =
    elim (cases_eq n c) [
      | inr ne ↦ ap not_taken (exchange_other c n with_gone with_gone-number ne s)
      | inl q ↦
          let P : ℕ → Type 0 = λ i. not_taken (connection_of c (after_exchange (connection_of i s.connections) with_gone s).connections) ≡ not_taken_at c s in
          subst P (sym q) (go (connection_of c s.connections) refl)
    ]
  where
    go : (o : Option (Connection C)) → connection_of c s.connections ≡ o
        → not_taken (connection_of c (after_exchange (connection_of c s.connections) with_gone s).connections) ≡ not_taken_at c s
    go None e = ap (not_taken_at c) (exchange_none c with_gone s e)
    go (Some k) e = ap not_taken (exchange_own c with_gone with_gone-number s k e) ∙ sym (ap not_taken e)

abbrev pub SettledAfter : {W C : Type 0} → EventStep W C → ℕ → Bool → List ℕ → MachineState W C → List Move → Type 0
SettledAfter step c short blocked s ms =
    Settled c (is_short_from c short ms) (state_after step s ms) × Marked c (is_short_from c short ms) (blocked_after blocked ms)

pub or_false : (a b : Bool) → (a || b) ≡ false → (a ≡ false) × (b ≡ false)
or_false true b e = absurd (false≢true (sym e))
or_false false b e = (refl, e)

-- once it was served a connection is settled
pub serves-settled : {W C : Type 0} (step : EventStep W C) (c : ℕ) (ms : List Move) (short : Bool) (blocked : List ℕ) (s : MachineState W C)
    → Serves step c blocked s ms → is_cut_off c ms ≡ false → Marked c short blocked → Ready c short s → SettledAfter step c short blocked s ms
unfolding Serves state_after state_after_move blocked_after is_short_from is_cut_off
serves-settled step c [] short blocked s h cut m r = (served-settled c short blocked s (h.0) m r, m)
serves-settled {W} {C} step c (move.Took n offered bytes ∷ ms) short blocked s h cut m (inr r) =
    let P : List (List ℕ) → Type 0 = λ fs. IsOffer fs offered bytes in
    absurd (subst P (gone-waiting (connection_of c s.connections) (r.1)) (h.2))
serves-settled {W} {C} step c (move.Took n offered bytes ∷ ms) short blocked s h cut m (inl g) =
    serves-settled step c ms (is_short_after c short (move.Took n offered bytes)) (blocked_after_move blocked (move.Took n offered bytes))
    (state_after_move step s (move.Took n offered bytes)) (h.3) cut marked (inl there)
  where
    P : ℕ → Type 0
    P i = is_gone_at c (state_after_move step s (move.Took i offered bytes)) ≡ false

    there : is_gone_at c (state_after_move step s (move.Took n offered bytes)) ≡ false
    there = subst P (sym (h.0)) (took-gone step c offered bytes s ∙ g)

    marked : Marked c (is_short_after c short (move.Took n offered bytes)) (blocked_after_move blocked (move.Took n offered bytes))
    marked b = elim (cases_Bool (nat_lt (length bytes) offered)) [
      | inl t ↦ rw (test_same n c (h.0)) t
      | inr t ↦ absurd (false≢true (sym (h.1) ∙ (rw t at b)))
    ]
serves-settled step c (move.Lost n ∷ ms) short blocked s h cut m r = absurd (false≢true (sym (or_false (n == c) (is_cut_off c ms) cut).0 ∙ test_same n c (h.0)))
serves-settled {W} {C} step c (move.Shut n ∷ ms) short blocked s h cut m r =
    let P : List Move → Type 0 = λ xs. SettledAfter step c short blocked (state_after_move step s (move.Shut n)) xs in
    subst P (sym (h.3)) (shut (served-settled c short blocked s (h.1) m r), m)
  where
    shut : Settled c short s → Settled c short (after_exchange (connection_of n s.connections) with_gone s)
    shut (inl e) = inl e
    shut (inr e) = inr (gone-not_taken c n s ∙ e)
serves-settled step c (move.Event e ∷ ms) short blocked s h cut m r = absurd h
