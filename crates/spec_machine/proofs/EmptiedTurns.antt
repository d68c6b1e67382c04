-- Over whole turns: a connection that is served each time has taken all, or its last offer was short.
use Rattle.std.proofs.Common.{◌≡◌, ◌≢◌, ◌⊎◌, ℕ, List, [], ◌∷◌, ◌++◌, length, Bool, false, cond, refl, sym, ◌∙◌, ap, subst, inl, inr}
use Rattle.std.specs.Prelude.{◌==◌, nat_lt, flat_map}
use Rattle.std.proofs.lemmas.Bool.{cases_Bool, cases_eq, ne_eqb}
use Rattle.ads_outside.specs.declared.event.Event.TheVariants as event
use Rattle.ads_outside.specs.declared.moves.Move.{Move}
use Rattle.ads_outside.specs.declared.moves.Move.TheVariants as move
use Rattle.spec_machine.specs.Connection.{connection_of}
use Rattle.spec_machine.specs.MachineState.{MachineState}
use Rattle.spec_machine.specs.Moves.{EventStep, with_gone, with_took, state_after_move, state_after}
use Rattle.spec_machine.specs.Offers.{not_taken, is_gone, is_gone_at, is_among, blocked_after_move, blocked_after}
use Rattle.spec_machine.specs.Turns.{Serves, ServesEach}
use Rattle.spec_machine.specs.Delivery.{is_cut_off, is_short_after, is_short_from}
use Rattle.spec_machine.proofs.Changes.{exchange_other, with_gone-number, with_took-number, state_after-append}
use Rattle.spec_machine.proofs.Emptied.{Settled, Marked, Ready, SettledAfter, or_false, serves-settled}

-- what another connection is served leaves this one
pub record SameAfter {W C : Type 0} (step : EventStep W C) (c : ℕ) (short : Bool) (blocked : List ℕ) (s : MachineState W C) (ms : List Move) : Type 0 where
  pub found : connection_of c (state_after step s ms).connections ≡ connection_of c s.connections
  pub short_ : is_short_from c short ms ≡ short
  pub blocked_ : is_among c (blocked_after blocked ms) ≡ is_among c blocked

blocked-other : (c n offered : ℕ) (bytes blocked : List ℕ) → n ≢ c → is_among c (blocked_after_move blocked (move.Took n offered bytes)) ≡ is_among c blocked
blocked-other c n offered bytes blocked ne =
    let t = ne_eqb n c ne in
    elim (cases_Bool (nat_lt (length bytes) offered)) [
      | inl b ↦ rw (b, t) refl
      | inr b ↦ rw b refl
    ]

other-same : {W C : Type 0} (step : EventStep W C) (c d : ℕ) → d ≢ c
    → (ms : List Move) (short : Bool) (blocked bs : List ℕ) (s : MachineState W C) → Serves step d bs s ms → SameAfter step c short blocked s ms
unfolding Serves state_after state_after_move blocked_after is_short_from
other-same step c d ne [] short blocked bs s h = record { found = refl; short_ = refl; blocked_ = refl }
other-same {W} {C} step c d ne (move.Took n offered bytes ∷ ms) short blocked bs s h =
    let n_ne : n ≢ c = λ e. ne (sym (h.0) ∙ e) in
    let u : MachineState W C = state_after_move step s (move.Took n offered bytes) in
    let t = ne_eqb n c n_ne in
    let after = other-same step c d ne ms (is_short_after c short (move.Took n offered bytes))
    (blocked_after_move blocked (move.Took n offered bytes)) (blocked_after_move bs (move.Took n offered bytes)) u (h.3) in
    record {
      found = after.found ∙ exchange_other c n (with_took (length bytes)) (with_took-number (length bytes)) n_ne s;
      short_ = after.short_ ∙ ap (λ b. cond b (nat_lt (length bytes) offered) short) t;
      blocked_ = after.blocked_ ∙ blocked-other c n offered bytes blocked n_ne;
    }
other-same {W} {C} step c d ne (move.Lost n ∷ ms) short blocked bs s h =
    let n_ne : n ≢ c = λ e. ne (sym (h.0) ∙ e) in
    let P : List Move → Type 0 = λ xs. SameAfter step c short blocked s (move.Lost n ∷ xs) in
    subst P (sym (h.2)) (record { found = exchange_other c n with_gone with_gone-number n_ne s; short_ = refl; blocked_ = refl })
other-same {W} {C} step c d ne (move.Shut n ∷ ms) short blocked bs s h =
    let n_ne : n ≢ c = λ e. ne (sym (h.0) ∙ e) in
    let P : List Move → Type 0 = λ xs. SameAfter step c short blocked s (move.Shut n ∷ xs) in
    subst P (sym (h.3)) (record { found = exchange_other c n with_gone with_gone-number n_ne s; short_ = refl; blocked_ = refl })
other-same step c d ne (move.Event e ∷ ms) short blocked bs s h = absurd h

pub cut_off-append : (c : ℕ) (ms ns : List Move) → is_cut_off c (ms ++ ns) ≡ false → (is_cut_off c ms ≡ false) × (is_cut_off c ns ≡ false)
unfolding is_cut_off
cut_off-append c [] ns e = (refl, e)
cut_off-append c (move.Took n offered bytes ∷ ms) ns e = cut_off-append c ms ns e
cut_off-append c (move.Shut n ∷ ms) ns e = cut_off-append c ms ns e
cut_off-append c (move.Lost n ∷ ms) ns e =
    let p = or_false (n == c) (is_cut_off c (ms ++ ns)) e in
    let q = cut_off-append c ms ns (p.1) in
    let t = p.0 in
    let u = q.0 in
    (rw (t, u) refl, q.1)
cut_off-append c (move.Event (event.Closed n) ∷ ms) ns e =
    let p = or_false (n == c) (is_cut_off c (ms ++ ns)) e in
    let q = cut_off-append c ms ns (p.1) in
    let t = p.0 in
    let u = q.0 in
    (rw (t, u) refl, q.1)
cut_off-append c (move.Event (event.Opened n) ∷ ms) ns e = cut_off-append c ms ns e
cut_off-append c (move.Event (event.Piece n bytes) ∷ ms) ns e = cut_off-append c ms ns e
cut_off-append c (move.Event (event.Tick t) ∷ ms) ns e = cut_off-append c ms ns e
cut_off-append c (move.Event (event.Reload bytes) ∷ ms) ns e = cut_off-append c ms ns e
cut_off-append c (move.Event (event.Writable n) ∷ ms) ns e = cut_off-append c ms ns e

short_from-append : (c : ℕ) (ms ns : List Move) (short : Bool) → is_short_from c short (ms ++ ns) ≡ is_short_from c (is_short_from c short ms) ns
unfolding is_short_from
short_from-append c [] ns short = refl
short_from-append c (m ∷ ms) ns short = short_from-append c ms ns (is_short_after c short m)

blocked_after-append : (ms ns : List Move) (blocked : List ℕ) → blocked_after blocked (ms ++ ns) ≡ blocked_after (blocked_after blocked ms) ns
unfolding blocked_after
blocked_after-append [] ns blocked = refl
blocked_after-append (m ∷ ms) ns blocked = blocked_after-append ms ns (blocked_after_move blocked m)

pub settled-append : {W C : Type 0} (step : EventStep W C) (c : ℕ) (short : Bool) (blocked : List ℕ) (ms ns : List Move) (s : MachineState W C)
    → SettledAfter step c (is_short_from c short ms) (blocked_after blocked ms) (state_after step s ms) ns
    → SettledAfter step c short blocked s (ms ++ ns)
settled-append step c short blocked ms ns s h = rw (state_after-append step ms ns s, short_from-append c ms ns short, blocked_after-append ms ns blocked) h

abbrev pub IsIn : ℕ → List ℕ → Type 0
IsIn c [] = ⊥
IsIn c (d ∷ ds) = (d ≡ c) ⊎ IsIn c ds

-- it is settled, or it is there and will be served
abbrev pub WillSettle : {W C : Type 0} → ℕ → Bool → List ℕ → MachineState W C → Type 0
WillSettle c short cs s = Settled c short s ⊎ (IsIn c cs × (is_gone_at c s ≡ false))

ready : {W C : Type 0} (c : ℕ) (short : Bool) (s : MachineState W C) → Settled c short s → Ready c short s
ready c short s h = elim (cases_Bool (is_gone_at c s)) [ inl g ↦ inr (h, g) | inr g ↦ inl g ]

will_be_ready : {W C : Type 0} (c : ℕ) (short : Bool) (cs : List ℕ) (s : MachineState W C) → WillSettle c short cs s → Ready c short s
will_be_ready c short cs s (inl h) = ready c short s h
will_be_ready c short cs s (inr h) = inl (h.1)

pub each-settled : {W C : Type 0} (step : EventStep W C) (c : ℕ) (cs : List ℕ) (mss : List (List Move)) (short : Bool)
    (blocked : List ℕ) (s : MachineState W C) → ServesEach step cs blocked s mss → is_cut_off c (flat_map (λ ms. ms) mss) ≡ false
    → Marked c short blocked → WillSettle c short cs s → SettledAfter step c short blocked s (flat_map (λ ms. ms) mss)
unfolding ServesEach state_after blocked_after is_short_from
each-settled step c [] [] short blocked s h cut m (inl o) = (o, m)
each-settled step c [] [] short blocked s h cut m (inr i) = absurd (i.0)
each-settled step c [] (ms ∷ mss) short blocked s h cut m w = absurd h
each-settled step c (d ∷ ds) [] short blocked s h cut m w = absurd h
each-settled {W} {C} step c (d ∷ ds) (ms ∷ mss) short blocked s h cut m w =
    let q = next (cases_eq d c) in
    settled-append step c short blocked ms (flat_map (λ xs. xs) mss) s
    (each-settled step c ds mss (is_short_from c short ms) (blocked_after blocked ms) (state_after step s ms) (h.1) (cuts.1) (q.1) (q.0))
  where
    cuts : (is_cut_off c ms ≡ false) × (is_cut_off c (flat_map (λ xs. xs) mss) ≡ false)
    cuts = cut_off-append c ms (flat_map (λ xs. xs) mss) cut

    passed : d ≢ c → WillSettle c short (d ∷ ds) s → SameAfter step c short blocked s ms
        → WillSettle c (is_short_from c short ms) ds (state_after step s ms) × Marked c (is_short_from c short ms) (blocked_after blocked ms)
    passed ne x a = (still x, λ b. a.short_ ∙ m (sym (a.blocked_) ∙ b))
      where
        still : WillSettle c short (d ∷ ds) s → WillSettle c (is_short_from c short ms) ds (state_after step s ms)
        still (inl (inl e)) = inl (inl (a.short_ ∙ e))
        still (inl (inr e)) = inl (inr (ap not_taken a.found ∙ e))
        still (inr (inl e, g)) = absurd (ne e)
        still (inr (inr i, g)) = inr (i, ap is_gone a.found ∙ g)

    next : (d ≡ c) ⊎ (d ≢ c)
        → WillSettle c (is_short_from c short ms) ds (state_after step s ms) × Marked c (is_short_from c short ms) (blocked_after blocked ms)
    next (inl e) =
        let P : ℕ → Type 0 = λ n. Serves step n blocked s ms in
        let a = serves-settled step c ms short blocked s (subst P e (h.0)) (cuts.0) m (will_be_ready c short (d ∷ ds) s w) in
        (inl (a.0), a.1)
    next (inr ne) = passed ne w (other-same step c d ne ms short blocked blocked s (h.0))
