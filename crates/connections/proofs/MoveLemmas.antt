-- The moves of a machine and what is kept of its connections' output. Its world, its clients and how events change it are any.
use Rattle.std.proofs.Common.{◌≡◌, ◌≢◌, ◌⊎◌, ℕ, ◌≤◌, List, [], ◌∷◌, length, true, false, cond, not, refl, sym, ap, ◌∙◌, subst, inl, inr, arith}
use Rattle.std.specs.Prelude.{Bool, ◌==◌, ◌||◌, nat_lt, filter, Option, Some, None, IsSomeAnd}
use Rattle.std.specs.Prelude.{unwrap_or}
use Rattle.std.proofs.lemmas.Bool.{cases_eq, cond-false, or_left}
use Rattle.ads_outside.specs.declared.event.Event.TheVariants as event
use Rattle.ads_outside.specs.declared.moves.Move.TheVariants as move
use Rattle.ads_outside.specs.Wholes.{wholes}
use Rattle.spec_machine.specs.Connection.{Connection, connection_of, put_back}
use Rattle.spec_machine.specs.MachineState.{MachineState, Exchange, exchange_of, with_exchange, after_exchange}
use Rattle.spec_machine.specs.Moves.{EventStep, with_gone, with_took, state_after_move, state_after}
use Rattle.spec_machine.specs.Offers.{is_among, blocked_after_move, blocked_after}
use Rattle.spec_machine.specs.Running.{Running, running_after}
use Rattle.spec_machine.proofs.Find.{test_same, test_other}
use Rattle.ads_served.specs.Standing.{running_after_all}
use Rattle.out_queue.specs.Queue.{front_of, frames_after}
use Rattle.connections.specs.declared.outlet.Outlet.{Outlet}
use Rattle.connections.specs.Offering.{FitsFirst, first_left}
use Rattle.connections.specs.Entries.{IsEntry, IsNoEntry}
use Rattle.connections.specs.Outlets.{Outlets, outlet_at, taken, emptied, freed, change_of, change_at, without_number}
use Rattle.connections.specs.Outlets.{offer_of_outlet, offer_among, run_of_outlet, run_among}
use Rattle.connections.specs.Carries.{EachMarked, Carries}
use Rattle.connections.proofs.StateLemmas.{put_back-itself}
use Rattle.connections.proofs.OfferLemmas.{is_offer}
use Rattle.connections.proofs.LentLemmas.{IsLent, is_lent, whole_after, not_short}
use Rattle.connections.proofs.EntryLemmas.{entry_or_not, no_first, none_behind_first}
use Rattle.connections.proofs.OutletLemmas.{read_at, read_absent, changed_at, unchanged_of, without_none}
use Rattle.connections.proofs.OutletLemmas.{entry_changed, outlet_changed, change_same, change_twice}
use Rattle.connections.proofs.CarryLemmas.{Concerns, AtNumber, at_number, IsNotThere, absent_is, changed_by, ended}
use Rattle.connections.proofs.OutputLemmas.{with_taken, taken_stands, freed_stands}

-- a connection is writable
abbrev pub writable_list : ℕ → List ℕ → List ℕ
writable_list n blocked = filter (λ b. not (b == n)) blocked

writable-other : (n m : ℕ) (bs : List ℕ) → m ≢ n → is_among m (writable_list n bs) ≡ is_among m bs
writable-other n m [] other = refl
writable-other n m (b ∷ bs) other = elim (cases_eq b n) [
  | inl same ↦ let t = test_same b n same in let u = test_other b m (λ e. other (sym e ∙ same)) in rw (t, u) (writable-other n m bs other)
  | inr differs ↦ let t = test_other b n differs in rw t (ap (λ q. (b == m) || q) (writable-other n m bs other))
]

writable-same : (n : ℕ) (bs : List ℕ) → is_among n (writable_list n bs) ≡ false
writable-same n [] = refl
writable-same n (b ∷ bs) = elim (cases_eq b n) [
  | inl same ↦ let t = test_same b n same in rw t (writable-same n bs)
  | inr differs ↦ let t = test_other b n differs in rw (t, t) (writable-same n bs)
]

-- bytes of an offer are taken
abbrev blocked_list : Bool → ℕ → List ℕ → List ℕ
blocked_list short n blocked = cond short (n ∷ blocked) blocked

took-other : (short : Bool) (n m : ℕ) (bs : List ℕ) → m ≢ n → is_among m (blocked_list short n bs) ≡ is_among m bs
took-other false n m bs other = refl
took-other true n m bs other = ap (λ q. q || is_among m bs) (test_other n m (λ e. other (sym e)))

took-same : (short : Bool) (n : ℕ) (bs : List ℕ) → is_among n bs ≡ false → short ≡ is_among n (blocked_list short n bs)
took-same false n bs free = sym free
took-same true n bs free = sym (or_left (n == n) (is_among n bs) (test_same n n refl))

-- no entry has the number
marked_absent : (n : ℕ) (old new : List ℕ) → Concerns n old new → (es : Outlets) → IsNoEntry es n → EachMarked old es → EachMarked new es
marked_absent n old new concerns [] none all = tt
marked_absent n old new concerns (e ∷ es) none all =
    (all.0 ∙ sym (concerns e.0 (no_first e es n none)), marked_absent n old new concerns es (none_behind_first e es n none) all.1)

-- it is writable again
pub writable : {C : Type 0} (es : Outlets) (blocked : List ℕ) (ks : List (Connection C)) (n : ℕ) → Carries es blocked ks
    → Carries (change_of freed n es) (blocked_after_move blocked (move.Event (event.Writable n))) ks
writable {C} es blocked ks n c = elim (entry_or_not es n) [
  | inl e ↦
      let at = at_number es blocked ks n e.i c e.place in
      subst (λ (fs : Outlets). Carries fs (writable_list n blocked) ks) (sym (changed_at freed es n e.i e.place))
      (subst (λ (ls : List (Connection C)). Carries (change_at freed e.i es) (writable_list n blocked) ls) (put_back-itself n at.k ks at.found)
      (changed_by freed es blocked (writable_list n blocked) ks n e.i at.k c at (freed_stands at.o at.k at.stands) at.number at.there
      (λ m other. writable-other n m blocked other) (sym (writable-same n blocked))))
  | inr none ↦
      subst (λ (fs : Outlets). Carries fs (writable_list n blocked) ks) (sym (unchanged_of freed es n none)) (record {
        each = c.each;
        apart = c.apart;
        marked = marked_absent n blocked (writable_list n blocked) (λ m other. writable-other n m blocked other) es none c.marked;
        known = λ m new. known m new (cases_eq m n);
      })
]
  where
    known : (m : ℕ) → connection_of m ks ≡ None → (m ≡ n) ⊎ (m ≢ n) → is_among m (writable_list n blocked) ≡ false
    known m new (inl same) = ap (λ q. is_among q (writable_list n blocked)) same ∙ writable-same n blocked
    known m new (inr other) = writable-other n m blocked other ∙ c.known m new

module _ {W C : Type 0} where
  -- a change of a connection that is gone, or that never was, is none
  pub unmoved : (n : ℕ) (f : Exchange W C → Exchange W C) (s : MachineState W C) → IsNotThere n s.connections
      → ((k : Connection C) → k.gone ≡ true → f (exchange_of s k) ≡ exchange_of s k) → after_exchange (connection_of n s.connections) f s ≡ s
  unmoved n f s (inl none) keeps = ap (λ o. after_exchange o f s) none
  unmoved n f s (inr one) keeps =
      ap (λ o. after_exchange o f s) one.found ∙ ap (λ e. with_exchange e s) (keeps one.k one.gone)
      ∙ ap (λ (ks : List (Connection C)). record s { connections = ks }) (put_back-itself n one.k s.connections one.found)

  pub gone_twice : (s : MachineState W C) (k : Connection C) → k.gone ≡ true → with_gone (exchange_of s k) ≡ exchange_of s k
  gone_twice s k gone = ap (λ (b : Bool). exchange_of s (record k { gone = b })) (sym gone)

  -- what a move makes of a state
  pub took_state : (step : EventStep W C) (s : MachineState W C) (n offered : ℕ) (bytes : List ℕ) (k : Connection C)
      → connection_of n s.connections ≡ Some k → k.gone ≡ false
      → state_after_move step s (move.Took n offered bytes) ≡ record s { connections = put_back (with_taken (length bytes) k) s.connections }
  unfolding state_after_move
  took_state step s n offered bytes k found there =
      ap (λ o. after_exchange o (with_took (length bytes)) s) found
      ∙ ap (λ x. with_exchange x s) (cond-false k.gone (exchange_of s k) (exchange_of s (with_taken (length bytes) k)) there)

  pub ended_state : (s : MachineState W C) (n : ℕ) (k : Connection C) → connection_of n s.connections ≡ Some k
      → after_exchange (connection_of n s.connections) with_gone s ≡ record s { connections = put_back (record k { gone = true }) s.connections }
  ended_state s n k found = ap (λ o. after_exchange o with_gone s) found

  -- a connection is closed, lost or shut
  pub gone_is_ended : (es : Outlets) (blocked : List ℕ) (s : MachineState W C) (n : ℕ) → Carries es blocked s.connections
      → (let t = after_exchange (connection_of n s.connections) with_gone s in Carries (without_number n es) blocked t.connections)
  gone_is_ended es blocked s n c = elim (entry_or_not es n) [
    | inl e ↦
        let at = at_number es blocked s.connections n e.i c e.place in
        subst (λ (t : MachineState W C). Carries (without_number n es) blocked t.connections) (sym (ended_state s n at.k at.found))
        (ended es blocked s.connections n e.i (let k = at.k in record k { gone = true }) c at e.place at.number refl)
    | inr none ↦
        subst (λ (t : MachineState W C). Carries (without_number n es) blocked t.connections)
        (sym (unmoved n with_gone s (absent_is es blocked s.connections n c none) (gone_twice s)))
        (subst (λ (fs : Outlets). Carries fs blocked s.connections) (sym (without_none es n none)) c)
  ]

  -- bytes of its offer are taken
  took_at : (step : EventStep W C) (es : Outlets) (x : Running W C) (n i : ℕ) (left bytes : List ℕ) → Carries es x.blocked x.state.connections
      → (at : AtNumber es x.blocked x.state.connections n i) → offer_of_outlet at.o ≡ Some left → length bytes ≤ length left
      → (let y = running_after step x (move.Took n (length left) bytes) in Carries (change_at (taken (length bytes)) i es) y.blocked y.state.connections)
  took_at step es x n i left bytes c at offered fits =
      let m = length bytes in
      let o = at.o in
      let offer = is_offer o.blocked o.out left offered in
      let short = nat_lt m (length left) in
      let first : FitsFirst m o.out = subst (λ p. IsSomeAnd p (λ (l : List ℕ). m ≤ length l)) (sym offer.front) fits in
      let mark : nat_lt m (length (first_left o.out)) ≡ short = ap (λ (p : Option (List ℕ)). nat_lt m (length (unwrap_or p []))) offer.front in
      let own : is_among n x.blocked ≡ false = sym at.mark ∙ offer.free in
      subst (λ (t : MachineState W C). Carries (change_at (taken m) i es) (blocked_list short n x.blocked) t.connections)
      (sym (took_state step x.state n (length left) bytes at.k at.found at.there))
      (changed_by (taken m) es x.blocked (blocked_list short n x.blocked) x.state.connections n i (with_taken m at.k) c at
      (taken_stands o at.k m at.stands first) at.number at.there (λ j other. took-other short n j x.blocked other) (mark ∙ took-same short n x.blocked own))

  pub took_one : (step : EventStep W C) (es : Outlets) (x : Running W C) (n : ℕ) (left bytes : List ℕ) → Carries es x.blocked x.state.connections
      → offer_among es n ≡ Some left → length bytes ≤ length left
      → (let y = running_after step x (move.Took n (length left) bytes) in Carries (change_of (taken (length bytes)) n es) y.blocked y.state.connections)
  took_one step es x n left bytes c offered fits = elim (entry_or_not es n) [
    | inl e ↦
        let y = running_after step x (move.Took n (length left) bytes) in
        let at = at_number es x.blocked x.state.connections n e.i c e.place in
        subst (λ (fs : Outlets). Carries fs y.blocked y.state.connections) (sym (changed_at (taken (length bytes)) es n e.i e.place))
        (took_at step es x n e.i left bytes c at (sym (read_at offer_of_outlet None es n e.i at.o e.place at.outlet) ∙ offered) fits)
    | inr none ↦ absurd (let both = sym (read_absent offer_of_outlet None es n none) ∙ offered in cc)
  ]

  -- all that is lent of it is taken, frame after frame
  whole_at : (step : EventStep W C) (es : Outlets) (x : Running W C) (n i : ℕ) (o : Outlet) (f : List ℕ) (fs : List (List ℕ))
      → Carries es x.blocked x.state.connections → IsEntry es n i → outlet_at es i ≡ Some o → o.blocked ≡ false → o.out ≡ f ∷ fs
      → (let y = running_after step x (move.Took n (length f) f) in
      Carries (change_at (λ p. record p { out = fs; blocked = false }) i es) y.blocked y.state.connections)
  whole_at step es x n i o f fs c place here free waits =
      let at = at_number es x.blocked x.state.connections n i c place in
      let y = running_after step x (move.Took n (length f) f) in
      let same : at.o ≡ o = (let both = sym at.outlet ∙ here in cc) in
      let offered : offer_of_outlet at.o ≡ Some f =
      ap offer_of_outlet same ∙ cond-false o.blocked None (front_of o.out) free ∙ ap front_of waits in
      let one = took_at step es x n i f f c at offered (omega arith) in
      let out : frames_after (length f) o.out ≡ fs = ap (λ gs. frames_after (length f) gs) waits ∙ whole_after f fs in
      let mark : nat_lt (length f) (length (first_left o.out)) ≡ false = ap (λ gs. nat_lt (length f) (length (first_left gs))) waits ∙ not_short (length f) in
      let is_whole : taken (length f) o ≡ record o { out = fs; blocked = false } =
      ap (λ gs. record o { out = gs; blocked = nat_lt (length f) (length (first_left o.out)) }) out ∙ ap (λ b. record o { out = fs; blocked = b }) mark in
      subst (λ (gs : Outlets). Carries gs y.blocked y.state.connections)
      (change_same (taken (length f)) (λ p. record p { out = fs; blocked = false }) es i o here is_whole) one

  wholes_at : (step : EventStep W C) (es : Outlets) (x : Running W C) (n i : ℕ) (o : Outlet) (f : List ℕ) (fs : List (List ℕ))
      → Carries es x.blocked x.state.connections → IsEntry es n i → outlet_at es i ≡ Some o → o.blocked ≡ false → o.out ≡ f ∷ fs
      → (let y = running_after_all step x (wholes n (f ∷ fs)) in Carries (change_at emptied i es) y.blocked y.state.connections)
  unfolding state_after blocked_after
  wholes_at step es x n i o f [] c place here free waits = whole_at step es x n i o f [] c place here free waits
  wholes_at step es x n i o f (g ∷ gs) c place here free waits =
      let rest : Outlet → Outlet = λ p. record p { out = g ∷ gs; blocked = false } in
      let between = change_at rest i es in
      let y = running_after step x (move.Took n (length f) f) in
      let z = running_after_all step y (wholes n (g ∷ gs)) in
      let first = whole_at step es x n i o f (g ∷ gs) c place here free waits in
      let all = wholes_at step between y n i (rest o) g gs first (entry_changed rest es n i i place) (outlet_changed rest es i o here) refl refl in
      subst (λ (gs : Outlets). Carries gs z.blocked z.state.connections) (change_twice rest emptied es i) all

  pub took_all : (step : EventStep W C) (es : Outlets) (x : Running W C) (n : ℕ) (frames : List (List ℕ)) → Carries es x.blocked x.state.connections
      → run_among es n ≡ Some frames
      → (let y = running_after_all step x (wholes n frames) in Carries (change_of emptied n es) y.blocked y.state.connections)
  took_all step es x n frames c some = elim (entry_or_not es n) [
    | inl e ↦
        let y = running_after_all step x (wholes n frames) in
        let at = at_number es x.blocked x.state.connections n e.i c e.place in
        let o = at.o in
        let lent = is_lent o.blocked o.out frames (sym (read_at run_of_outlet None es n e.i o e.place at.outlet) ∙ some) in
        subst (λ (fs : Outlets). Carries fs y.blocked y.state.connections) (sym (changed_at emptied es n e.i e.place)) (by e.i o e.place at.outlet frames lent)
    | inr none ↦ absurd (let both = sym (read_absent run_of_outlet None es n none) ∙ some in cc)
  ]
    where
      by : (i : ℕ) (o : Outlet) → IsEntry es n i → outlet_at es i ≡ Some o → (fs : List (List ℕ)) → IsLent o.blocked o.out fs
          → (let y = running_after_all step x (wholes n fs) in Carries (change_at emptied i es) y.blocked y.state.connections)
      by i o place here [] lent = absurd (let none : ◌≡◌ {A = Option (List (List ℕ))} None (Some []) = lent.some in cc)
      by i o place here (f ∷ fs) lent = wholes_at step es x n i o f fs c place here lent.free lent.out
