-- What a connection took begins what it was given, over any machine that only adds to that.
use Rattle.std.proofs.Common.{◌≡◌, ℕ, ◌+◌, ◌≤◌, List, [], ◌∷◌, ◌++◌, map, length, take, drop, Bool, true}
use Rattle.std.proofs.Common.{false, cond, refl, sym, ◌∙◌, ap, subst, inl, inr, arith, append_assoc}
use Rattle.std.proofs.Common.{length-append}
use Rattle.std.specs.Prelude.{Option, Some, None, ◌==◌}
use Rattle.std.proofs.lemmas.Bool.{cases_Bool, cases_eq, eqb-true, eqb-false}
use Rattle.std.proofs.lemmas.List.{append-nil, take-append-le, take-append-drop}
use Rattle.std.proofs.Math.Seq.{take-add}
use Rattle.ads_outside.specs.declared.event.Event.{Event}
use Rattle.ads_outside.specs.declared.moves.Move.{Move}
use Rattle.ads_outside.specs.declared.moves.Move.TheVariants as move
use Rattle.spec_machine.specs.Connection.{Connection, connection_of, bytes_of, bytes_of_all}
use Rattle.spec_machine.specs.MachineState.{MachineState, Exchange, exchange_of, after_exchange, output_of_connection}
use Rattle.spec_machine.specs.Moves.{EventStep, with_gone, with_took, state_after_move, state_after}
use Rattle.spec_machine.specs.Offers.{left_after, waiting_of, waiting_at, taken_of}
use Rattle.spec_machine.specs.Turns.{IsOffer}
use Rattle.spec_machine.specs.Delivery.{IsPrefix, AreOffers, AddsTo, OnlyAdds}
use Rattle.spec_machine.proofs.Waiting.{joined_bytes, offer_next}
use Rattle.spec_machine.proofs.Changes.{KeepsNumber, exchange_own, exchange_other, exchange_none, with_gone-number, with_took-number}

-- what was taken so far is the beginning of what was given, as far as the count says
pub record Gave {C : Type 0} (t : List ℕ) (k : Connection C) : Type 0 where
  pub is : t ≡ take k.bytes_taken (bytes_of_all k.produced)
  pub counted : k.bytes_taken ≤ length (bytes_of_all k.produced)

abbrev pub MaybeGave : {C : Type 0} → List ℕ → Option (Connection C) → Type 0
MaybeGave t None = t ≡ []
MaybeGave t (Some k) = Gave t k

-- a change of one connection that keeps what it gave
local-gave : {W C : Type 0} (t : List ℕ) (c n : ℕ) (f : Exchange W C → Exchange W C) → KeepsNumber f
    → ((x : Exchange W C) → Gave t x.connection → Gave t (f x).connection) → (s : MachineState W C)
    → MaybeGave t (connection_of c s.connections) → MaybeGave t (connection_of c (after_exchange (connection_of n s.connections) f s).connections)
local-gave {W} {C} t c n f same keeps s g =
    elim (cases_eq n c) [
      | inr ne ↦ subst (MaybeGave t) (sym (exchange_other c n f same ne s)) g
      | inl q ↦
          let P : ℕ → Type 0 = λ i. MaybeGave t (connection_of c (after_exchange (connection_of i s.connections) f s).connections) in
          subst P (sym q) (own (connection_of c s.connections) refl)
    ]
  where
    own : (o : Option (Connection C)) → connection_of c s.connections ≡ o
        → MaybeGave t (connection_of c (after_exchange (connection_of c s.connections) f s).connections)
    own None e = subst (λ (u : MachineState W C). MaybeGave t (connection_of c u.connections)) (sym (exchange_none c f s e)) g
    own (Some k) e = subst (MaybeGave t) (sym (exchange_own c f same s k e)) (keeps (exchange_of s k) (subst (MaybeGave t) e g))

-- an event adds to what a connection was given
event-gave : {W C : Type 0} (step : EventStep W C) → OnlyAdds step → (t : List ℕ) (c : ℕ) (e : Event) (s : MachineState W C)
    → MaybeGave t (connection_of c s.connections) → MaybeGave t (connection_of c (step s e).connections)
event-gave {W} {C} step adds t c e s g = go (connection_of c s.connections) (connection_of c (step s e).connections) (adds s e c) g
  where
    go : (o p : Option (Connection C)) → AddsTo o p → MaybeGave t o → MaybeGave t p
    go None None a none = none
    go None (Some l) a none = record { is = none ∙ ap (λ (n : ℕ). take n (bytes_of_all l.produced)) (sym a); counted = omega (arith, a) }
    go (Some k) None a h = absurd a
    go (Some k) (Some l) a h =
        let n = ap (λ (x : List ℕ). length x) a.given ∙ length-append (bytes_of_all k.produced) a.more in
        record {
          is = h.is ∙ sym (take-append-le k.bytes_taken (bytes_of_all k.produced) a.more h.counted)
              ∙ ap (λ (x : List ℕ). take k.bytes_taken x) (sym a.given) ∙ ap (λ (i : ℕ). take i (bytes_of_all l.produced)) (sym a.bytes_taken);
          counted = omega (arith, h.counted, a.bytes_taken, n);
        }

-- an offer that was taken adds to what was taken
took-gave : {W C : Type 0} (t : List ℕ) (x : Exchange W C) (offered : ℕ) (bytes : List ℕ) → Gave t x.connection
    → IsOffer (waiting_of (Some x.connection)) offered bytes → Gave (t ++ bytes) (with_took (length bytes) x).connection
took-gave {W} {C} t x offered bytes g h = go x.connection.gone refl
  where
    more : Exchange W C
    more = record x { connection = record x.connection { bytes_taken = x.connection.bytes_taken + length bytes } }

    go : (b : Bool) → x.connection.gone ≡ b → Gave (t ++ bytes) (cond b x more).connection
    go true e = let P : Bool → Type 0 = λ b. IsOffer (cond b [] (left_after x.connection.bytes_taken (map bytes_of x.connection.produced))) offered bytes in
        absurd (subst P e h)
    go false e =
        let P : Bool → Type 0 = λ b. IsOffer (cond b [] (left_after x.connection.bytes_taken (map bytes_of x.connection.produced))) offered bytes in
        let all = joined_bytes x.connection.produced in
        let r = offer_next (map bytes_of x.connection.produced) x.connection.bytes_taken offered bytes (subst P e h) in
        let a = g.is in
        let n = r.0 in
        let m = r.1 in
        let bytes_are : bytes ≡ take (length bytes) (drop x.connection.bytes_taken (bytes_of_all x.connection.produced)) =
        n ∙ ap (λ xs. take (length bytes) (drop x.connection.bytes_taken xs)) all in
        record {
          is = ap (λ xs. xs ++ bytes) a ∙ ap (λ xs. take x.connection.bytes_taken (bytes_of_all x.connection.produced) ++ xs) bytes_are
              ∙ sym (take-add x.connection.bytes_taken (length bytes) (bytes_of_all x.connection.produced));
          counted = let l = ap length all in omega (arith, m, l);
        }

took-own : {W C : Type 0} (t : List ℕ) (c offered : ℕ) (bytes : List ℕ) (s : MachineState W C)
    → MaybeGave t (connection_of c s.connections) → IsOffer (waiting_at c s) offered bytes
    → MaybeGave (t ++ bytes) (connection_of c (after_exchange (connection_of c s.connections) (with_took (length bytes)) s).connections)
took-own {W} {C} t c offered bytes s g h = own (connection_of c s.connections) refl
  where
    own : (o : Option (Connection C)) → connection_of c s.connections ≡ o
        → MaybeGave (t ++ bytes) (connection_of c (after_exchange (connection_of c s.connections) (with_took (length bytes)) s).connections)
    own None e = absurd (subst (λ (o : Option (Connection C)). IsOffer (waiting_of o) offered bytes) e h)
    own (Some k) e =
        subst (MaybeGave (t ++ bytes)) (sym (exchange_own c (with_took (length bytes)) (with_took-number (length bytes)) s k e))
        (took-gave t (exchange_of s k) offered bytes (subst (MaybeGave t) e g)
        (subst (λ (o : Option (Connection C)). IsOffer (waiting_of o) offered bytes) e h))

gone-gave : {W C : Type 0} (t : List ℕ) (c n : ℕ) (s : MachineState W C) → MaybeGave t (connection_of c s.connections)
    → MaybeGave t (connection_of c (after_exchange (connection_of n s.connections) with_gone s).connections)
gone-gave t c n s g = local-gave t c n with_gone with_gone-number (λ x h. record { is = h.is; counted = h.counted }) s g

pub gave_log : {W C : Type 0} (step : EventStep W C) → OnlyAdds step
    → (c : ℕ) (log : List Move) (s : MachineState W C) (t : List ℕ) → MaybeGave t (connection_of c s.connections) → AreOffers step s log
    → MaybeGave (t ++ taken_of c log) (connection_of c (state_after step s log).connections)
unfolding state_after state_after_move taken_of AreOffers
gave_log {W} {C} step adds c [] s t g h = subst (λ (x : List ℕ). MaybeGave x (connection_of c s.connections)) (sym (append-nil t)) g
gave_log step adds c (move.Event e ∷ ms) s t g h = gave_log step adds c ms (step s e) t (event-gave step adds t c e s g) (h.1)
gave_log step adds c (move.Lost n ∷ ms) s t g h = gave_log step adds c ms (state_after_move step s (move.Lost n)) t (gone-gave t c n s g) (h.1)
gave_log step adds c (move.Shut n ∷ ms) s t g h = gave_log step adds c ms (state_after_move step s (move.Shut n)) t (gone-gave t c n s g) (h.1)
gave_log {W} {C} step adds c (move.Took n offered bytes ∷ ms) s t g h =
    let u = state_after_move step s (move.Took n offered bytes) in
    let P : List ℕ → Type 0 = λ x. MaybeGave x (connection_of c (state_after step u ms).connections) in
    elim (cases_Bool (n == c)) [
      | inl b ↦
          let q = eqb-true n c b in
          let Q : ℕ → Type 0 = λ i. MaybeGave (t ++ bytes)
          (connection_of c (after_exchange (connection_of i s.connections) (with_took (length bytes)) s).connections) in
          let R : ℕ → Type 0 = λ i. IsOffer (waiting_at i s) offered bytes in
          let here : MaybeGave (t ++ bytes) (connection_of c u.connections) = subst Q (sym q) (took-own t c offered bytes s g (subst R q (h.0))) in
          rw b (subst P (append_assoc t bytes (taken_of c ms)) (gave_log step adds c ms u (t ++ bytes) here (h.1)))
      | inr b ↦
          let ne = eqb-false n c b in
          rw b (gave_log step adds c ms u t
          (subst (MaybeGave t) (sym (exchange_other c n (with_took (length bytes)) (with_took-number (length bytes)) ne s)) g) (h.1))
    ]

pub prefix_of_gave : {C : Type 0} (t : List ℕ) (o : Option (Connection C)) → MaybeGave t o → IsPrefix t (output_of_connection o)
prefix_of_gave t None g = ([], sym (append-nil t ∙ g))
prefix_of_gave t (Some k) g = (
  drop k.bytes_taken (bytes_of_all k.produced),
  sym (ap (λ xs. xs ++ drop k.bytes_taken (bytes_of_all k.produced)) g.is ∙ take-append-drop k.bytes_taken (bytes_of_all k.produced)),
)
