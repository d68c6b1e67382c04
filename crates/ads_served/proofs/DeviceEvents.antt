-- An event of a device's machine brings no connection but the one that it opens.
use Rattle.std.proofs.Common.{◌≡◌, ◌≢◌, ℕ, List, [], ◌∷◌, false, refl, sym, ap, ◌∙◌, subst, inl, inr, arith}
use Rattle.std.specs.Prelude.{◌==◌, Option, Some, None, option_map}
use Rattle.std.proofs.lemmas.Bool.{cases_eq, cond-true, cond-false}
use Rattle.std.proofs.lemmas.Bool.Decides.{nat_tests}
use Rattle.ads_outside.specs.declared.event.Event.TheVariants as event
use Rattle.spec_machine.specs.Connection.{Connection, connection_of, put_back, fresh_connection}
use Rattle.spec_machine.specs.Device.{Device, Reloading, Accepted, Refused}
use Rattle.spec_machine.specs.Events.{state_after_event, after_reload, connection_after_tick, connection_after_reload, moment_of_tick}
use Rattle.spec_machine.specs.MachineState.{MachineState, Exchange, exchange_of, after_exchange}
use Rattle.spec_machine.specs.Moves.{with_gone}
use Rattle.spec_machine.specs.Piece.{after_piece}
use Rattle.spec_machine.proofs.Find.{test_same, test_other, or_else, connection_of-append, connection_of-map}
use Rattle.spec_machine.proofs.Growth.{connection_after_tick-grows, connection_after_reload-grows}
use Rattle.ads_served.specs.Opened.{OpensAlone, is_opened}

same_found : {C : Type 0} (n : ℕ) (k : Connection C) (ks : List (Connection C)) → k.number ≡ n → connection_of n (k ∷ ks) ≡ Some k
unfolding connection_of
same_found n k ks e = cond-true (k.number == n) (Some k) (connection_of n ks) (test_same k.number n e)

other_found : {C : Type 0} (n : ℕ) (k : Connection C) (ks : List (Connection C)) → k.number ≢ n → connection_of n (k ∷ ks) ≡ connection_of n ks
unfolding connection_of
other_found n k ks e = cond-false (k.number == n) (Some k) (connection_of n ks) (test_other k.number n e)

none_of_nil : {C : Type 0} (n : ℕ) → connection_of {C = C} n [] ≡ None
unfolding connection_of
none_of_nil n = refl

-- whoever is found has another number than one that is not found
number_differs : {C : Type 0} (n : ℕ) (k : Connection C) (ks : List (Connection C)) → connection_of n (k ∷ ks) ≡ None → k.number ≢ n
number_differs n k ks e same = let both = sym (same_found n k ks same) ∙ e in cc

none_behind : {C : Type 0} (n : ℕ) (k : Connection C) (ks : List (Connection C)) → connection_of n (k ∷ ks) ≡ None → connection_of n ks ≡ None
none_behind n k ks e = sym (other_found n k ks (number_differs n k ks e)) ∙ e

put_back-same : {C : Type 0} (l k : Connection C) (ks : List (Connection C)) → k.number ≡ l.number → put_back l (k ∷ ks) ≡ l ∷ ks
unfolding put_back
put_back-same l k ks e = cond-true (k.number == l.number) (l ∷ ks) (k ∷ put_back l ks) (test_same k.number l.number e)

put_back-other : {C : Type 0} (l k : Connection C) (ks : List (Connection C)) → k.number ≢ l.number → put_back l (k ∷ ks) ≡ k ∷ put_back l ks
unfolding put_back
put_back-other l k ks e = cond-false (k.number == l.number) (l ∷ ks) (k ∷ put_back l ks) (test_other k.number l.number e)

-- who is not there does not come by another that takes its place
put_back-none : {C : Type 0} (n : ℕ) (l : Connection C) (ks : List (Connection C)) → connection_of n ks ≡ None → connection_of n (put_back l ks) ≡ None
unfolding put_back
put_back-none n l [] e = e
put_back-none {C} n l (k ∷ ks) e = elim (cases_eq k.number l.number) [
  | inl q ↦ subst (λ (xs : List (Connection C)). connection_of n xs ≡ None) (sym (put_back-same l k ks q))
      (other_found n l ks (λ r. number_differs n k ks e (q ∙ r)) ∙ none_behind n k ks e)
  | inr q ↦ subst (λ (xs : List (Connection C)). connection_of n xs ≡ None) (sym (put_back-other l k ks q))
      (other_found n k (put_back l ks) (number_differs n k ks e) ∙ put_back-none n l ks (none_behind n k ks e))
]

-- an exchange with a connection brings none
pub exchange-none : {W C : Type 0} (n : ℕ) (o : Option (Connection C)) (f : Exchange W C → Exchange W C) (s : MachineState W C)
    → connection_of n s.connections ≡ None → connection_of n (after_exchange o f s).connections ≡ None
exchange-none n None f s e = e
exchange-none n (Some k) f s e = put_back-none n (f (exchange_of s k)).connection s.connections e

-- neither does an accepted or a refused reload
reload-none : {W C : Type 0} (n : ℕ) (device : Device W C) (r : Reloading W) (s : MachineState W C)
    → connection_of n s.connections ≡ None → connection_of n (after_reload device r s).connections ≡ None
reload-none n device (Refused fault) s none = none
reload-none {W} {C} n device (Accepted version world) s none =
    let f : Connection C → Connection C = connection_after_reload device s.moment s.world world in
    connection_of-map n f (λ k. (connection_after_reload-grows device s.moment s.world world k).number) s.connections ∙ ap (option_map f) none

pub events_open_alone : {W C : Type 0} (device : Device W C) → OpensAlone (state_after_event device)
unfolding state_after_event
events_open_alone device s (event.Opened c) n other none =
    let k = fresh_connection device.new_client c in
    connection_of-append n s.connections (k ∷ []) ∙ (ap (λ o. or_else o (connection_of n (k ∷ []))) none
    ∙ (other_found n k [] (λ same. among_same n c other same) ∙ none_of_nil n))
  where
    among_same : (n c : ℕ) → is_opened n (c ∷ []) ≡ false → c ≡ n → ⊥
    among_same n c e same = grind (arith, nat_tests)
events_open_alone device s (event.Piece c bytes) n other none = exchange-none n (connection_of c s.connections) (after_piece device bytes) s none
events_open_alone device s (event.Closed c) n other none = exchange-none n (connection_of c s.connections) with_gone s none
events_open_alone {W} {C} device s (event.Tick t) n other none =
    let f : Connection C → Connection C = connection_after_tick device (moment_of_tick t s) (device.world_after_tick s.world) in
    connection_of-map n f (λ k. (connection_after_tick-grows device (moment_of_tick t s) (device.world_after_tick s.world) k).number) s.connections
    ∙ ap (option_map f) none
events_open_alone device s (event.Reload bytes) n other none = reload-none n device (device.reload bytes s.world) s none
events_open_alone device s (event.Writable c) n other none = none
