-- Once the connections that are gone are forgotten, a number that none bears is a new connection's.
use Rattle.std.proofs.Common.{◌≡◌, ℕ, List, [], ◌∷◌, map, Bool, false, cond, refl, sym, ◌∙◌, ap, subst, inl, inr}
use Rattle.std.specs.Prelude.{Option, Some, None, ◌==◌, not, filter}
use Rattle.std.proofs.lemmas.Bool.{cases_Bool}
use Rattle.ads_outside.specs.declared.event.Event.TheVariants as event
use Rattle.spec_machine.specs.Device.{Device}
use Rattle.spec_machine.specs.Connection.{Connection, fresh_connection, connection_of}
use Rattle.spec_machine.specs.MachineState.{MachineState, present_numbers, without_gone}
use Rattle.spec_machine.specs.Events.{state_after_event}
use Rattle.spec_machine.specs.Offers.{is_among}
use Rattle.spec_machine.specs.Output.{NumbersOpenAgain}
use Rattle.spec_machine.proofs.Find.{or_else, test_same, connection_of-append}
use Rattle.spec_machine.proofs.Emptied.{or_false}

none-among : {C : Type 0} (c : ℕ) (ks : List (Connection C)) → is_among c (map (λ (k : Connection C). k.number) ks) ≡ false → connection_of c ks ≡ None
unfolding connection_of
none-among c [] e = refl
none-among c (k ∷ ks) e =
    let p = or_false (k.number == c) (is_among c (map (λ x. x.number) ks)) e in
    let t = p.0 in
    rw t (none-among c ks (p.1))

there-stays : {C : Type 0} (c : ℕ) (ks : List (Connection C)) (k : Connection C) → connection_of c ks ≡ Some k
    → k.gone ≡ false → connection_of c (filter (λ (x : Connection C). not x.gone) ks) ≡ Some k
unfolding connection_of
there-stays c [] k e g = cc
there-stays {C} c (l ∷ ls) k e g =
    elim (cases_Bool (l.number == c)) [
      | inl t ↦
          let f : Some l ≡ Some k = rw t at e in
          let same : l ≡ k = cc in
          let here : l.gone ≡ false = ap (λ (x : Connection C). x.gone) same ∙ g in
          let rest : List (Connection C) = filter (λ (x : Connection C). not x.gone) ls in
          let first : connection_of c (l ∷ rest) ≡ Some k = rw t f in
          let P : Bool → Type 0 = λ b. connection_of c (cond (not b) (l ∷ rest) rest) ≡ Some k in
          subst P (sym here) first
      | inr t ↦
          let f : connection_of c ls ≡ Some k = rw t at e in
          elim (cases_Bool l.gone) [
            | inl u ↦ rw u (there-stays c ls k f g)
            | inr u ↦ rw (u, t) (there-stays c ls k f g)
          ]
    ]

opened-new : {W C : Type 0} (device : Device W C) (s : MachineState W C) (c : ℕ) → is_among c (present_numbers s) ≡ false
    → connection_of c (state_after_event device (without_gone s) (event.Opened c)).connections ≡ Some (fresh_connection device.new_client c)
unfolding state_after_event connection_of
opened-new {W} {C} device s c none =
    let k : Connection C = fresh_connection device.new_client c in
    let t = test_same c c refl in
    connection_of-append c (without_gone s).connections (k ∷ [])
    ∙ ap (λ (o : Option (Connection C)). or_else o (connection_of c (k ∷ []))) (none-among c (without_gone s).connections none)
    ∙ rw t refl

pub numbers_open_again : (W C : Type 0) → NumbersOpenAgain W C
numbers_open_again W C device s = record { stay = λ c k e g. there-stays c s.connections k e g; opened = opened-new device s }
