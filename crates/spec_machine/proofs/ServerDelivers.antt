-- The server's machine only adds to what its connections are given, and keeps them there: so what is proved
-- of any machine that does holds of it.
use Rattle.std.proofs.Common.{◌≡◌, ◌≢◌, ℕ, List, [], ◌∷◌, ◌++◌, map, false, refl, sym, ◌∙◌, ap, subst, inl, inr, append_assoc}
use Rattle.std.specs.Prelude.{Option, Some, None, ◌==◌, option_map}
use Rattle.std.proofs.lemmas.Bool.{cases_Bool, cases_eq, false≢true}
use Rattle.std.proofs.lemmas.List.{append-nil}
use Rattle.ads_outside.specs.declared.event.Event.{Event}
use Rattle.ads_outside.specs.declared.event.Event.TheVariants as event
use Rattle.ads_outside.specs.declared.moves.Move.{Move}
use Rattle.ads_outside.specs.declared.moves.Move.TheVariants as move
use Rattle.spec_machine.specs.Device.{Device, Reloading, Accepted, Refused}
use Rattle.spec_machine.specs.Connection.{Connection, fresh_connection, connection_of, bytes_of_all}
use Rattle.spec_machine.specs.MachineState.{MachineState, Exchange, exchange_of, after_exchange, start_of, output_of}
use Rattle.spec_machine.specs.Piece.{after_piece}
use Rattle.spec_machine.specs.Moves.{with_gone, state_after}
use Rattle.spec_machine.specs.Events.{moment_of_tick, connection_after_tick, connection_after_reload, after_reload, state_after_event}
use Rattle.spec_machine.specs.Offers.{left_after, not_taken, taken_of}
use Rattle.spec_machine.specs.Turns.{KeepsTurns}
use Rattle.spec_machine.specs.Delivery.{IsPrefix, Adds, AddsTo, PassesOn, is_cut_off, is_short}
use Rattle.spec_machine.specs.Output.{ServerOnlyAdds, ServerKeepsThere}
use Rattle.spec_machine.proofs.Find.{or_else, test_same, connection_of-append, connection_of-map}
use Rattle.spec_machine.proofs.Growth.{Grows, bytes_of_grown, StaysOrIsThere, after_piece-grows}
use Rattle.spec_machine.proofs.Growth.{connection_after_tick-grows, connection_after_reload-grows}
use Rattle.spec_machine.proofs.Growth.{after_piece-stays, after_tick-stays, after_reload-stays}
use Rattle.spec_machine.proofs.Changes.{KeepsNumber, exchange_own, exchange_other, exchange_none, with_gone-number}
use Rattle.spec_machine.proofs.Carried.{EventsCarry, event-carried}
use Rattle.spec_machine.proofs.Emptied.{not_taken_at, or_false}
use Rattle.spec_machine.proofs.TurnsKept.{offers_kept, takes_output}
use Rattle.spec_machine.proofs.AllTaken.{takes_all}

adds_none : {C : Type 0} (k : Connection C) → Adds k k
adds_none k = record { more = []; given = sym (append-nil (bytes_of_all k.produced)); bytes_taken = refl }

adds-grows : {C : Type 0} (k l m : Connection C) → Adds k l → Grows l m → Adds k m
adds-grows k l m a g = record {
  more = a.more ++ bytes_of_all g.more;
  given = bytes_of_grown l m g ∙ ap (λ (xs : List ℕ). xs ++ bytes_of_all g.more) a.given ∙ append_assoc (bytes_of_all k.produced) a.more (bytes_of_all g.more);
  bytes_taken = g.bytes_taken ∙ a.bytes_taken;
}

-- what is opened after this has taken nothing
none-carries : {W C : Type 0} (device : Device W C) → EventsCarry device (AddsTo {C = C} None)
none-carries device = record {
  fresh = λ n h. refl;
  piece = λ bytes x h. (after_piece-grows device bytes x).bytes_taken ∙ h;
  tick = λ moment world l h. (connection_after_tick-grows device moment world l).bytes_taken ∙ h;
  reload = λ moment old new l h. (connection_after_reload-grows device moment old new l).bytes_taken ∙ h;
  gone = λ x h. h;
}

-- what is there is given more
some-carries : {W C : Type 0} (device : Device W C) (k : Connection C) → EventsCarry device (AddsTo (Some k))
some-carries device k = record {
  fresh = λ n h. absurd h;
  piece = λ bytes x h. adds-grows k x.connection (after_piece device bytes x).connection h (after_piece-grows device bytes x);
  tick = λ moment world l h. adds-grows k l _ h (connection_after_tick-grows device moment world l);
  reload = λ moment old new l h. adds-grows k l _ h (connection_after_reload-grows device moment old new l);
  gone = λ x h. record { more = h.more; given = h.given; bytes_taken = h.bytes_taken };
}

pub server_only_adds : (W C : Type 0) → ServerOnlyAdds W C
server_only_adds W C device s e c = go (connection_of c s.connections) refl
  where
    go : (o : Option (Connection C)) → connection_of c s.connections ≡ o → AddsTo o (connection_of c (state_after_event device s e).connections)
    go None q = event-carried device (AddsTo None) (none-carries device) c e s (subst (AddsTo None) (sym q) tt)
    go (Some k) q = event-carried device (AddsTo (Some k)) (some-carries device k) c e s (subst (AddsTo (Some k)) (sym q) (adds_none k))

stays-passes : {C : Type 0} (k l : Connection C) → StaysOrIsThere k l → PassesOn (Some k) (Some l)
stays-passes {C} k l (inl e) = inl (ap (λ (x : Connection C). not_taken (Some x)) e)
stays-passes k l (inr g) = inr (l, refl, g)

local-passes : {W C : Type 0} (c n : ℕ) (f : Exchange W C → Exchange W C) → KeepsNumber f
    → ((x : Exchange W C) → StaysOrIsThere x.connection (f x).connection) → (s : MachineState W C)
    → PassesOn (connection_of c s.connections) (connection_of c (after_exchange (connection_of n s.connections) f s).connections)
local-passes {W} {C} c n f same stays s =
    elim (cases_eq n c) [
      | inr ne ↦ inl (ap not_taken (exchange_other c n f same ne s))
      | inl q ↦
          let P : ℕ → Type 0 = λ i. PassesOn (connection_of c s.connections)
          (connection_of c (after_exchange (connection_of i s.connections) f s).connections) in
          subst P (sym q) (own (connection_of c s.connections) refl)
    ]
  where
    own : (o : Option (Connection C)) → connection_of c s.connections ≡ o
        → PassesOn (connection_of c s.connections) (connection_of c (after_exchange (connection_of c s.connections) f s).connections)
    own None e = inl (ap (not_taken_at c) (exchange_none c f s e))
    own (Some k) e =
        let P : Option (Connection C) → Type 0 = λ o. PassesOn o (Some (f (exchange_of s k)).connection) in
        subst (PassesOn (connection_of c s.connections)) (sym (exchange_own c f same s k e))
        (subst P (sym e) (stays-passes k (f (exchange_of s k)).connection (stays (exchange_of s k))))

mapped-passes : {C : Type 0} (c : ℕ) (f : Connection C → Connection C) → ((k : Connection C) → (f k).number ≡ k.number)
    → ((k : Connection C) → StaysOrIsThere k (f k)) → (ks : List (Connection C)) → PassesOn (connection_of c ks) (connection_of c (map f ks))
mapped-passes {C} c f same stays ks = subst (PassesOn (connection_of c ks)) (sym (connection_of-map c f same ks)) (one (connection_of c ks))
  where
    one : (o : Option (Connection C)) → PassesOn o (option_map f o)
    one None = inl refl
    one (Some k) = stays-passes k (f k) (stays k)

opened-passes : {C : Type 0} (c n : ℕ) (client : C) (ks : List (Connection C))
    → PassesOn (connection_of c ks) (connection_of c (ks ++ fresh_connection client n ∷ []))
unfolding connection_of left_after
opened-passes {C} c n client ks =
    subst (PassesOn (connection_of c ks)) (sym (connection_of-append c ks (fresh_connection client n ∷ []))) (one (connection_of c ks))
  where
    one : (o : Option (Connection C)) → PassesOn o (or_else o (connection_of c (fresh_connection client n ∷ [])))
    one (Some k) = inl refl
    one None = elim (cases_Bool (n == c)) [ inl b ↦ rw b (inl refl) | inr b ↦ rw b (inl refl) ]

reload-passes : {W C : Type 0} (c : ℕ) (device : Device W C) (r : Reloading W) (s : MachineState W C)
    → PassesOn (connection_of c s.connections) (connection_of c (after_reload device r s).connections)
reload-passes c device (Refused fault) s = inl refl
reload-passes c device (Accepted version world) s =
    mapped-passes c (connection_after_reload device s.moment s.world world)
    (λ k. (connection_after_reload-grows device s.moment s.world world k).number) (after_reload-stays device s.moment s.world world) s.connections

event-passes : {W C : Type 0} (c : ℕ) (device : Device W C) (e : Event) (s : MachineState W C) → is_cut_off c (move.Event e ∷ []) ≡ false
    → PassesOn (connection_of c s.connections) (connection_of c (state_after_event device s e).connections)
unfolding state_after_event is_cut_off
event-passes c device (event.Opened n) s cut = opened-passes c n device.new_client s.connections
event-passes c device (event.Piece n bytes) s cut =
    local-passes c n (after_piece device bytes) (λ x. (after_piece-grows device bytes x).number) (after_piece-stays device bytes) s
event-passes c device (event.Closed n) s cut =
    let t = (or_false (n == c) false cut).0 in
    let ne : n ≢ c = λ e. false≢true (sym t ∙ test_same n c e) in
    inl (ap not_taken (exchange_other c n with_gone with_gone-number ne s))
event-passes c device (event.Tick now) s cut =
    let world = device.world_after_tick s.world in
    let moment = moment_of_tick now s in
    mapped-passes c (connection_after_tick device moment world)
    (λ k. (connection_after_tick-grows device moment world k).number) (after_tick-stays device moment world) s.connections
event-passes c device (event.Reload bytes) s cut = reload-passes c device (device.reload bytes s.world) s
event-passes c device (event.Writable n) s cut = inl refl

pub server_keeps_there : (W C : Type 0) → ServerKeepsThere W C
server_keeps_there W C device s e c cut = event-passes c device e s cut

-- what the laws of delivery say of the server
pub server_takes_output : {W C : Type 0} (device : Device W C) (world : W) (c : ℕ) (log : List Move)
    → KeepsTurns (state_after_event device) (start_of {C = C} world) log
    → IsPrefix (taken_of c log) (output_of c (state_after (state_after_event device) (start_of {C = C} world) log))
server_takes_output {W} {C} device world c log k =
    takes_output W C (state_after_event device) world c log (server_only_adds W C device) (offers_kept (state_after_event device) (start_of world) log k)

pub server_takes_all : {W C : Type 0} (device : Device W C) (world : W) (c : ℕ) (log : List Move)
    → KeepsTurns (state_after_event device) (start_of {C = C} world) log → is_short c log ≡ false → is_cut_off c log ≡ false
    → taken_of c log ≡ output_of c (state_after (state_after_event device) (start_of {C = C} world) log)
server_takes_all {W} {C} device world c log k =
    takes_all W C (state_after_event device) world c log (server_only_adds W C device) (server_keeps_there W C device) k
