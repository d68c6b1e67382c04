-- What is read of outlets that stand for the connections of a machine: offers, runs, who is to be shut, who is due.
use Rattle.std.proofs.Common.{◌≡◌, ◌⊎◌, ℕ, suc, List, [], ◌∷◌, ◌++◌, map, true, false, cond, not, refl, sym, ap, ◌∙◌, inl, inr}
use Rattle.std.specs.Prelude.{Bool, ◌||◌, ◌&&◌, filter, is_some, slice_get, Some, None, option_map}
use Rattle.std.proofs.lemmas.Bool.{cases_Bool, cond-true, cond-false}
use Rattle.std.proofs.lemmas.Option.{slice_get-map, slice_get_within}
use Rattle.spec_machine.specs.Connection.{Connection, bytes_of}
use Rattle.spec_machine.specs.MachineState.{MachineState, present_numbers}
use Rattle.spec_machine.specs.Offers.{is_among, waiting_of, waiting_at, left_after}
use Rattle.spec_machine.specs.Running.{Running, offer_at, is_to_be_shut, is_to_be_shut_at}
use Rattle.ads_served.specs.Due.{IsRun, is_due}
use Rattle.out_queue.specs.Queue.{front_of}
use Rattle.connections.specs.declared.outlet.Outlet.{Outlet}
use Rattle.connections.specs.Present.{present}
use Rattle.connections.specs.Outlets.{Outlets, numbers_of, numbers_due, is_due_outlet, is_closing, closing_among}
use Rattle.connections.specs.Outlets.{offer_of_outlet, offer_among, run_of_outlet, run_among}
use Rattle.connections.specs.Touched.{number_if_due}
use Rattle.connections.specs.Carries.{EachOutlet, Carries}
use Rattle.connections.proofs.DueLemmas.{due_cons}
use Rattle.connections.proofs.EntryLemmas.{entry_or_not}
use Rattle.connections.proofs.LentLemmas.{is_lent}
use Rattle.connections.proofs.OutletLemmas.{read_at, read_absent}
use Rattle.connections.proofs.CarryLemmas.{AtNumber, at_number, at_place, IsNotThere, absent_is}

-- nothing is offered where nothing waits
no_offer : (b : Bool) (frames : List (List ℕ)) → frames ≡ [] → cond b None (front_of frames) ≡ None
no_offer true frames e = refl
no_offer false frames e = ap front_of e

-- the numbers of those that are there
numbers_same : {C : Type 0} (es : Outlets) (ps : List (Connection C)) → EachOutlet es ps → numbers_of es ≡ map (λ (k : Connection C). k.number) ps
numbers_same {C} [] [] each = refl
numbers_same {C} [] (p ∷ ps) each = absurd each
numbers_same {C} (e ∷ es) [] each = absurd each
numbers_same {C} (e ∷ es) (p ∷ ps) each = ap (λ n. n ∷ numbers_of es) each.0.number ∙ ap (λ ns. p.number ∷ ns) (numbers_same es ps each.1)

-- the numbers of those that are due, where a test says who is
due_pass : (test : ℕ → Bool) (es : Outlets) → ((i : ℕ) (e : ℕ × Outlet) → slice_get es i ≡ Some e → test e.0 ≡ is_due_outlet e.1)
    → numbers_due es ≡ filter test (numbers_of es)
due_pass test [] same = refl
due_pass test (e ∷ es) same =
    due_cons e es ∙ ap (λ ns. number_if_due (Some e) ++ ns) (due_pass test es (λ i f there. same (suc i) f there)) ∙ by (same 0 e refl) (cases_Bool (test e.0))
  where
    rest : List ℕ
    rest = filter test (numbers_of es)

    by : test e.0 ≡ is_due_outlet e.1 → (test e.0 ≡ true) ⊎ (test e.0 ≡ false) → number_if_due (Some e) ++ rest ≡ filter test (numbers_of (e ∷ es))
    by q (inl t) = ap (λ ns. ns ++ rest) (cond-true (is_due_outlet e.1) (e.0 ∷ []) [] (sym q ∙ t)) ∙ sym (cond-true (test e.0) (e.0 ∷ rest) rest t)
    by q (inr t) = ap (λ ns. ns ++ rest) (cond-false (is_due_outlet e.1) (e.0 ∷ []) [] (sym q ∙ t)) ∙ sym (cond-false (test e.0) (e.0 ∷ rest) rest t)

module _ {W C : Type 0} where
  -- what waits for a connection that is there
  waits : (es : Outlets) (x : Running W C) (n i : ℕ) → (at : AtNumber es x.blocked x.state.connections n i) → waiting_at n x.state ≡ (let o = at.o in o.out)
  waits es x n i at =
      let k = at.k in
      let s = at.stands in
      ap waiting_of at.found ∙ cond-false k.gone [] (left_after k.bytes_taken (map bytes_of k.produced)) at.there ∙ sym s.waiting

  offer_there : (es : Outlets) (x : Running W C) (n i : ℕ) → (at : AtNumber es x.blocked x.state.connections n i) → offer_of_outlet at.o ≡ offer_at n x
  offer_there es x n i at =
      let o = at.o in
      ap (λ b. cond b None (front_of o.out)) at.mark ∙ ap (λ fs. cond (is_among n x.blocked) None (front_of fs)) (sym (waits es x n i at))

  shut_there : (es : Outlets) (x : Running W C) (n i : ℕ) → (at : AtNumber es x.blocked x.state.connections n i)
      → (let o = at.o in o.closing) ≡ is_to_be_shut_at n x
  shut_there es x n i at =
      let k = at.k in
      let s = at.stands in
      s.closing ∙ sym (ap is_to_be_shut at.found ∙ ap (λ b. not b && k.closing) at.there)

  nothing_waits : (n : ℕ) (x : Running W C) → IsNotThere n x.state.connections → waiting_at n x.state ≡ []
  nothing_waits n x (inl none) = ap waiting_of none
  nothing_waits n x (inr one) =
      let k = one.k in
      ap waiting_of one.found ∙ cond-true k.gone [] (left_after k.bytes_taken (map bytes_of k.produced)) one.gone

  not_shut : (n : ℕ) (x : Running W C) → IsNotThere n x.state.connections → is_to_be_shut_at n x ≡ false
  not_shut n x (inl none) = ap is_to_be_shut none
  not_shut n x (inr one) = let k = one.k in ap is_to_be_shut one.found ∙ ap (λ b. not b && k.closing) one.gone

  -- what is offered is what the machine offers
  pub offer_is : (es : Outlets) (x : Running W C) (n : ℕ) → Carries es x.blocked x.state.connections → offer_among es n ≡ offer_at n x
  offer_is es x n c = elim (entry_or_not es n) [
    | inl e ↦
        let at = at_number es x.blocked x.state.connections n e.i c e.place in
        read_at offer_of_outlet None es n e.i at.o e.place at.outlet ∙ offer_there es x n e.i at
    | inr none ↦ read_absent offer_of_outlet None es n none
        ∙ sym (no_offer (is_among n x.blocked) (waiting_at n x.state) (nothing_waits n x (absent_is es x.blocked x.state.connections n c none)))
  ]

  -- the frames that are lent are those that wait
  pub run_is : (es : Outlets) (x : Running W C) (n : ℕ) (frames : List (List ℕ)) → Carries es x.blocked x.state.connections
      → run_among es n ≡ Some frames → IsRun n x frames
  run_is es x n frames c some = elim (entry_or_not es n) [
    | inl e ↦
        let at = at_number es x.blocked x.state.connections n e.i c e.place in
        let o = at.o in
        let lent = is_lent o.blocked o.out frames (sym (read_at run_of_outlet None es n e.i o e.place at.outlet) ∙ some) in
        record { free = sym at.mark ∙ lent.free; waits = waits es x n e.i at ∙ lent.out }
    | inr none ↦ absurd (let both = sym (read_absent run_of_outlet None es n none) ∙ some in cc)
  ]

  -- who is to be shut
  pub shut_is : (es : Outlets) (x : Running W C) (n : ℕ) → Carries es x.blocked x.state.connections → closing_among es n ≡ is_to_be_shut_at n x
  shut_is es x n c = elim (entry_or_not es n) [
    | inl e ↦
        let at = at_number es x.blocked x.state.connections n e.i c e.place in
        read_at is_closing false es n e.i at.o e.place at.outlet ∙ shut_there es x n e.i at
    | inr none ↦ read_absent is_closing false es n none ∙ sym (not_shut n x (absent_is es x.blocked x.state.connections n c none))
  ]

  pub numbers_are : (es : Outlets) (blocked : List ℕ) (s : MachineState W C) → Carries es blocked s.connections → numbers_of es ≡ present_numbers s
  numbers_are es blocked s c = numbers_same es (present s.connections) c.each

  pub number_is : (es : Outlets) (blocked : List ℕ) (s : MachineState W C) (i : ℕ) → Carries es blocked s.connections
      → option_map (λ (e : ℕ × Outlet). e.0) (slice_get es i) ≡ slice_get (present_numbers s) i
  number_is es blocked s i c = sym (slice_get-map (λ (e : ℕ × Outlet). e.0) es i) ∙ ap (λ ns. slice_get ns i) (numbers_are es blocked s c)

  -- those that are due are due in the machine
  due_there : (es : Outlets) (x : Running W C) (i : ℕ) (e : ℕ × Outlet) → slice_get es i ≡ Some e → AtNumber es x.blocked x.state.connections e.0 i
      → is_due x e.0 ≡ is_due_outlet e.1
  due_there es x i e there at = by at.o (offer_there es x e.0 i at) (shut_there es x e.0 i at) (let both = sym at.entry ∙ there in cc)
    where
      by : (o : Outlet) → offer_of_outlet o ≡ offer_at e.0 x → o.closing ≡ is_to_be_shut_at e.0 x → (e.0, o) ≡ e → is_due x e.0 ≡ is_due_outlet e.1
      by o offer shut own =
          sym (ap (λ b. is_some (offer_at e.0 x) || b) shut) ∙ sym (ap (λ p. is_some p || o.closing) offer)
          ∙ ap (λ (f : ℕ × Outlet). is_due_outlet f.1) own

  due_is : (es : Outlets) (x : Running W C) (i : ℕ) (e : ℕ × Outlet) → Carries es x.blocked x.state.connections → slice_get es i ≡ Some e
      → is_due x e.0 ≡ is_due_outlet e.1
  due_is es x i e c there =
      due_there es x i e there (at_place es x.blocked x.state.connections e.0 i c (slice_get_within es i e there) same)
    where
      same : (f : ℕ × Outlet) → slice_get es i ≡ Some f → f.0 ≡ e.0
      same f also = let one : f ≡ e = (let both = sym also ∙ there in cc) in ap (λ (g : ℕ × Outlet). g.0) one

  pub due_are : (es : Outlets) (x : Running W C) → Carries es x.blocked x.state.connections → numbers_due es ≡ filter (is_due x) (present_numbers x.state)
  due_are es x c = due_pass (is_due x) es (λ i e there. due_is es x i e c there) ∙ ap (filter (is_due x)) (numbers_are es x.blocked x.state c)
