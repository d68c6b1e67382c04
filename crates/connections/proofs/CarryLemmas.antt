-- Outlets that stand for the connections of a machine: one changes, goes or comes.
use Rattle.std.proofs.Common.{◌≡◌, ◌≢◌, ◌⊎◌, ℕ, zero, suc, ◌<◌, List, [], ◌∷◌, ◌++◌, length, map, set, get_or, true, false}
use Rattle.std.proofs.Common.{refl, sym, ap, ◌∙◌, subst, inl, inr, arith}
use Rattle.std.specs.Prelude.{remove, slice_get, Option, Some, None}
use Rattle.std.specs.Map.{keys_of}
use Rattle.std.proofs.lemmas.Bool.{cases_Bool, cases_eq}
use Rattle.std.proofs.lemmas.Option.{slice_get_within}
use Rattle.spec_machine.specs.Connection.{Connection, connection_of, put_back, fresh_connection, bytes_of, bytes_of_all}
use Rattle.spec_machine.specs.MachineState.{MachineState, Exchange, after_exchange}
use Rattle.spec_machine.specs.Offers.{is_among, left_after}
use Rattle.spec_machine.proofs.Find.{number_of_found}
use Rattle.connections.specs.declared.outlet.Outlet.{Outlet}
use Rattle.connections.specs.Present.{present}
use Rattle.connections.specs.Entries.{IsEntry, IsNoEntry}
use Rattle.connections.specs.Outlets.{Outlets, outlet_at, fresh_outlet, change_at, without_number}
use Rattle.connections.specs.Carries.{IsOutlet, IsEntryOf, EachOutlet, EachMarked, Carries}
use Rattle.connections.proofs.EntryLemmas.{no_first, none_behind_first, entry_or_not}
use Rattle.connections.proofs.OutletLemmas.{without_at}
use Rattle.connections.proofs.ColumnLemmas.{BothAt, each_at, each_removed, each_added}
use Rattle.connections.proofs.PlaceLemmas.{stands_at, others_differ}
use Rattle.connections.proofs.StateLemmas.{present-gone, present-there, present-append, connection_of-same, connection_of-other, put_back-same, put_back-other}
use Rattle.connections.proofs.StateLemmas.{none_of_nil, was_none, was_none_append, AreApart-put_back, AreApart-append}

-- a change of the blocked connections that concerns one number alone
abbrev pub Concerns : ℕ → List ℕ → List ℕ → Type 0
Concerns n old new = (m : ℕ) → m ≢ n → is_among m new ≡ is_among m old

-- the connection of a number, in the machine and in what is kept of it, at one place
pub record AtNumber {C : Type 0} (es : Outlets) (blocked : List ℕ) (ks : List (Connection C)) (n i : ℕ) : Type 0 where
  pub k : Connection C
  pub o : Outlet
  pub number : k.number ≡ n
  pub found : connection_of n ks ≡ Some k
  pub there : k.gone ≡ false
  pub machine : slice_get (present ks) i ≡ Some k
  pub outlet : outlet_at es i ≡ Some o
  pub entry : slice_get es i ≡ Some (n, o)
  pub stands : IsOutlet o k
  pub mark : o.blocked ≡ is_among n blocked
  -- a connection in its place, and none
  pub put : (l : Connection C) → l.number ≡ n → l.gone ≡ false → present (put_back l ks) ≡ set (present ks) i l
  pub ended : (l : Connection C) → l.number ≡ n → l.gone ≡ true → present (put_back l ks) ≡ remove (present ks) i
  pub others : (j : ℕ) (e : ℕ × Outlet) → j ≢ i → slice_get es j ≡ Some e → e.0 ≢ n

entry_number : (es : Outlets) (n i : ℕ) (e : ℕ × Outlet) → IsEntry es n i → slice_get es i ≡ Some e → e.0 ≡ n
entry_number es n i e at there = by es i e there ∙ at.number 0
  where
    by : (fs : Outlets) (j : ℕ) (f : ℕ × Outlet) → slice_get fs j ≡ Some f → f.0 ≡ get_or (keys_of fs) j 0
    by [] j f t = absurd (let none : ◌≡◌ {A = Option (ℕ × Outlet)} None (Some f) = t in cc)
    by (g ∷ fs) zero f t = let same : g ≡ f = cc in ap (λ (h : ℕ × Outlet). h.0) (sym same)
    by (g ∷ fs) (suc j) f t = by fs j f t

outlet_there : (es : Outlets) (i : ℕ) (e : ℕ × Outlet) → slice_get es i ≡ Some e → outlet_at es i ≡ Some e.1
outlet_there [] i e t = absurd (let none : ◌≡◌ {A = Option (ℕ × Outlet)} None (Some e) = t in cc)
outlet_there (g ∷ fs) zero e t = let same : g ≡ e = cc in ap (λ (h : ℕ × Outlet). Some h.1) same
outlet_there (g ∷ fs) (suc i) e t = outlet_there fs i e t

pub mark_at : (blocked : List ℕ) (es : Outlets) (i : ℕ) (e : ℕ × Outlet) → EachMarked blocked es → slice_get es i ≡ Some e
    → (let o = e.1 in o.blocked ≡ is_among e.0 blocked)
mark_at blocked [] i e marks t = absurd (let none : ◌≡◌ {A = Option (ℕ × Outlet)} None (Some e) = t in cc)
mark_at blocked (g ∷ fs) zero e marks t = let same : g ≡ e = cc in subst (λ (h : ℕ × Outlet). (let o = h.1 in o.blocked ≡ is_among h.0 blocked)) same marks.0
mark_at blocked (g ∷ fs) (suc i) e marks t = mark_at blocked fs i e marks.1 t

-- the marks, where an outlet changes, goes or comes
marked_changed : (change : Outlet → Outlet) (old new : List ℕ) (n : ℕ) (es : Outlets) (i : ℕ) → Concerns n old new
    → ((j : ℕ) (e : ℕ × Outlet) → j ≢ i → slice_get es j ≡ Some e → e.0 ≢ n)
    → ((e : ℕ × Outlet) → slice_get es i ≡ Some e → (let o = change e.1 in o.blocked ≡ is_among e.0 new))
    → EachMarked old es → EachMarked new (change_at change i es)
marked_changed change old new n [] i concerns others own marks = tt
marked_changed change old new n (f ∷ es) zero concerns others own marks =
    (own f refl, behind es (λ j e t. others (suc j) e (λ same. omega (arith, same)) t) marks.1)
  where
    behind : (gs : Outlets) → ((j : ℕ) (e : ℕ × Outlet) → slice_get gs j ≡ Some e → e.0 ≢ n) → EachMarked old gs → EachMarked new gs
    behind [] other all = tt
    behind (g ∷ gs) other all = (all.0 ∙ sym (concerns g.0 (other 0 g refl)), behind gs (λ j e t. other (suc j) e t) all.1)
marked_changed change old new n (f ∷ es) (suc i) concerns others own marks = (
  marks.0 ∙ sym (concerns f.0 (others 0 f (λ same. omega (arith, same)) refl)),
  marked_changed change old new n es i concerns (λ j e other t. others (suc j) e (λ same. other (omega (arith, same))) t) own marks.1,
)

marked_removed : (blocked : List ℕ) (es : Outlets) (i : ℕ) → EachMarked blocked es → EachMarked blocked (remove es i)
marked_removed blocked [] zero all = all
marked_removed blocked [] (suc i) all = all
marked_removed blocked (e ∷ es) zero all = all.1
marked_removed blocked (e ∷ es) (suc i) all = (all.0, marked_removed blocked es i all.1)

marked_added : (blocked : List ℕ) (es : Outlets) (n : ℕ) → EachMarked blocked es → is_among n blocked ≡ false
    → EachMarked blocked (es ++ (n, fresh_outlet) ∷ [])
marked_added blocked [] n all free = (sym free, tt)
marked_added blocked (e ∷ es) n all free = (all.0, marked_added blocked es n all.1 free)

module _ {C : Type 0} where
  pub at_place : (es : Outlets) (blocked : List ℕ) (ks : List (Connection C)) (n i : ℕ)
      → Carries es blocked ks → i < length es → ((e : ℕ × Outlet) → slice_get es i ≡ Some e → e.0 ≡ n) → AtNumber es blocked ks n i
  at_place es blocked ks n i c below numbered = by (each_at IsEntryOf es (present ks) i c.each below)
    where
      by : BothAt IsEntryOf es (present ks) i → AtNumber es blocked ks n i
      by both =
          let e = both.x in
          let k = both.k in
          let here = stands_at ks i k c.apart both.machine in
          let own : e.0 ≡ n = numbered e both.column in
          let number : k.number ≡ n = sym both.stands.number ∙ own in
          record {
            k = k;
            o = e.1;
            number = number;
            found = sym (ap (λ m. connection_of m ks) number) ∙ here.found;
            there = here.there;
            machine = both.machine;
            outlet = outlet_there es i e both.column;
            entry = both.column ∙ ap (λ m. Some (m, e.1)) own;
            stands = both.stands.outlet;
            mark = mark_at blocked es i e c.marked both.column ∙ ap (λ m. is_among m blocked) own;
            put = λ l same there. here.put l (same ∙ sym number) there;
            ended = λ l same ends. here.ended l (same ∙ sym number) ends;
            others = λ j f other there same.
                let also = each_at IsEntryOf es (present ks) j c.each (slice_get_within es j f there) in
                let f_is : also.x ≡ f = (let both_there = sym also.column ∙ there in cc) in
                other (others_differ ks i j k also.k c.apart both.machine also.machine
                (sym also.stands.number ∙ ap (λ (g : ℕ × Outlet). g.0) f_is ∙ same ∙ sym number));
          }

  pub at_number : (es : Outlets) (blocked : List ℕ) (ks : List (Connection C)) (n i : ℕ)
      → Carries es blocked ks → IsEntry es n i → AtNumber es blocked ks n i
  at_number es blocked ks n i c at = at_place es blocked ks n i c at.within (λ e there. entry_number es n i e at there)

  -- a number that is not kept is that of none, or of one that is gone
  pub record IsGone (n : ℕ) (ks : List (Connection C)) : Type 0 where
    pub k : Connection C
    pub found : connection_of n ks ≡ Some k
    pub gone : k.gone ≡ true

  abbrev pub IsNotThere : ℕ → List (Connection C) → Type 0
  IsNotThere n ks = (connection_of n ks ≡ None) ⊎ IsGone n ks

  shifted : (n : ℕ) (k : Connection C) (ks : List (Connection C)) → k.number ≢ n → IsNotThere n ks → IsNotThere n (k ∷ ks)
  shifted n k ks other (inl none) = inl (connection_of-other n k ks other ∙ none)
  shifted n k ks other (inr one) = inr (record { k = one.k; found = connection_of-other n k ks other ∙ one.found; gone = one.gone })

  absent_first : (n : ℕ) (k : Connection C) (ks : List (Connection C)) → ((fs : Outlets) → EachOutlet fs (present ks) → IsNoEntry fs n → IsNotThere n ks)
      → (es : Outlets) → EachOutlet es (k ∷ present ks) → IsNoEntry es n → IsNotThere n (k ∷ ks)
  absent_first n k ks rest [] each none = absurd each
  absent_first n k ks rest (e ∷ es) each none =
      shifted n k ks (λ same. no_first e es n none (each.0.number ∙ same)) (rest es each.1 (none_behind_first e es n none))

  absent_from : (n : ℕ) (ks : List (Connection C)) (es : Outlets) → EachOutlet es (present ks) → IsNoEntry es n → IsNotThere n ks
  absent_from n [] es each none = inl (none_of_nil n)
  absent_from n (k ∷ ks) es each none = elim (cases_Bool k.gone) [
    | inl gone ↦ elim (cases_eq k.number n) [
      | inl same ↦ inr (record { k = k; found = connection_of-same n k ks same; gone = gone })
      | inr other ↦ shifted n k ks other (absent_from n ks es (subst (λ ps. EachOutlet es ps) (present-gone k ks gone) each) none)
    ]
    | inr there ↦ absent_first n k ks (absent_from n ks) es (subst (λ ps. EachOutlet es ps) (present-there k ks there) each) none
  ]

  pub absent_is : (es : Outlets) (blocked : List ℕ) (ks : List (Connection C)) (n : ℕ) → Carries es blocked ks → IsNoEntry es n → IsNotThere n ks
  absent_is es blocked ks n c none = absent_from n ks es c.each none

  -- the outlet at a place changes with its connection
  each_changed : (change : Outlet → Outlet) (es : Outlets) (ps : List (Connection C)) (i : ℕ) (e : ℕ × Outlet) (l : Connection C)
      → EachOutlet es ps → slice_get es i ≡ Some e → IsEntryOf (e.0, change e.1) l → EachOutlet (change_at change i es) (set ps i l)
  each_changed change [] ps i e l each there now = absurd (let none : ◌≡◌ {A = Option (ℕ × Outlet)} None (Some e) = there in cc)
  each_changed change (f ∷ es) [] i e l each there now = absurd each
  each_changed change (f ∷ es) (p ∷ ps) zero e l each there now =
      let same : f ≡ e = cc in
      (subst (λ (g : ℕ × Outlet). IsEntryOf (g.0, change g.1) l) (sym same) now, each.1)
  each_changed change (f ∷ es) (p ∷ ps) (suc i) e l each there now = (each.0, each_changed change es ps i e l each.1 there now)

  known_put : (es : Outlets) (old new : List ℕ) (ks : List (Connection C)) (n : ℕ) (k l : Connection C) → Carries es old ks → connection_of n ks ≡ Some k
      → Concerns n old new → (m : ℕ) → connection_of m (put_back l ks) ≡ None → is_among m new ≡ false
  known_put es old new ks n k l c found concerns m none =
      let was = was_none m l ks none in
      concerns m (λ same. let both = sym (ap (λ q. connection_of q ks) same) ∙ was in let no = sym both ∙ found in cc) ∙ c.known m was

  -- one connection changes, and its outlet with it
  pub changed_by : (change : Outlet → Outlet) (es : Outlets) (old new : List ℕ) (ks : List (Connection C)) (n i : ℕ) (l : Connection C)
      → Carries es old ks → (at : AtNumber es old ks n i) → IsOutlet (change at.o) l → l.number ≡ n → l.gone ≡ false
      → Concerns n old new → (let o = change at.o in o.blocked ≡ is_among n new) → Carries (change_at change i es) new (put_back l ks)
  changed_by change es old new ks n i l c at stands number there concerns mark = record {
    each = subst (λ ps. EachOutlet (change_at change i es) ps) (sym (at.put l number there))
        (each_changed change es (present ks) i (n, at.o) l c.each at.entry (record { number = sym number; outlet = stands }));
    apart = AreApart-put_back l ks c.apart;
    marked = marked_changed change old new n es i concerns at.others own c.marked;
    known = known_put es old new ks n at.k l c at.found concerns;
  }
    where
      own : (e : ℕ × Outlet) → slice_get es i ≡ Some e → (let o = change e.1 in o.blocked ≡ is_among e.0 new)
      own e t =
          let same : (n, at.o) ≡ e = (let both = sym at.entry ∙ t in cc) in
          subst (λ (g : ℕ × Outlet). (let o = change g.1 in o.blocked ≡ is_among g.0 new)) same mark

  -- one connection changes, and what waits for it does not
  pub quiet : (es : Outlets) (blocked : List ℕ) (ks : List (Connection C)) (n i : ℕ) (l : Connection C)
      → Carries es blocked ks → (at : AtNumber es blocked ks n i) → IsOutlet at.o l → l.number ≡ n → l.gone ≡ false → Carries es blocked (put_back l ks)
  quiet es blocked ks n i l c at stands number there =
      subst (λ (fs : Outlets). Carries fs blocked (put_back l ks)) (same es i)
      (changed_by (λ o. o) es blocked blocked ks n i l c at stands number there (λ m other. refl) at.mark)
    where
      same : (fs : Outlets) (j : ℕ) → change_at (λ o. o) j fs ≡ fs
      same [] j = refl
      same (f ∷ fs) zero = refl
      same (f ∷ fs) (suc j) = ap (λ gs. f ∷ gs) (same fs j)

  -- a change of a connection that leaves what is seen of its output
  pub record KeepsOutput (f : Connection C → Connection C) : Type 0 where
    pub number : (k : Connection C) → (let l = f k in l.number) ≡ k.number
    pub gone : (k : Connection C) → (let l = f k in l.gone) ≡ k.gone
    pub produced : (k : Connection C) → (let l = f k in l.produced) ≡ k.produced
    pub bytes_taken : (k : Connection C) → (let l = f k in l.bytes_taken) ≡ k.bytes_taken
    pub closing : (k : Connection C) → (let l = f k in l.closing) ≡ k.closing

  pub kept_stands : (f : Connection C → Connection C) → KeepsOutput f → (o : Outlet) (k : Connection C) → IsOutlet o k → IsOutlet o (f k)
  kept_stands f keeps o k s = record {
    waiting = s.waiting ∙ sym (ap (λ m. left_after m (map bytes_of (let l = f k in l.produced))) (keeps.bytes_taken k)
        ∙ ap (λ ps. left_after k.bytes_taken (map bytes_of ps)) (keeps.produced k));
    bytes_taken = omega (arith, s.bytes_taken, keeps.bytes_taken k, ap (λ ps. length (bytes_of_all ps)) (keeps.produced k));
    closing = s.closing ∙ sym (keeps.closing k);
  }

  same_behind : (j : Connection C) (ks ls : List (Connection C)) → present ks ≡ present ls → present (j ∷ ks) ≡ present (j ∷ ls)
  same_behind j ks ls same = elim (cases_Bool j.gone) [
    | inl gone ↦ present-gone j ks gone ∙ same ∙ sym (present-gone j ls gone)
    | inr there ↦ present-there j ks there ∙ ap (λ ps. j ∷ ps) same ∙ sym (present-there j ls there)
  ]

  still_gone : (n : ℕ) (k l : Connection C) (ks : List (Connection C)) → connection_of n ks ≡ Some k → k.gone ≡ true → l.number ≡ n → l.gone ≡ true
      → present (put_back l ks) ≡ present ks
  still_gone n k l [] found gone number ends = absurd (let none = sym (none_of_nil {C = C} n) ∙ found in cc)
  still_gone n k l (j ∷ ks) found gone number ends = elim (cases_eq j.number n) [
    | inl same ↦
        let first : j ≡ k = (let both = sym (connection_of-same n j ks same) ∙ found in cc) in
        ap present (put_back-same l j ks (same ∙ sym number)) ∙ present-gone l ks ends
        ∙ sym (present-gone j ks (ap (λ (x : Connection C). x.gone) first ∙ gone))
    | inr other ↦
        ap present (put_back-other l j ks (λ e. other (e ∙ number)))
        ∙ same_behind j (put_back l ks) ks (still_gone n k l ks (sym (connection_of-other n j ks other) ∙ found) gone number ends)
  ]

  quiet_gone : (es : Outlets) (blocked : List ℕ) (ks : List (Connection C)) (n : ℕ) (k l : Connection C)
      → Carries es blocked ks → connection_of n ks ≡ Some k → k.gone ≡ true → l.number ≡ n → l.gone ≡ true → Carries es blocked (put_back l ks)
  quiet_gone es blocked ks n k l c found gone number ends = record {
    each = subst (λ ps. EachOutlet es ps) (sym (still_gone n k l ks found gone number ends)) c.each;
    apart = AreApart-put_back l ks c.apart;
    marked = c.marked;
    known = λ m none. c.known m (was_none m l ks none);
  }

  -- the same by the number, whether it is there or not
  pub quiet_of : {W : Type 0} (f : Connection C → Connection C) → KeepsOutput f → (es : Outlets) (blocked : List ℕ) (s : MachineState W C) (n : ℕ)
      → Carries es blocked s.connections
      → (let t = after_exchange (connection_of n s.connections) (λ x. record x { connection = f x.connection }) s in Carries es blocked t.connections)
  quiet_of {W} f keeps es blocked s n c = elim (entry_or_not es n) [
    | inl e ↦
        let at = at_number es blocked s.connections n e.i c e.place in
        moved at.k at.found (quiet es blocked s.connections n e.i (f at.k) c at
        (kept_stands f keeps at.o at.k at.stands) (keeps.number at.k ∙ at.number) (keeps.gone at.k ∙ at.there))
    | inr none ↦ by (absent_is es blocked s.connections n c none)
  ]
    where
      change : Exchange W C → Exchange W C
      change x = record x { connection = f x.connection }

      moved : (k : Connection C) → connection_of n s.connections ≡ Some k → Carries es blocked (put_back (f k) s.connections)
          → (let t = after_exchange (connection_of n s.connections) change s in Carries es blocked t.connections)
      moved k found after =
          subst (λ (o : Option (Connection C)). (let t = after_exchange o change s in Carries es blocked t.connections)) (sym found) after

      by : IsNotThere n s.connections → (let t = after_exchange (connection_of n s.connections) change s in Carries es blocked t.connections)
      by (inl none) = subst (λ (o : Option (Connection C)). (let t = after_exchange o change s in Carries es blocked t.connections)) (sym none) c
      by (inr one) =
          let number = number_of_found n one.k s.connections one.found in
          moved one.k one.found (quiet_gone es blocked s.connections n one.k (f one.k) c one.found one.gone
          (keeps.number one.k ∙ number) (keeps.gone one.k ∙ one.gone))

  -- one connection goes
  pub ended : (es : Outlets) (blocked : List ℕ) (ks : List (Connection C)) (n i : ℕ) (l : Connection C)
      → Carries es blocked ks → AtNumber es blocked ks n i → IsEntry es n i → l.number ≡ n → l.gone ≡ true
      → Carries (without_number n es) blocked (put_back l ks)
  ended es blocked ks n i l c at place number gone =
      subst (λ (fs : Outlets). Carries fs blocked (put_back l ks)) (sym (without_at es n i place)) (record {
        each = subst (λ ps. EachOutlet (remove es i) ps) (sym (at.ended l number gone)) (each_removed IsEntryOf es (present ks) i c.each);
        apart = AreApart-put_back l ks c.apart;
        marked = marked_removed blocked es i c.marked;
        known = λ m none. c.known m (was_none m l ks none);
      })

  -- one connection comes
  fresh_is : (client : C) (n : ℕ) → IsOutlet fresh_outlet (fresh_connection client n)
  unfolding left_after
  fresh_is client n = record { waiting = refl; bytes_taken = omega arith; closing = refl }

  pub present_opened : (client : C) (ks : List (Connection C)) (n : ℕ)
      → present (ks ++ fresh_connection client n ∷ []) ≡ present ks ++ fresh_connection client n ∷ []
  present_opened client ks n =
      let k = fresh_connection client n in
      present-append ks (k ∷ []) ∙ ap (λ ps. present ks ++ ps) (present-there k [] refl)

  pub opened : (client : C) (es : Outlets) (blocked : List ℕ) (ks : List (Connection C)) (n : ℕ)
      → Carries es blocked ks → connection_of n ks ≡ None
      → Carries (es ++ (n, fresh_outlet) ∷ []) blocked (ks ++ fresh_connection client n ∷ [])
  opened client es blocked ks n c new = record {
    each = subst (λ ps. EachOutlet (es ++ (n, fresh_outlet) ∷ []) ps) (sym (present_opened client ks n))
        (each_added IsEntryOf es (present ks) (n, fresh_outlet) (fresh_connection client n) c.each (record { number = refl; outlet = fresh_is client n }));
    apart = AreApart-append (fresh_connection client n) ks new c.apart;
    marked = marked_added blocked es n c.marked (c.known n new);
    known = λ m none. c.known m (was_none_append m ks (fresh_connection client n ∷ []) none);
  }
