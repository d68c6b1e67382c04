-- The requests that wait, as connections end and as requests are dropped.
use Rattle.std.proofs.Common.{◌≡◌, ◌≢◌, ℕ, List, Bool, true, false, refl, sym, ap, ◌∙◌, subst, inl, inr}
use Rattle.std.specs.Prelude.{filter, ◌&&◌, not, ◌||◌, Option, Some, None, option_map}
use Rattle.std.proofs.lemmas.Bool.{cases_Bool, cases_eq, true≢false, eqb-true}
use Rattle.spec_machine.specs.Connection.{connection_of}
use Rattle.spec_relay.specs.RelayState.{Request, RelayConnection, RelayState, is_heard, is_heard_among}
use Rattle.spec_relay.specs.Requests.{is_asked_by}
use Rattle.spec_relay.specs.Routing.{at_connection}
use Rattle.spec_relay.proofs.ChangeLemmas.{changed-own, changed-other}
use Rattle.ams_relay.proofs.ListLemmas.{filter-finer, filter-both}
use Rattle.ams_relay.proofs.OwnerLemmas.{heard_same}
use Rattle.ams_relay.proofs.StateLemmas.{Stays}

-- which connections are heard
abbrev pub Hearing : Type 0
Hearing = ℕ → Bool

abbrev pub hearing : List RelayConnection → Hearing
hearing ks = λ c. is_heard_among c ks

abbrev pub is_asked_in : Hearing → Request → Bool
is_asked_in H r = H r.asked

abbrev pub is_heard_in : Hearing → Request → Bool
is_heard_in H r = H r.asker && H r.asked

-- the requests of one asker among those that a list and the machine have, of whom the asked are heard
abbrev pub AreSame : Hearing → ℕ → List Request → List Request → Type 0
AreSame H n own all = filter (is_asked_in H) own ≡ filter (is_asked_by n) (filter (is_heard_in H) all)

asker_is : (n : ℕ) (r : Request) → is_asked_by n r ≡ true → r.asker ≡ n
asker_is n r e = eqb-true r.asker n e

-- fewer are heard, and the asker still is
pub same_narrower : (H I : Hearing) (n : ℕ) (own all : List Request)
    → ((c : ℕ) → I c ≡ true → H c ≡ true) → I n ≡ true → AreSame H n own all → AreSame I n own all
same_narrower H I n own all narrower still same =
    sym (filter-finer (is_asked_in I) (is_asked_in H) own (λ r among yes. narrower r.asked yes))
    ∙ ap (filter (is_asked_in I)) same
    ∙ machine all
  where
    test : (r : Request) → ((is_asked_in I r && is_asked_by n r) && is_heard_in H r) ≡ (is_asked_by n r && is_heard_in I r)
    test r = elim (cases_Bool (is_asked_by n r)) [
      | inr t ↦ elim (cases_Bool (I r.asked)) [ inl u ↦ rw (t, u) refl | inr u ↦ rw (t, u) refl ]
      | inl t ↦
          let mine = asker_is n r t in
          let heard_i : I r.asker ≡ true = ap I mine ∙ still in
          let heard_h : H r.asker ≡ true = narrower r.asker heard_i in
          elim (cases_Bool (I r.asked)) [
            | inl u ↦ let v = narrower r.asked u in rw (t, u, v, heard_i, heard_h) refl
            | inr u ↦ rw (t, u, heard_i) refl
          ]
    ]

    -- of those of the asker that were heard, the ones whose asked still are
    machine : (rs : List Request)
        → filter (is_asked_in I) (filter (is_asked_by n) (filter (is_heard_in H) rs)) ≡ filter (is_asked_by n) (filter (is_heard_in I) rs)
    machine rs =
        filter-both (is_asked_in I) (is_asked_by n) (filter (is_heard_in H) rs)
        ∙ filter-both (λ r. is_asked_in I r && is_asked_by n r) (is_heard_in H) rs
        ∙ (λ i. filter (λ r. test r i) rs)
        ∙ sym (filter-both (is_asked_by n) (is_heard_in I) rs)

-- as many are heard
pub same_heard : (H I : Hearing) (n : ℕ) (own all : List Request) → ((c : ℕ) → I c ≡ H c) → AreSame H n own all → AreSame I n own all
same_heard H I n own all e same = subst (λ (J : Hearing). AreSame J n own all) (λ i c. sym (e c) i) same

-- those that are not heard are dropped
pub same_dropped : (H : Hearing) (n : ℕ) (own all : List Request) → AreSame H n own all → AreSame H n own (filter (is_heard_in H) all)
same_dropped H n own all same = same ∙ ap (filter (is_asked_by n)) (sym (filter-finer (is_heard_in H) (is_heard_in H) all (λ r among yes. yes)))

-- who is heard after a change of one connection
pub heard_other : (n c : ℕ) (f : RelayConnection → RelayConnection) → Stays f → n ≢ c → (s : RelayState)
    → is_heard_among c (at_connection n f s).connections ≡ is_heard_among c s.connections
heard_other n c f stays ne s = ap found_heard (changed-other n c f stays.number ne s)
  where
    found_heard : Option RelayConnection → Bool
    found_heard None = false
    found_heard (Some k) = is_heard k

pub heard_found : (c : ℕ) (k : RelayConnection) (ks : List RelayConnection) → connection_of c ks ≡ Some k → is_heard_among c ks ≡ is_heard k
heard_found c k ks e = ap found_heard e
  where
    found_heard : Option RelayConnection → Bool
    found_heard None = false
    found_heard (Some k) = is_heard k

pub heard_none : (c : ℕ) (ks : List RelayConnection) → connection_of c ks ≡ None → is_heard_among c ks ≡ false
heard_none c ks e = ap found_heard e
  where
    found_heard : Option RelayConnection → Bool
    found_heard None = false
    found_heard (Some k) = is_heard k

-- and who is, is there
pub record HeardConnection (c : ℕ) (ks : List RelayConnection) : Type 0 where
  pub connection : RelayConnection
  pub found : connection_of c ks ≡ Some connection
  pub heard : is_heard connection ≡ true

pub heard_there : (c : ℕ) (ks : List RelayConnection) → is_heard_among c ks ≡ true → HeardConnection c ks
heard_there c ks e = by (connection_of c ks) refl
  where
    by : (o : Option RelayConnection) → connection_of c ks ≡ o → HeardConnection c ks
    by None none = absurd (true≢false (sym e ∙ heard_none c ks none))
    by (Some k) some = record { connection = k; found = some; heard = sym (heard_found c k ks some) ∙ e }

pub heard_changed : (n c : ℕ) (f : RelayConnection → RelayConnection) → Stays f → ((k : RelayConnection) → (f k).closing ≡ k.closing)
    → (s : RelayState) → is_heard_among c (at_connection n f s).connections ≡ is_heard_among c s.connections
heard_changed n c f stays closing s = elim (cases_eq n c) [
  | inr ne ↦ heard_other n c f stays ne s
  | inl e ↦ subst (λ j. is_heard_among j (at_connection n f s).connections ≡ is_heard_among j s.connections) e (own (connection_of n s.connections) refl)
]
  where
    own : (o : Option RelayConnection) → connection_of n s.connections ≡ o → is_heard_among n (at_connection n f s).connections ≡ is_heard_among n s.connections
    own None e =
        heard_none n (at_connection n f s).connections (changed-own n f stays.number s ∙ ap (option_map f) e) ∙ sym (heard_none n s.connections e)
    own (Some k) e =
        heard_found n (f k) (at_connection n f s).connections (changed-own n f stays.number s ∙ ap (option_map f) e)
        ∙ heard_same f stays closing k ∙ sym (heard_found n k s.connections e)

-- who is not deaf is there, and not closing
pub heard_parts : (k : RelayConnection) → is_heard k ≡ true → (k.closing ≡ false) × (k.gone ≡ false)
heard_parts k e = by k.closing k.gone e
  where
    by : (a b : Bool) → not (a || b) ≡ true → (a ≡ false) × (b ≡ false)
    by true b q = absurd (true≢false (sym q))
    by false true q = absurd (true≢false (sym q))
    by false false q = (refl, refl)

pub heard_of_parts : (k : RelayConnection) → k.closing ≡ false → k.gone ≡ false → is_heard k ≡ true
heard_of_parts k a b = ap (λ x. not (x || k.gone)) a ∙ ap not b

pub deaf_closing : (k : RelayConnection) → k.closing ≡ true → is_heard k ≡ false
deaf_closing k e = ap (λ x. not (x || k.gone)) e

pub deaf_gone : (k : RelayConnection) → k.gone ≡ true → is_heard k ≡ false
deaf_gone k e = by k.closing k.gone e
  where
    by : (a b : Bool) → b ≡ true → not (a || b) ≡ false
    by true b e = refl
    by false b e = ap not e
