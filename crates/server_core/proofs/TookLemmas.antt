-- What was offered is taken, or a connection is writable: outlets change, and nothing beside them.
use Rattle.std.proofs.Common.{◌≡◌, ℕ, ◌+◌, ◌≤◌, List, [], ◌∷◌, length, true, false, refl, sym, ap, ◌∙◌, subst, inl, inr, append-nil}
use Rattle.std.specs.Prelude.{Option, Some, None, IsSome}
use Rattle.std.proofs.lemmas.Bool.{cases_Bool, cases_eq, cond-true, cond-false}
use Rattle.signals.specs.Wave.{Wave}
use Rattle.ads_outside.specs.declared.event.Event.TheVariants as event
use Rattle.ads_outside.specs.declared.moves.Move.TheVariants as move
use Rattle.ads_outside.specs.Wholes.{wholes}
use Rattle.ads_served.specs.Standing.{Standing, Noting, standing_after, standing_after_all}
use Rattle.spec_machine.specs.Connection.{connection_of, put_back}
use Rattle.spec_machine.specs.Events.{state_after_event}
use Rattle.spec_machine.specs.MachineState.{exchange_of, with_exchange, after_exchange}
use Rattle.spec_machine.specs.Moves.{state_after, state_after_move, with_took}
use Rattle.spec_machine.specs.Offers.{blocked_after}
use Rattle.spec_machine.proofs.Find.{number_of_found}
use Rattle.connections.specs.Carries.{EachBeside, IsStreamOf}
use Rattle.connections.specs.Outlets.{change_of, emptied, freed, offer_among, run_among, taken}
use Rattle.connections.specs.Present.{present}
use Rattle.connections.proofs.MoveLemmas.{took_all, took_one, writable}
use Rattle.connections.proofs.StateLemmas.{connection_of-same, connection_of-other, none_of_nil, present-gone}
use Rattle.connections.proofs.StateLemmas.{present-there, put_back-itself, put_back-same, put_back-other}
use Rattle.server_core.specs.CoreState.{CoreState, after_event, after_move, after_moves}
use Rattle.server_core.specs.Served.{World, Client, ServedConnection, ServedState, served_step}
use Rattle.server_core.specs.ServerView.{ServerView}
use Rattle.server_core.specs.Serves.{CoreView, Serves, ServesEach, ServesSome, HasCounts, FollowsEach, StandsAt}
use Rattle.server_core.specs.Stands.{IsClientOf}
use Rattle.server_core.proofs.ServeLemmas.{KeepsServed, keeps_all, keeps_on, outlets_follow}
use Rattle.server_core.proofs.SumLemmas.{counted_one}

-- one connection changes, and what stands beside it stands for it still
quiet_put : {X : Type 0} (R : X → ServedConnection → Type 0) (n : ℕ) (k l : ServedConnection) → l.number ≡ k.number → l.gone ≡ k.gone
    → ((x : X) → R x k → R x l) → (ks : List ServedConnection) → connection_of n ks ≡ Some k → (xs : List X)
    → EachBeside R xs (present ks) → EachBeside R xs (present (put_back l ks))
quiet_put {X} R n k l number gone keeps [] found xs each = absurd (let both = sym (none_of_nil n) ∙ found in cc)
quiet_put {X} R n k l number gone keeps (j ∷ js) found xs each = elim (cases_eq j.number n) [
  | inl same ↦
      let is_k : j ≡ k = (let both = sym (connection_of-same n j js same) ∙ found in cc) in
      let put = put_back-same l j js (ap (λ (z : ServedConnection). z.number) is_k ∙ sym number) in
      subst (λ qs. EachBeside R xs (present qs)) (sym put) (first is_k)
  | inr other ↦
      let behind = sym (connection_of-other n j js other) ∙ found in
      let put = put_back-other l j js (λ e. other (e ∙ number ∙ number_of_found n k js behind)) in
      subst (λ qs. EachBeside R xs (present qs)) (sym put) (later (quiet_put R n k l number gone keeps js behind))
]
  where
    with_first : (ys : List X) → (j ≡ k) → EachBeside R ys (j ∷ present js) → EachBeside R ys (l ∷ present js)
    with_first [] is_k e = absurd e
    with_first (y ∷ ys) is_k e = (keeps y (subst (λ z. R y z) is_k e.0), e.1)

    first : (j ≡ k) → EachBeside R xs (present (l ∷ js))
    first is_k = elim (cases_Bool j.gone) [
      | inl gone_j ↦
          let gone_l : l.gone ≡ true = gone ∙ sym (ap (λ (z : ServedConnection). z.gone) is_k) ∙ gone_j in
          subst (λ qs. EachBeside R xs qs) (sym (present-gone l js gone_l)) (subst (λ qs. EachBeside R xs qs) (present-gone j js gone_j) each)
      | inr there ↦
          let there_l : l.gone ≡ false = gone ∙ sym (ap (λ (z : ServedConnection). z.gone) is_k) ∙ there in
          subst (λ qs. EachBeside R xs qs) (sym (present-there l js there_l))
          (with_first xs is_k (subst (λ qs. EachBeside R xs qs) (present-there j js there) each))
    ]

    with_later : (ys : List X) → ((zs : List X) → EachBeside R zs (present js) → EachBeside R zs (present (put_back l js)))
        → EachBeside R ys (j ∷ present js) → EachBeside R ys (j ∷ present (put_back l js))
    with_later [] rest e = absurd e
    with_later (y ∷ ys) rest e = (e.0, rest ys e.1)

    later : ((zs : List X) → EachBeside R zs (present js) → EachBeside R zs (present (put_back l js)))
        → EachBeside R xs (present (j ∷ put_back l js))
    later rest = elim (cases_Bool j.gone) [
      | inl gone_j ↦ subst (λ qs. EachBeside R xs qs) (sym (present-gone j (put_back l js) gone_j))
          (rest xs (subst (λ qs. EachBeside R xs qs) (present-gone j js gone_j) each))
      | inr there ↦ subst (λ qs. EachBeside R xs qs) (sym (present-there j (put_back l js) there))
          (with_later xs rest (subst (λ qs. EachBeside R xs qs) (present-there j js there) each))
    ]

-- bytes that are taken leave all but the outlets
abbrev with_more : ℕ → ServedConnection → ServedConnection
with_more q k = record k { bytes_taken = k.bytes_taken + q }

keeps_put : (v : ServerView) (waves : List Wave) (s : ServedState) (n q : ℕ) (k : ServedConnection) → connection_of n s.connections ≡ Some k
    → KeepsServed v waves s (with_exchange (exchange_of s (with_more q k)) s)
keeps_put v waves s n q k found = record {
  device = λ h. record { world = h.world; signals = h.signals; count = h.count; few = h.few; moment = h.moment };
  plant = refl;
  streams = λ e. quiet_put IsStreamOf n k (with_more q k) refl refl (λ h st. st) s.connections found v.streams e;
  clients = λ plant e. quiet_put (IsClientOf plant) n k (with_more q k) refl refl (λ t st. st) s.connections found v.sessions e;
  counted = λ c e. counted_one c c n k (exchange_of s (with_more q k)) s found (number_of_found n k s.connections found) (record {
    connections = refl;
    requests = λ others f. f;
    replies = λ others f. f;
    samples = λ others f. f;
    accepted = refl;
    refused = refl;
  }) e;
}

took_exchange : (q : ℕ) (s : ServedState) (k : ServedConnection) → k.gone ≡ false → with_took q (exchange_of s k) ≡ exchange_of s (with_more q k)
took_exchange q s k there = cond-false k.gone (exchange_of s k) (exchange_of s (with_more q k)) there

took_gone : (n q : ℕ) (s : ServedState) (k : ServedConnection) → k.gone ≡ true → connection_of n s.connections ≡ Some k
    → with_exchange (with_took q (exchange_of s k)) s ≡ s
took_gone n q s k gone found =
    ap (λ e. with_exchange e s) (cond-true k.gone (exchange_of s k) (exchange_of s (with_more q k)) gone)
    ∙ ap (λ (ks : List ServedConnection). record s { connections = ks }) (put_back-itself n k s.connections found)

pub took_keeps : (v : ServerView) (waves : List Wave) (s : ServedState) (n q : ℕ)
    → KeepsServed v waves s (after_exchange (connection_of n s.connections) (with_took q) s)
took_keeps v waves s n q = by (connection_of n s.connections) refl
  where
    by : (o : Option ServedConnection) → connection_of n s.connections ≡ o → KeepsServed v waves s (after_exchange o (with_took q) s)
    by None e = keeps_all v waves s s refl
    by (Some k) e = elim (cases_Bool k.gone) [
      | inl gone ↦ keeps_all v waves s (with_exchange (with_took q (exchange_of s k)) s) (took_gone n q s k gone e)
      | inr there ↦ subst (λ x. KeepsServed v waves s (with_exchange x s)) (sym (took_exchange q s k there)) (keeps_put v waves s n q k e)
    ]

-- bytes of an offer
pub took_follows : (v : ServerView) (waves : List Wave) (x : CoreState) (n m : ℕ) (left bytes : List ℕ) → ServesEach v waves x
    → offer_among v.outlets n ≡ Some left → length bytes ≡ m → m ≤ length left
    → FollowsEach v (record v { outlets = change_of (taken m) n v.outlets }) waves x (after_move x (move.Took n (length left) bytes))
unfolding state_after_move
took_follows v waves x n m left bytes serves offered len fits =
    subst (λ (q : ℕ). FollowsEach v (record v { outlets = change_of (taken q) n v.outlets }) waves x (after_move x (move.Took n (length left) bytes))) len
    (outlets_follow v waves x (after_move x (move.Took n (length left) bytes)) (change_of (taken (length bytes)) n v.outlets) serves
    (took_keeps v waves x.state n (length bytes))
    (took_one served_step v.outlets x n left bytes serves.outlets offered (subst (λ (q : ℕ). q ≤ length left) (sym len) fits)))

-- all that was lent, frame after frame
wholes_keep : (v : ServerView) (waves : List Wave) (s : ServedState) (n : ℕ) (frames : List (List ℕ))
    → KeepsServed v waves s (state_after served_step s (wholes n frames))
unfolding state_after state_after_move
wholes_keep v waves s n [] = keeps_all v waves s s refl
wholes_keep v waves s n (f ∷ fs) =
    let t = after_exchange (connection_of n s.connections) (with_took (length f)) s in
    keeps_on v waves s t (state_after served_step t (wholes n fs)) (took_keeps v waves s n (length f)) (wholes_keep v waves t n fs)

pub run_follows : (v : ServerView) (waves : List Wave) (x : CoreState) (n : ℕ) (frames : List (List ℕ)) → ServesEach v waves x
    → run_among v.outlets n ≡ Some frames
    → FollowsEach v (record v { outlets = change_of emptied n v.outlets }) waves x (after_moves x (wholes n frames))
run_follows v waves x n frames serves lent =
    outlets_follow v waves x (after_moves x (wholes n frames)) (change_of emptied n v.outlets) serves
    (wholes_keep v waves x.state n frames) (took_all served_step v.outlets x n frames serves.outlets lent)

-- it is writable
pub writable_follows : (v : ServerView) (waves : List Wave) (x : CoreState) (n : ℕ) → ServesEach v waves x
    → FollowsEach v (record v { outlets = change_of freed n v.outlets }) waves x (after_event x (event.Writable n))
unfolding state_after_move state_after_event
writable_follows v waves x n serves =
    outlets_follow v waves x (after_event x (event.Writable n)) (change_of freed n v.outlets) serves (keeps_all v waves x.state x.state refl)
    (writable v.outlets x.blocked x.state.connections n serves.outlets)

-- there is a state after all was taken
pub run_some : (v w : ServerView) (waves : List Wave) (n : ℕ) → ServesSome v waves → IsSome (run_among v.outlets n)
    → ((ws : List Wave) (x : CoreState) (frames : List (List ℕ)) → ServesEach v ws x → run_among v.outlets n ≡ Some frames
    → FollowsEach v w ws x (after_moves x (wholes n frames))) → ServesSome w waves
run_some v w waves n s lent follows = by (run_among v.outlets n) refl lent
  where
    by : (o : Option (List (List ℕ))) → run_among v.outlets n ≡ o → IsSome o → ServesSome w waves
    by None e h = absurd (let no_run : false ≡ true = h in cc)
    by (Some frames) e h = record {
      state = after_moves s.state (wholes n frames);
      serves = (follows waves s.state frames s.serves e).serves;
    }

-- no note is made of frames that are taken
pub stands_wholes : (noted : Noting World Client) (core : CoreView) (n : ℕ) (frames : List (List ℕ)) (x : Standing World Client)
    → Serves core (after_moves x.running (wholes n frames)) → HasCounts core (after_moves x.running (wholes n frames))
    → core.server.notes ≡ x.notes → StandsAt core (standing_after_all served_step noted x (wholes n frames))
unfolding standing_after_all state_after blocked_after
stands_wholes noted core n [] x serves counted notes = record { serves = serves; counted = counted; notes = notes }
stands_wholes noted core n (f ∷ fs) x serves counted notes =
    stands_wholes noted core n fs (standing_after served_step noted x (move.Took n (length f) f)) serves counted (notes ∙ sym (append-nil x.notes))
