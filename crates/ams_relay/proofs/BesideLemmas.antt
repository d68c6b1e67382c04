-- What stands in a column beside the outlets, as a connection changes, comes or goes.
use Rattle.std.proofs.Common.{◌≡◌, ℕ, zero, suc, List, [], ◌∷◌, ◌++◌, length, false, cond, refl, sym, ap, ◌∙◌, subst, inl, inr, arith}
use Rattle.std.specs.Prelude.{Some, None, set, remove, ◌==◌}
use Rattle.std.specs.Map.{keys_of}
use Rattle.std.proofs.lemmas.Bool.{cases_eq, true≢false, cond-true, cond-false}
use Rattle.std.proofs.lemmas.List.{length-append}
use Rattle.spec_machine.specs.Connection.{connection_of, fresh_connection}
use Rattle.spec_machine.proofs.Find.{test_same, test_other}
use Rattle.spec_relay.specs.RelayState.{RelayConnection, RelayState}
use Rattle.spec_relay.specs.Routing.{at_connection}
use Rattle.spec_relay.proofs.ChangeLemmas.{changed-other}
use Rattle.connections.specs.Entries.{IsEntry, IsNoEntry}
use Rattle.connections.specs.Outlets.{Outlets, beside, without_number}
use Rattle.connections.specs.declared.outlet.Outlet.{Outlet}
use Rattle.connections.proofs.BesideLemmas.{beside_set_own, beside_set_other, beside_without, beside_added_own, beside_added_other}
use Rattle.connections.proofs.EntryLemmas.{entry_behind, keys_length}
use Rattle.ams_relay.specs.Holds.{AreBeside}
use Rattle.ams_relay.specs.Peers.{Sets}
use Rattle.ams_relay.proofs.OwnerLemmas.{some_same, before_number}
use Rattle.ams_relay.proofs.StateLemmas.{Stays, as_gone, with_fresh, opened_own, opened_other}

-- as many outlets as numbers
pub count_same : (es fs : Outlets) → keys_of fs ≡ keys_of es → length fs ≡ length es
count_same es fs e = sym (keys_length fs) ∙ ap length e ∙ keys_length es

-- what is found rests on the numbers alone
pub beside_keys : {X : Type 0} (n : ℕ) (es fs : Outlets) (xs : List X) → keys_of fs ≡ keys_of es → beside n fs xs ≡ beside n es xs
beside_keys n [] [] xs e = refl
beside_keys n [] (f ∷ fs) xs e = absurd (let no : ◌≡◌ {A = List ℕ} (f.0 ∷ keys_of fs) [] = e in cc)
beside_keys n (e ∷ es) [] xs q = absurd (let no : ◌≡◌ {A = List ℕ} [] (e.0 ∷ keys_of es) = q in cc)
beside_keys n (e ∷ es) (f ∷ fs) [] q = refl
beside_keys n (e ∷ es) (f ∷ fs) (x ∷ xs) q =
    let both : ◌≡◌ {A = List ℕ} (f.0 ∷ keys_of fs) (e.0 ∷ keys_of es) = q in
    let head : f.0 ≡ e.0 = cc in
    let tail : keys_of fs ≡ keys_of es = cc in
    ap (λ (k : ℕ). cond (k == n) (Some x) (beside n fs xs)) head ∙ ap (λ o. cond (e.0 == n) (Some x) o) (beside_keys n es fs xs tail)

-- the element at a place is another
pub sets_at : {X : Type 0} (n i : ℕ) (es : Outlets) (xs : List X) (x : X) → IsEntry es n i → length xs ≡ length es
    → Sets n x (λ m. beside m es xs) (λ m. beside m es (set xs i x))
sets_at n i es xs x at count = record { others = λ m ne. beside_set_other es xs n m i x at ne; own = beside_set_own es xs n i x at count }

-- one more behind the others
pub sets_behind : {X : Type 0} (n : ℕ) (es : Outlets) (o : Outlet) (xs : List X) (x : X) → IsNoEntry es n → length xs ≡ length es
    → Sets n x (λ m. beside m es xs) (λ m. beside m (es ++ (n, o) ∷ []) (xs ++ x ∷ []))
sets_behind n es o xs x none count = record {
  others = λ m ne. beside_added_other es xs n m o x ne count;
  own = beside_added_own es xs n o x none count;
}

-- one goes
removed_count : {X : Type 0} (n i : ℕ) (es : Outlets) (xs : List X) → IsEntry es n i → length xs ≡ length es
    → length (remove xs i) ≡ length (without_number n es)
removed_count n i [] xs at count = absurd (omega (arith, at.within))
removed_count n i (e ∷ es) [] at count = absurd (omega (arith, count))
removed_count n zero (e ∷ es) (x ∷ xs) at count =
    let same = ap (λ (fs : Outlets). length fs) (cond-true (e.0 == n) es (e ∷ without_number n es) (test_same e.0 n (at.number 0))) in
    omega (arith, count, same)
removed_count n (suc i) (e ∷ es) (x ∷ xs) at count =
    let same = ap (λ (fs : Outlets). length fs)
    (cond-false (e.0 == n) es (e ∷ without_number n es) (test_other e.0 n (at.first 0 0 (omega arith)))) in
    let rest = removed_count n i es xs (entry_behind e es n i at) (omega (arith, count)) in
    omega (arith, same, rest)

module _ {X : Type 0} (IsOf : X → RelayConnection → Type 0) where
  -- outlets with the same numbers
  pub beside_same : (es fs : Outlets) (xs : List X) (ks : List RelayConnection) → keys_of fs ≡ keys_of es
      → AreBeside IsOf es xs ks → AreBeside IsOf fs xs ks
  beside_same es fs xs ks keys h = record {
    count = h.count ∙ sym (count_same es fs keys);
    each = λ m x k at found there. h.each m x k (sym (beside_keys m es fs xs keys) ∙ at) found there;
  }

  -- a connection changes, for which what stood for it does still
  pub beside_changed : (n : ℕ) (f : RelayConnection → RelayConnection) (es : Outlets) (xs : List X) (s : RelayState) → Stays f
      → ((x : X) (k : RelayConnection) → IsOf x k → IsOf x (f k)) → AreBeside IsOf es xs s.connections
      → AreBeside IsOf es xs (at_connection n f s).connections
  beside_changed n f es xs s stays follows h = record {
    count = h.count;
    each = λ m x k at found there. elim (cases_eq m n) [
      | inl e ↦
          let b = before_number n f stays.number s k (ap (λ j. connection_of j (at_connection n f s).connections) (sym e) ∙ found) in
          let there_b = sym (stays.gone b.connection) ∙ ap (λ (l : RelayConnection). l.gone) b.is ∙ there in
          subst (IsOf x) b.is (follows x b.connection (h.each n x b.connection (ap (λ j. beside j es xs) (sym e) ∙ at) b.found there_b))
      | inr ne ↦ h.each m x k at (sym (changed-other n m f stays.number (λ e. ne (sym e)) s) ∙ found) there
    ];
  }

  -- another element stands for the connection that changes
  pub beside_set : (n : ℕ) (f : RelayConnection → RelayConnection) (x : X) (es : Outlets) (xs ys : List X) (s : RelayState) → Stays f
      → Sets n x (λ m. beside m es xs) (λ m. beside m es ys) → length ys ≡ length xs
      → ((k : RelayConnection) → connection_of n s.connections ≡ Some k → k.gone ≡ false → IsOf x (f k))
      → AreBeside IsOf es xs s.connections → AreBeside IsOf es ys (at_connection n f s).connections
  beside_set n f x es xs ys s stays sets count stands h = record {
    count = count ∙ h.count;
    each = λ m y k at found there. elim (cases_eq m n) [
      | inl e ↦
          let b = before_number n f stays.number s k (ap (λ j. connection_of j (at_connection n f s).connections) (sym e) ∙ found) in
          let there_b = sym (stays.gone b.connection) ∙ ap (λ (l : RelayConnection). l.gone) b.is ∙ there in
          let same = some_same x y (sym sets.own ∙ ap (λ j. beside j es ys) (sym e) ∙ at) in
          subst (λ u. IsOf u k) same (subst (IsOf x) b.is (stands b.connection b.found there_b))
      | inr ne ↦ h.each m y k (sym (sets.others m ne) ∙ at) (sym (changed-other n m f stays.number (λ e. ne (sym e)) s) ∙ found) there
    ];
  }

  -- a connection is opened
  pub beside_opened : (n : ℕ) (o : Outlet) (x : X) (es : Outlets) (xs : List X) (s : RelayState) → connection_of n s.connections ≡ None
      → IsNoEntry es n → IsOf x (fresh_connection None n) → AreBeside IsOf es xs s.connections
      → AreBeside IsOf (es ++ (n, o) ∷ []) (xs ++ x ∷ []) (with_fresh n s).connections
  beside_opened n o x es xs s is_new none fresh h =
      let sets = sets_behind n es o xs x none h.count in
      let more = length-append xs (x ∷ []) in
      let longer = length-append es ((n, o) ∷ []) in
      record {
        count = omega (arith, h.count, more, longer);
        each = λ m y k at found there. elim (cases_eq m n) [
          | inl e ↦
              let same = some_same x y (sym sets.own ∙ ap (λ j. beside j (es ++ (n, o) ∷ []) (xs ++ x ∷ [])) (sym e) ∙ at) in
              let is : fresh_connection None n ≡ k = some_same (fresh_connection None n) k
              (sym (opened_own n s.connections is_new) ∙ ap (λ j. connection_of j (with_fresh n s).connections) (sym e) ∙ found) in
              subst (λ u. IsOf u k) same (subst (IsOf x) is fresh)
          | inr ne ↦
              h.each m y k (sym (sets.others m ne) ∙ at) (sym (opened_other n m s.connections (λ e. ne (sym e))) ∙ found) there
        ];
      }

  -- a connection goes
  pub beside_ended : (n i : ℕ) (es : Outlets) (xs : List X) (s : RelayState) → IsEntry es n i → AreBeside IsOf es xs s.connections
      → AreBeside IsOf (without_number n es) (remove xs i) (at_connection n as_gone s).connections
  beside_ended n i es xs s at_n h = record {
    count = removed_count n i es xs at_n h.count;
    each = λ m y k at found there. elim (cases_eq m n) [
      | inl e ↦
          let b = before_number n as_gone (λ l. refl) s k (ap (λ j. connection_of j (at_connection n as_gone s).connections) (sym e) ∙ found) in
          absurd (true≢false (ap (λ (l : RelayConnection). l.gone) b.is ∙ there))
      | inr ne ↦
          h.each m y k (sym (beside_without es xs n m i at_n ne) ∙ at) (sym (changed-other n m as_gone (λ l. refl) (λ e. ne (sym e)) s) ∙ found) there
    ];
  }
