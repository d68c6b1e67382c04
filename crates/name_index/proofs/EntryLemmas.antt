-- Entries under names in lower case: a further one counts exactly where its name is new.
use Rattle.std.proofs.Common.{◌≡◌, ℕ, ◌+◌, ◌≤◌, eqb, arith, true, false, List, [], ◌∷◌, ◌++◌, map, length, refl, sym, ◌∙◌, ap, inl, inr}
use Rattle.std.specs.Prelude.{Bool, Option, Some, None, is_some, bytes_eq, position, cond, nat_lt, not}
use Rattle.std.specs.Global.{Vec}
use Rattle.std.specs.Map.{lookup}
use Rattle.std.specs.List.{position_or_len}
use Rattle.std.proofs.lemmas.List.{length_push}
use Rattle.std.proofs.lemmas.List.Folds.{position_or_len_push}
use Rattle.std.proofs.lemmas.List.Sums.{prefix_len-le-length}
use Rattle.std.proofs.lemmas.Bool.Decides.{nat_tests}
use Rattle.std.proofs.lemmas.Bool.{cases_Bool, ltb-true, ltb-false, lt-ltb}
use Rattle.std.proofs.lemmas.Cmp.{nat_list_eq_equiv}
use Rattle.std.proofs.lemmas.Slice.Eq.{bytes_eq-Decides}
use Rattle.indexmap.specs.IndexMap.{insert_entry}
use Rattle.name_paths.specs.Identifier.{lower}
use Rattle.name_index.specs.Entries.{number_of, AddsEntry}
use Rattle.name_index.specs.Numbered.{NameNumbers, AreNumbered}

abbrev pub shown : Vec ℕ × ℕ → List ℕ × ℕ
shown e = (e.0.items, e.1)

-- the map's look-up
pub number_of-shown : (name : List ℕ) (es : List (Vec ℕ × ℕ)) → lookup (λ k. bytes_eq name k.items) es ≡ number_of name (map shown es)
number_of-shown name [] = refl
number_of-shown name (e ∷ es) = ap (cond (bytes_eq name e.0.items) (Some e.1)) (number_of-shown name es)

-- one number behind others
abbrev pub behind : Option ℕ → Bool → ℕ → Option ℕ
behind (Some n) b m = Some n
behind None b m = cond b (Some m) None

number_of-push : (name : List ℕ) (es : List (List ℕ × ℕ)) (e : List ℕ × ℕ) → number_of name (es ++ e ∷ []) ≡ behind (number_of name es) (bytes_eq name e.0) e.1
number_of-push name [] e = refl
number_of-push name (x ∷ xs) e = elim (cases_Bool (bytes_eq name x.0)) [ inl t ↦ rw t refl | inr t ↦ rw t (number_of-push name xs e) ]

-- a name that has a number keeps it
pub number_of-there : (es : List (List ℕ × ℕ)) (e : List ℕ × ℕ) → is_some (number_of e.0 es) ≡ true → AddsEntry e es es
number_of-there es e there name =
    elim (cases_Bool (bytes_eq name e.0)) [
      | inl t ↦
          let same : name ≡ e.0 = (bytes_eq-Decides name e.0).0 t in
          let has : is_some (number_of name es) ≡ true = rw same there in
          kept (number_of name es) (bytes_eq name e.0) has ∙ sym (number_of-push name es e)
      | inr t ↦ other (number_of name es) e.1 ∙ rw (sym t) (sym (number_of-push name es e))
    ]
  where
    kept : (o : Option ℕ) (b : Bool) → is_some o ≡ true → o ≡ behind o b e.1
    kept (Some n) b h = refl
    kept None b h = cc

    other : (o : Option ℕ) (m : ℕ) → o ≡ behind o false m
    other (Some n) m = refl
    other None m = refl

-- a new key goes last
pub inserted : (key : Vec ℕ) (v : ℕ) (es : List (Vec ℕ × ℕ)) → number_of key.items (map shown es) ≡ None
    → map shown (insert_entry (λ k l. bytes_eq k.items l.items) es key v) ≡ map shown es ++ (key.items, v) ∷ []
inserted key v [] none = refl
inserted key v (e ∷ es) none =
    elim (cases_Bool (bytes_eq key.items e.0.items)) [
      | inl t ↦ let found = rw t at none in cc
      | inr t ↦
          let rest : number_of key.items (map shown es) ≡ None = rw t at none in
          rw t (ap (λ others. shown e ∷ others) (inserted key v es rest))
    ]

-- a first place k among n, and one more
found_more : (k n : ℕ) (b : Bool) → k ≤ n
    → cond (nat_lt (cond (eqb k n) (n + cond b 0 1) k) (n + 1)) (Some (cond (eqb k n) (n + cond b 0 1) k)) None ≡ behind (cond (nat_lt k n) (Some k) None) b n
found_more k n b h =
    elim (cases_Bool (nat_lt k n)) [
      | inl t ↦
          let less = ltb-true k n t in
          let other : eqb k n ≡ false = grind (arith, nat_tests) in
          let below : nat_lt k (n + 1) ≡ true = lt-ltb k (n + 1) (omega (arith, less)) in
          rw (t, other, below) refl
      | inr t ↦
          let most = ltb-false k n t in
          let same : eqb k n ≡ true = grind (arith, nat_tests) in
          elim (cases_Bool b) [
            | inl passes ↦
                let below : nat_lt (n + 0) (n + 1) ≡ true = lt-ltb (n + 0) (n + 1) (omega arith) in
                let none : n + 0 ≡ n = omega arith in
                rw (t, same, passes, below, none) refl
            | inr fails ↦
                let above : nat_lt (n + 1) (n + 1) ≡ false = grind (arith, nat_tests) in
                rw (t, same, fails, above) refl
          ]
    ]

-- the first place among one more
position-push : {X : Type 0} (p : X → Bool) (xs : List X) (x : X) → position p (xs ++ x ∷ []) ≡ behind (position p xs) (p x) (length xs)
position-push p xs x =
    rw (position_or_len_push p xs x, length_push xs x) (found_more (position_or_len p xs) (length xs) (p x) (prefix_len-le-length (λ y. not (p y)) xs))

-- one more name, whose number is how many there were
pub AreNumbered-push : (names : List (List ℕ)) (name : List ℕ) (old new : NameNumbers) (low : List ℕ) → AreNumbered names old → low ≡ lower name
    → AddsEntry (low, old.count) old.entries new.entries → new.count ≡ old.count + 1 → AreNumbered (names ++ name ∷ []) new
AreNumbered-push names name old new low are is_low added more = record {
  first = λ l. first_more names name old.entries new.entries low old.count are.first is_low are.counted added l;
  counted = more ∙ ap (λ n. n + 1) are.counted ∙ sym (length_push names name);
}
  where
    first_more : (names : List (List ℕ)) (name : List ℕ) (old new : List (List ℕ × ℕ)) (low : List ℕ) (number : ℕ)
        → ((l : List ℕ) → number_of l old ≡ position (λ n. bytes_eq (lower n) l) names) → low ≡ lower name
        → number ≡ length names → AddsEntry (low, number) old new → (l : List ℕ) → number_of l new ≡ position (λ n. bytes_eq (lower n) l) (names ++ name ∷ [])
    first_more names name old new low number are is_low is_last added l =
        added l ∙ number_of-push l old (low, number)
        ∙ ap (λ o. behind o (bytes_eq l low) number) (are l)
        ∙ ap (λ b. behind (position (λ n. bytes_eq (lower n) l) names) b number) (nat_list_eq_equiv.symm l low ∙ ap (λ k. bytes_eq k l) is_low)
        ∙ ap (λ n. behind (position (λ m. bytes_eq (lower m) l) names) (bytes_eq (lower name) l) n) is_last
        ∙ sym (position-push (λ m. bytes_eq (lower m) l) names name)

pub none_is : (o : Option ℕ) → is_some o ≡ false → o ≡ None
none_is None e = refl
none_is (Some x) e = cc
