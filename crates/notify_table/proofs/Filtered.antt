-- What a test keeps of a list, also where an element is put in or taken out.
use Rattle.std.proofs.Common.{◌≡◌, ◌≢◌, ℕ, suc, ◌+◌, ◌<◌, ◌≤◌, Bool, true, false, cond, nat_eq, List, [], ◌∷◌, ◌++◌, length}
use Rattle.std.proofs.Common.{map, take, drop, get_or, refl, sym, ◌∙◌, ap, arith}
use Rattle.std.specs.List.{All, filter, insert, remove, count_by}
use Rattle.std.proofs.Common.{inl, inr}
use Rattle.std.proofs.lemmas.Bool.{ne_eqb, eq-eqb, eqb-false, cases_eq, cases_Bool}
use Rattle.std.proofs.lemmas.List.{take-append-drop, take_at, drop_at, length-append, length-take-le, map-append, take-map, drop-map}
use Rattle.std.proofs.lemmas.List.Elements.{All-head, All-tail, All-cons, All-nil, All-append, All-take, All-drop}
use Rattle.std.proofs.lemmas.List.Elements.{filter-append}
use Rattle.std.proofs.lemmas.List.Sums.{sum_by-insert, sum_by-remove, sum_by-cons}
use Rattle.std.proofs.Math.Seq.{drop-cons}
use Rattle.notify_table.specs.Schedules.{OncePer}

module _ {X : Type 0} (P : X → Type 0) where
  pub All-insert : (xs : List X) (i : ℕ) (y : X) → All P xs → P y → All P (insert xs i y)
  All-insert xs i y all one =
      All-append P (take i xs) (y ∷ drop i xs) (All-take P i xs all) (All-cons P y (drop i xs) one (All-drop P i xs all))

  pub All-remove : (xs : List X) (i : ℕ) → All P xs → All P (remove xs i)
  All-remove xs i all = All-append P (take i xs) (drop (suc i) xs) (All-take P i xs all) (All-drop P (suc i) xs all)

module _ {X Y : Type 0} (f : X → Y) where
  pub map-insert : (xs : List X) (i : ℕ) (y : X) → map f (insert xs i y) ≡ insert (map f xs) i (f y)
  map-insert xs i y = rw (map-append f (take i xs) (y ∷ drop i xs), take-map f i xs, drop-map f i xs)

  pub map-remove : (xs : List X) (i : ℕ) → map f (remove xs i) ≡ remove (map f xs) i
  map-remove xs i = rw (map-append f (take i xs) (drop (suc i) xs), take-map f i xs, drop-map f (suc i) xs)

-- where one is put in there is one more
pub length-insert_one : {X : Type 0} (xs : List X) (i : ℕ) (y : X) → length (insert xs i y) ≡ length xs + 1
length-insert_one xs i y =
    let put = length-append (take i xs) (y ∷ drop i xs) in
    let cut = length-append (take i xs) (drop i xs) in
    let same = ap length (take-append-drop i xs) in
    omega (arith, put, cut, same)

-- what is taken out is put back
pub insert-remove : {X : Type 0} (xs : List X) (i : ℕ) (d : X) → i < length xs → insert (remove xs i) i (get_or xs i d) ≡ xs
insert-remove xs i d within =
    let long : length (take i xs) ≡ i = length-take-le i xs (omega arith) in
    rw (take_at (take i xs) (drop (suc i) xs) i long, drop_at (take i xs) (drop (suc i) xs) i long, ← drop-cons xs i d within)
    (take-append-drop i xs)

module _ {X : Type 0} (p : X → Bool) where
  -- a test that all pass keeps all
  pub filter_all : (xs : List X) → All (λ x. p x ≡ true) xs → filter p xs ≡ xs
  filter_all [] all = refl
  filter_all (x ∷ xs) all = rw (All-head (λ x. p x ≡ true) x xs all, filter_all xs (All-tail (λ x. p x ≡ true) x xs all))

  -- a test that none passes keeps none
  pub filter_none : (xs : List X) → All (λ x. p x ≡ false) xs → filter p xs ≡ []
  filter_none [] all = refl
  filter_none (x ∷ xs) all = rw (All-head (λ x. p x ≡ false) x xs all) (filter_none xs (All-tail (λ x. p x ≡ false) x xs all))

  -- where the first so many pass
  pub filter_behind : (xs : List X) (i : ℕ) → All (λ x. p x ≡ true) (take i xs)
      → filter p xs ≡ take i xs ++ filter p (drop i xs)
  filter_behind xs i first =
      ap (filter p) (sym (take-append-drop i xs)) ∙ filter-append p (take i xs) (drop i xs)
      ∙ ap (λ ys. ys ++ filter p (drop i xs)) (filter_all (take i xs) first)

  pub filter-insert_no : (xs : List X) (i : ℕ) (y : X) → p y ≡ false → filter p (insert xs i y) ≡ filter p xs
  filter-insert_no xs i y misses =
      filter-append p (take i xs) (y ∷ drop i xs)
      ∙ rw misses (sym (filter-append p (take i xs) (drop i xs)) ∙ ap (filter p) (take-append-drop i xs))

  pub filter-insert_yes : (xs : List X) (i : ℕ) (y : X) → p y ≡ true → All (λ x. p x ≡ false) xs → filter p (insert xs i y) ≡ y ∷ []
  filter-insert_yes xs i y passes none =
      filter-append p (take i xs) (y ∷ drop i xs)
      ∙ rw (passes, filter_none (take i xs) (All-take (λ x. p x ≡ false) i xs none), filter_none (drop i xs) (All-drop (λ x. p x ≡ false) i xs none))

  pub filter-remove_no : (xs : List X) (i : ℕ) (d : X) → i < length xs → p (get_or xs i d) ≡ false → filter p (remove xs i) ≡ filter p xs
  filter-remove_no xs i d within misses =
      sym (filter-insert_no (remove xs i) i (get_or xs i d) misses) ∙ ap (filter p) (insert-remove xs i d within)

  pub filter_one : (xs : List X) (i : ℕ) (d : X) → i < length xs → p (get_or xs i d) ≡ true → All (λ x. p x ≡ false) (remove xs i)
      → filter p xs ≡ get_or xs i d ∷ []
  filter_one xs i d within passes none =
      sym (ap (filter p) (insert-remove xs i d within)) ∙ filter-insert_yes (remove xs i) i (get_or xs i d) passes none

  -- what is counted to none has none
  pub none_counted : (xs : List X) → count_by p xs ≡ 0 → All (λ x. p x ≡ false) xs
  none_counted [] zero_is = All-nil (λ x. p x ≡ false)
  none_counted (x ∷ xs) zero_is =
      let counted = sum_by-cons (λ y. cond (p y) 1 0) x xs in
      All-cons (λ x. p x ≡ false) x xs
      (elim (cases_Bool (p x)) [
        | inl passes ↦ absurd (let one : cond {A = ℕ} (p x) 1 0 ≡ 1 = rw passes refl in omega (arith, counted, one, zero_is))
        | inr misses ↦ misses
      ])
      (none_counted xs (omega (arith, counted, zero_is)))

  pub counted_none : (xs : List X) → All (λ x. p x ≡ false) xs → count_by p xs ≡ 0
  counted_none [] none = refl
  counted_none (x ∷ xs) none =
      let counted = sum_by-cons (λ y. cond (p y) 1 0) x xs in
      let nothing : cond {A = ℕ} (p x) 1 0 ≡ 0 = rw (All-head (λ x. p x ≡ false) x xs none) refl in
      omega (arith, counted, nothing, counted_none xs (All-tail (λ x. p x ≡ false) x xs none))

module _ {X : Type 0} (n : X → ℕ) where
  -- none but the one at i has its number
  pub OncePer-others : (xs : List X) (i : ℕ) (d : X) → OncePer n xs → i < length xs
      → All (λ x. n x ≢ n (get_or xs i d)) (remove xs i)
  OncePer-others xs i d once within k e below same =
      let number : ℕ = n (get_or xs i d) in
      let taken = sum_by-remove (λ x. cond (nat_eq (n x) number) 1 0) xs i d within in
      let here : cond {A = ℕ} (nat_eq number number) 1 0 ≡ 1 = rw (eq-eqb number number refl) refl in
      let most = once number in
      let misses : nat_eq (n (get_or (remove xs i) k e)) number ≡ false =
      none_counted (λ x. nat_eq (n x) number) (remove xs i) (omega (arith, taken, here, most)) k e below in
      eqb-false _ _ misses same

  pub OncePer-remove : (xs : List X) (i : ℕ) (d : X) → OncePer n xs → i < length xs → OncePer n (remove xs i)
  OncePer-remove xs i d once within k =
      let taken = sum_by-remove (λ x. cond (nat_eq (n x) k) 1 0) xs i d within in
      omega (arith, taken, once k)

  pub OncePer-insert : (xs : List X) (i : ℕ) (y : X) → OncePer n xs → All (λ x. n x ≢ n y) xs → OncePer n (insert xs i y)
  OncePer-insert xs i y once fresh k =
      let put = sum_by-insert (λ x. cond (nat_eq (n x) k) 1 0) xs i y in
      elim (cases_eq (n y) k) [
        | inl same ↦
            let none : count_by (λ x. nat_eq (n x) k) xs ≡ 0 =
            counted_none (λ x. nat_eq (n x) k) xs (λ j d below. ne_eqb _ _ (λ e. fresh j d below (e ∙ sym same))) in
            let one : cond {A = ℕ} (nat_eq (n y) k) 1 0 ≤ 1 = rw (eq-eqb _ _ same) (omega arith) in
            omega (arith, put, none, one)
        | inr other ↦
            let zero_is : cond {A = ℕ} (nat_eq (n y) k) 1 0 ≡ 0 = rw (ne_eqb _ _ other) refl in
            omega (arith, put, zero_is, once k)
      ]
