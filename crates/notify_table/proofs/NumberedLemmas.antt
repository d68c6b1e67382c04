-- Lists by the numbers of their elements.
use Rattle.std.proofs.Common.{◌≡◌, ℕ, zero, suc, ◌+◌, ◌-◌, ◌<◌, ◌≤◌, Bool, cond, nat_eq, List, [], ◌∷◌, ◌++◌, length}
use Rattle.std.proofs.Common.{map, replicate, get_or, Option, Some, None, refl, sym, ap, ◌∙◌, arith, inl, inr}
use Rattle.std.specs.List.{All, filter, filter_map, cons_option, count_by}
use Rattle.std.specs.List.Sorted.{IsPermutation, IsNonDecreasing, IsStrictlyIncreasing}
use Rattle.std.proofs.lemmas.Bool.{cases_Bool, cases_eq, cases_lt, eq-eqb, ne_eqb, eqb-true}
use Rattle.std.proofs.lemmas.List.{map-append, length-append, length-map, get_or_append_left, get_or-append_right}
use Rattle.std.proofs.lemmas.List.Elements.{All-head, All-tail, All-cons, All-nil, All-append, All-weaker, All-filter}
use Rattle.std.proofs.lemmas.List.Elements.{All-map, filter-append, filter_map-append, filter_agree, filter_passes}
use Rattle.std.proofs.lemmas.List.Sums.{sum_by-cons, length-filter}
use Rattle.std.proofs.lemmas.List.Sorted.{All-permutation, sum_by-IsPermutation}
use Rattle.notify_table.specs.Schedules.{OncePer}
use Rattle.notify_table.specs.Numbered.{by_number, HasNumber}
use Rattle.notify_table.proofs.Filtered.{filter_none}

-- two tests may be made in either order
pub filter-filter : {X : Type 0} (p q : X → Bool) (xs : List X) → filter p (filter q xs) ≡ filter q (filter p xs)
filter-filter p q [] = refl
filter-filter p q (x ∷ xs) =
    let rest = filter-filter p q xs in
    elim (cases_Bool (p x)) [
      | inl passes ↦ elim (cases_Bool (q x)) [
        | inl both ↦ rw (both, passes, both, rest) refl
        | inr one ↦ rw (one, passes, one) rest
      ]
      | inr fails ↦ elim (cases_Bool (q x)) [
        | inl one ↦ rw (one, fails) rest
        | inr neither ↦ rw (neither, fails) rest
      ]
    ]

pub filter-map : {X Y : Type 0} (q : Y → Bool) (f : X → Y) (xs : List X) → filter q (map f xs) ≡ map f (filter (λ x. q (f x)) xs)
filter-map q f [] = refl
filter-map q f (x ∷ xs) =
    let rest = filter-map q f xs in
    elim (cases_Bool (q (f x))) [
      | inl passes ↦ rw (passes, rest) refl
      | inr fails ↦ rw fails rest
    ]

module _ {X : Type 0} (n : X → ℕ) where
  pub by_number-nil : (k : ℕ) → by_number n k [] ≡ []
  by_number-nil zero = refl
  by_number-nil (suc k) = rw (by_number-nil k) refl

  pub by_number-same : (k : ℕ) (xs ys : List X) → ((j : ℕ) → filter (λ x. nat_eq (n x) j) xs ≡ filter (λ x. nat_eq (n x) j) ys)
      → by_number n k xs ≡ by_number n k ys
  by_number-same zero xs ys same = refl
  by_number-same (suc k) xs ys same = rw (by_number-same k xs ys same, same (suc k)) refl

  -- the same where it is the same up to a number
  pub by_number-upto : (k : ℕ) (xs ys : List X) → ((j : ℕ) → j ≤ k → filter (λ x. nat_eq (n x) j) xs ≡ filter (λ x. nat_eq (n x) j) ys)
      → by_number n k xs ≡ by_number n k ys
  by_number-upto zero xs ys same = refl
  by_number-upto (suc k) xs ys same =
      rw (by_number-upto k xs ys (λ j le. same j (omega arith)), same (suc k) (omega arith)) refl

  pub by_number-filter : (p : X → Bool) (k : ℕ) (xs : List X) → filter p (by_number n k xs) ≡ by_number n k (filter p xs)
  by_number-filter p zero xs = refl
  by_number-filter p (suc k) xs =
      filter-append p (by_number n k xs) (filter (λ x. nat_eq (n x) (suc k)) xs)
      ∙ rw (by_number-filter p k xs, filter-filter p (λ x. nat_eq (n x) (suc k)) xs) refl

  -- none has a number up to this one
  pub by_number-above : (k : ℕ) (xs : List X) → All (λ x. k < n x) xs → by_number n k xs ≡ []
  by_number-above zero xs above = refl
  by_number-above (suc k) xs above =
      rw (by_number-above k xs (λ j d below. let more = above j d below in omega arith))
      (filter_none (λ x. nat_eq (n x) (suc k)) xs (λ j d below. ne_eqb _ _ (λ e. let more = above j d below in omega arith)))

  pub by_number-one : (k : ℕ) (x : X) → HasNumber n k x → by_number n k (x ∷ []) ≡ x ∷ []
  by_number-one zero x numbered = absurd (omega arith)
  by_number-one (suc k) x numbered =
      elim (cases_eq (n x) (suc k)) [
        | inl last ↦ rw (by_number-above k (x ∷ []) (All-cons (λ x. k < n x) x [] (omega arith) (λ j d below. absurd (omega arith))), eq-eqb _ _ last) refl
        | inr other ↦ rw (by_number-one k x (omega arith, omega arith), ne_eqb _ _ other) refl
      ]

  length-by_number_cons : (k : ℕ) (x : X) (xs : List X)
      → length (by_number n k (x ∷ xs)) ≡ length (by_number n k (x ∷ [])) + length (by_number n k xs)
  length-by_number_cons zero x xs = refl
  length-by_number_cons (suc k) x xs =
      let p : X → Bool = λ x. nat_eq (n x) (suc k) in
      let whole = length-append (by_number n k (x ∷ xs)) (filter p (x ∷ xs)) in
      let one = length-append (by_number n k (x ∷ [])) (filter p (x ∷ [])) in
      let rest = length-append (by_number n k xs) (filter p xs) in
      let parts = ap length (filter-append p (x ∷ []) xs) ∙ length-append (filter p (x ∷ [])) (filter p xs) in
      omega (arith, whole, one, rest, parts, length-by_number_cons k x xs)

  pub length-by_number : (k : ℕ) (xs : List X) → All (HasNumber n k) xs → length (by_number n k xs) ≡ length xs
  length-by_number k [] numbered = rw (by_number-nil k) refl
  length-by_number k (x ∷ xs) numbered =
      let one = ap length (by_number-one k x (All-head (HasNumber n k) x xs numbered)) in
      omega (arith, one, length-by_number_cons k x xs, length-by_number k xs (All-tail (HasNumber n k) x xs numbered))

-- what keeps the numbers
pub by_number-map : {X Y : Type 0} (n : X → ℕ) (m : Y → ℕ) (f : X → Y) → ((x : X) → m (f x) ≡ n x) → (k : ℕ) (xs : List X)
    → map f (by_number n k xs) ≡ by_number m k (map f xs)
by_number-map n m f keeps zero xs = refl
by_number-map n m f keeps (suc k) xs =
    let here : filter (λ y. nat_eq (m y) (suc k)) (map f xs) ≡ map f (filter (λ x. nat_eq (n x) (suc k)) xs) =
    filter-map (λ y. nat_eq (m y) (suc k)) f xs
    ∙ ap (map f) (filter_agree (λ x. nat_eq (m (f x)) (suc k)) (λ x. nat_eq (n x) (suc k)) (λ x. ap (λ v. nat_eq v (suc k)) (keeps x)) xs) in
    map-append f (by_number n k xs) (filter (λ x. nat_eq (n x) (suc k)) xs) ∙ rw (by_number-map n m f keeps k xs, here) refl

-- numbers that do not fall stand by number
number_first : (k x : ℕ) (xs : List ℕ) → HasNumber (λ y. y) k x → All (λ y. x ≤ y) xs
    → by_number (λ y. y) k (x ∷ xs) ≡ x ∷ by_number (λ y. y) k xs
number_first zero x xs numbered least = absurd (omega arith)
number_first (suc k) x xs numbered least =
    elim (cases_eq x (suc k)) [
      | inl last ↦
          let above : All (λ y. k < y) xs = λ j d below. let more = least j d below in omega arith in
          rw (by_number-above (λ y. y) k (x ∷ xs) (All-cons (λ y. k < y) x xs (omega arith) above), by_number-above (λ y. y) k xs above, eq-eqb _ _ last) refl
      | inr other ↦ rw (number_first k x xs (omega arith, omega arith) least, ne_eqb _ _ other) refl
    ]

pub by_number-sorted : (k : ℕ) (xs : List ℕ) → IsNonDecreasing xs → All (HasNumber (λ y. y) k) xs → by_number (λ y. y) k xs ≡ xs
by_number-sorted k [] rises numbered = by_number-nil (λ y. y) k
by_number-sorted k (x ∷ xs) rises numbered =
    let least : All (λ y. x ≤ y) xs = λ j d below. rises 0 (suc j) d (omega arith) (omega arith) in
    let tail : IsNonDecreasing xs = λ i j d le below. rises (suc i) (suc j) d (omega arith) (omega arith) in
    number_first k x xs (All-head (HasNumber (λ y. y) k) x xs numbered) least
    ∙ ap (λ ys. x ∷ ys) (by_number-sorted k xs tail (All-tail (HasNumber (λ y. y) k) x xs numbered))

-- those that are one number, and how many they are
copies : (j : ℕ) (xs : List ℕ) → filter (λ y. nat_eq y j) xs ≡ replicate (count_by (λ y. nat_eq y j) xs) j
copies j [] = refl
copies j (x ∷ xs) =
    let counted = sum_by-cons (λ y. cond {A = ℕ} (nat_eq y j) 1 0) x xs in
    elim (cases_eq x j) [
      | inl same ↦
          let one : cond {A = ℕ} (nat_eq x j) 1 0 ≡ 1 = rw (eq-eqb _ _ same) refl in
          let more : count_by (λ y. nat_eq y j) (x ∷ xs) ≡ suc (count_by (λ y. nat_eq y j) xs) = omega (arith, counted, one) in
          rw (more, eq-eqb _ _ same, copies j xs, same) refl
      | inr other ↦
          let nothing : cond {A = ℕ} (nat_eq x j) 1 0 ≡ 0 = rw (ne_eqb _ _ other) refl in
          let as_many : count_by (λ y. nat_eq y j) (x ∷ xs) ≡ count_by (λ y. nat_eq y j) xs = omega (arith, counted, nothing) in
          rw (as_many, ne_eqb _ _ other) (copies j xs)
    ]

-- a list of the same numbers in their order
pub by_number-permuted : {X : Type 0} (n : X → ℕ) (k : ℕ) (vs : List X) (xs : List ℕ) → IsPermutation (map n vs) xs → IsNonDecreasing xs
    → All (HasNumber n k) vs → xs ≡ map n (by_number n k vs)
by_number-permuted n k vs xs permuted rises numbered =
    let all : All (HasNumber (λ y. y) k) xs =
    All-permutation (HasNumber (λ y. y) k) (map n vs) xs permuted (All-map (HasNumber (λ y. y) k) n vs numbered) in
    let same : (j : ℕ) → filter (λ y. nat_eq y j) xs ≡ filter (λ y. nat_eq y j) (map n vs) = λ j.
    copies j xs
    ∙ ap (λ c. replicate c j) (sum_by-IsPermutation (λ y. cond (nat_eq y j) 1 0) (map n vs) xs permuted)
    ∙ sym (copies j (map n vs)) in
    sym (by_number-sorted k xs rises all) ∙ by_number-same (λ y. y) k xs (map n vs) same
    ∙ sym (by_number-map n (λ y. y) n (λ x. refl) k vs)

-- rising numbers, and behind them one that is greater or none
rises_more : (k : ℕ) (xs ys : List ℕ) → IsStrictlyIncreasing xs → All (λ y. y ≤ k) xs → All (λ y. y ≡ suc k) ys → length ys ≤ 1
    → IsStrictlyIncreasing (xs ++ ys)
rises_more k xs ys rises most last short j below =
    let total = length-append xs ys in
    elim (cases_lt (j + 1) (length xs)) [
      | inl inside ↦
          rw (get_or_append_left xs ys 0 j (omega arith), get_or_append_left xs ys 0 (j + 1) inside) (rises j inside)
      | inr behind ↦
          let here : get_or (xs ++ ys) j 0 ≡ get_or xs j 0 = get_or_append_left xs ys 0 j (omega arith) in
          let next : get_or (xs ++ ys) (j + 1) 0 ≡ get_or ys (j + 1 - length xs) 0 = get_or-append_right xs ys (length xs) (j + 1) 0 refl behind in
          let low : get_or xs j 0 ≤ k = most j 0 (omega arith) in
          let high : get_or ys (j + 1 - length xs) 0 ≡ suc k = last (j + 1 - length xs) 0 (omega arith) in
          omega (arith, here, next, low, high)
    ]

-- what may leave an element out, and keeps the numbers of the others
module _ {X : Type 0} (n : X → ℕ) (g : X → Option X) (keeps : (x y : X) → g x ≡ Some y → n y ≡ n x) where
  pub filter-filter_map : (j : ℕ) (xs : List X) → filter (λ x. nat_eq (n x) j) (filter_map g xs) ≡ filter_map g (filter (λ x. nat_eq (n x) j) xs)
  filter-filter_map j [] = refl
  filter-filter_map j (x ∷ xs) = by_answer (g x) refl (filter-filter_map j xs)
    where
      by_answer : (o : Option X) → g x ≡ o → filter (λ y. nat_eq (n y) j) (filter_map g xs) ≡ filter_map g (filter (λ y. nat_eq (n y) j) xs)
          → filter (λ y. nat_eq (n y) j) (filter_map g (x ∷ xs)) ≡ filter_map g (filter (λ y. nat_eq (n y) j) (x ∷ xs))
      by_answer None gone rest =
          elim (cases_Bool (nat_eq (n x) j)) [
            | inl numbered ↦ rw (gone, numbered, gone) rest
            | inr other ↦ rw (gone, other) rest
          ]
      by_answer (Some y) there rest =
          elim (cases_Bool (nat_eq (n x) j)) [
            | inl numbered ↦ rw (there, numbered, there, keeps x y there, numbered, rest) refl
            | inr other ↦ rw (there, other, keeps x y there, other) rest
          ]

  pub by_number-filter_map : (k : ℕ) (xs : List X) → filter_map g (by_number n k xs) ≡ by_number n k (filter_map g xs)
  by_number-filter_map zero xs = refl
  by_number-filter_map (suc k) xs =
      filter_map-append g (by_number n k xs) (filter (λ x. nat_eq (n x) (suc k)) xs)
      ∙ rw (by_number-filter_map k xs, filter-filter_map (suc k) xs) refl

module _ {X : Type 0} (g : X → Option X) where
  pub length-filter_map-le : (xs : List X) → length (filter_map g xs) ≤ length xs
  length-filter_map-le [] = omega arith
  length-filter_map-le (x ∷ xs) = by_answer (g x) (length-filter_map-le xs)
    where
      by_answer : (o : Option X) → length (filter_map g xs) ≤ length xs → length (cons_option o (filter_map g xs)) ≤ length (x ∷ xs)
      by_answer None rest = omega arith
      by_answer (Some y) rest = omega arith

  pub All-filter_map : (P : X → Type 0) → ((x y : X) → g x ≡ Some y → P x → P y) → (xs : List X) → All P xs → All P (filter_map g xs)
  All-filter_map P keeps [] all = all
  All-filter_map P keeps (x ∷ xs) all = by_answer (g x) refl (All-filter_map P keeps xs (All-tail P x xs all))
    where
      by_answer : (o : Option X) → g x ≡ o → All P (filter_map g xs) → All P (cons_option o (filter_map g xs))
      by_answer None gone rest = rest
      by_answer (Some y) there rest = All-cons P y (filter_map g xs) (keeps x y there (All-head P x xs all)) rest

module _ {X : Type 0} (n : X → ℕ) where
  pub All-by_number : (k : ℕ) (P : X → Type 0) (xs : List X) → All P xs → All P (by_number n k xs)
  All-by_number zero P xs all = All-nil P
  All-by_number (suc k) P xs all =
      All-append P (by_number n k xs) (filter (λ x. nat_eq (n x) (suc k)) xs) (All-by_number k P xs all) (All-filter (λ x. nat_eq (n x) (suc k)) P xs all)

  -- no number is above the last
  by_number-most : (k : ℕ) (xs : List X) → All (λ x. n x ≤ k) (by_number n k xs)
  by_number-most zero xs = All-nil (λ x. n x ≤ 0)
  by_number-most (suc k) xs =
      All-append (λ x. n x ≤ suc k) (by_number n k xs) (filter (λ x. nat_eq (n x) (suc k)) xs)
      (All-weaker (λ x. n x ≤ k) (λ x. n x ≤ suc k) (λ x h. omega arith) (by_number n k xs) (by_number-most k xs))
      (λ j d below. let same = eqb-true _ _ (filter_passes (λ x. nat_eq (n x) (suc k)) xs j d below) in omega arith)

  -- where each number stands once, they rise
  pub by_number-rises : (k : ℕ) (xs : List X) → OncePer n xs → IsStrictlyIncreasing (map n (by_number n k xs))
  by_number-rises zero xs once = λ j below. absurd (omega arith)
  by_number-rises (suc k) xs once =
      rw (map-append n (by_number n k xs) (filter (λ x. nat_eq (n x) (suc k)) xs))
      (rises_more k (map n (by_number n k xs)) (map n (filter (λ x. nat_eq (n x) (suc k)) xs)) (by_number-rises k xs once)
      (All-map (λ y. y ≤ k) n (by_number n k xs) (by_number-most k xs))
      (All-map (λ y. y ≡ suc k) n (filter (λ x. nat_eq (n x) (suc k)) xs)
      (λ j d below. eqb-true _ _ (filter_passes (λ x. nat_eq (n x) (suc k)) xs j d below)))
      (omega (arith, length-map (filter (λ x. nat_eq (n x) (suc k)) xs) n, length-filter (λ x. nat_eq (n x) (suc k)) xs, once (suc k))))
