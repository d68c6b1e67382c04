-- Lists that are filtered, searched, and without their first.
use Rattle.std.proofs.Common.{◌≡◌, ℕ, zero, suc, ◌<◌, ◌≤◌, ◌⊎◌, List, [], ◌∷◌, ◌++◌, length, map, get_or, Bool}
use Rattle.std.proofs.Common.{true, false, cond, refl, sym, ap, ◌∙◌, subst, inl, inr, arith}
use Rattle.std.specs.Prelude.{filter, find, drop, remove, position, nat_lt, ◌&&◌, Option, Some, None, option_map}
use Rattle.std.specs.List.{position_or_len}
use Rattle.std.proofs.lemmas.Bool.{cases_Bool, cond-true, cond-false, true≢false, ltb-false}
use Rattle.std.proofs.lemmas.List.Folds.{find_at}
use Rattle.std.proofs.lemmas.List.Quantifiers.{position-Some}
use Rattle.std.proofs.lemmas.Option.{slice_get_past}
use Rattle.spec_relay.specs.RelayState.{Request}
use Rattle.spec_relay.specs.Requests.{without_first}

-- a value is in a list
abbrev pub Among : {A : Type 0} → A → List A → Type 0
Among x [] = ⊥
Among x (y ∷ ys) = (y ≡ x) ⊎ Among x ys

module _ {A : Type 0} where
  pub filter-yes : (P : A → Bool) (x : A) (xs : List A) → P x ≡ true → filter P (x ∷ xs) ≡ x ∷ filter P xs
  filter-yes P x xs e = cond-true (P x) (x ∷ filter P xs) (filter P xs) e

  pub filter-no : (P : A → Bool) (x : A) (xs : List A) → P x ≡ false → filter P (x ∷ xs) ≡ filter P xs
  filter-no P x xs e = cond-false (P x) (x ∷ filter P xs) (filter P xs) e

  pub among-filtered : (P : A → Bool) (x : A) (xs : List A) → Among x xs → P x ≡ true → Among x (filter P xs)
  among-filtered P x [] among passes = absurd among
  among-filtered P x (y ∷ ys) (inl e) passes = subst (Among x) (sym (filter-yes P y ys (ap P e ∙ passes))) (inl e)
  among-filtered P x (y ∷ ys) (inr among) passes =
      let rest = among-filtered P x ys among passes in
      elim (cases_Bool (P y)) [
        | inl t ↦ subst (Among x) (sym (filter-yes P y ys t)) (inr rest)
        | inr t ↦ subst (Among x) (sym (filter-no P y ys t)) rest
      ]

  pub filtered-among : (P : A → Bool) (x : A) (xs : List A) → Among x (filter P xs) → Among x xs × (P x ≡ true)
  filtered-among P x [] among = absurd among
  filtered-among P x (y ∷ ys) among = elim (cases_Bool (P y)) [
    | inl t ↦ elim (subst (Among x) (filter-yes P y ys t) among) [
      | inl e ↦ (inl e, sym (ap P e) ∙ t)
      | inr later ↦ let rest = filtered-among P x ys later in (inr rest.0, rest.1)
    ]
    | inr t ↦ let rest = filtered-among P x ys (subst (Among x) (filter-no P y ys t) among) in (inr rest.0, rest.1)
  ]

  -- a list from which a filter takes nothing
  pub all-pass : (P : A → Bool) (xs : List A) → filter P xs ≡ xs → (x : A) → Among x xs → P x ≡ true
  all-pass P xs same x among = (filtered-among P x xs (subst (Among x) (sym same) among)).1

  pub filter-all : (P : A → Bool) (xs : List A) → ((x : A) → Among x xs → P x ≡ true) → filter P xs ≡ xs
  filter-all P [] all = refl
  filter-all P (x ∷ xs) all = filter-yes P x xs (all x (inl refl)) ∙ ap (λ ys. x ∷ ys) (filter-all P xs (λ y among. all y (inr among)))

  pub filter-append : (P : A → Bool) (xs ys : List A) → filter P (xs ++ ys) ≡ filter P xs ++ filter P ys
  filter-append P [] ys = refl
  filter-append P (x ∷ xs) ys = elim (cases_Bool (P x)) [
    | inl t ↦ filter-yes P x (xs ++ ys) t ∙ ap (λ zs. x ∷ zs) (filter-append P xs ys) ∙ ap (λ zs. zs ++ filter P ys) (sym (filter-yes P x xs t))
    | inr t ↦ filter-no P x (xs ++ ys) t ∙ filter-append P xs ys ∙ ap (λ zs. zs ++ filter P ys) (sym (filter-no P x xs t))
  ]

  -- of two filters the finer one is enough
  pub filter-finer : (P Q : A → Bool) (xs : List A) → ((x : A) → Among x xs → P x ≡ true → Q x ≡ true) → filter P (filter Q xs) ≡ filter P xs
  filter-finer P Q [] finer = refl
  filter-finer P Q (x ∷ xs) finer =
      let rest = filter-finer P Q xs (λ y among. finer y (inr among)) in
      elim (cases_Bool (Q x)) [
        | inl q ↦ ap (filter P) (filter-yes Q x xs q) ∙ (λ i. cond (P x) (x ∷ rest i) (rest i))
        | inr q ↦
            let p : P x ≡ false = elim (cases_Bool (P x)) [ inl t ↦ absurd (true≢false (sym (finer x (inl refl) t) ∙ q)) | inr t ↦ t ] in
            ap (filter P) (filter-no Q x xs q) ∙ rest ∙ sym (filter-no P x xs p)
      ]

  -- two filters by one of both
  pub filter-both : (P Q : A → Bool) (xs : List A) → filter P (filter Q xs) ≡ filter (λ x. P x && Q x) xs
  filter-both P Q [] = refl
  filter-both P Q (x ∷ xs) =
      let rest = filter-both P Q xs in
      elim (cases_Bool (Q x)) [
        | inl q ↦ elim (cases_Bool (P x)) [
          | inl p ↦
              let b : (P x && Q x) ≡ true = rw (p, q) refl in
              ap (filter P) (filter-yes Q x xs q) ∙ filter-yes P x (filter Q xs) p ∙ ap (λ ys. x ∷ ys) rest ∙ sym (filter-yes (λ y. P y && Q y) x xs b)
          | inr p ↦
              let b : (P x && Q x) ≡ false = rw p refl in
              ap (filter P) (filter-yes Q x xs q) ∙ filter-no P x (filter Q xs) p ∙ rest ∙ sym (filter-no (λ y. P y && Q y) x xs b)
        ]
        | inr q ↦
            let b : (P x && Q x) ≡ false = elim (cases_Bool (P x)) [ inl p ↦ rw (p, q) refl | inr p ↦ rw p refl ] in
            ap (filter P) (filter-no Q x xs q) ∙ rest ∙ sym (filter-no (λ y. P y && Q y) x xs b)
      ]

  pub length-filter : (P : A → Bool) (xs : List A) → length (filter P xs) ≤ length xs
  length-filter P [] = omega arith
  length-filter P (x ∷ xs) =
      let rest = length-filter P xs in
      elim (cases_Bool (P x)) [
        | inl t ↦ let e = ap length (filter-yes P x xs t) in omega (arith, rest, e)
        | inr t ↦ let e = ap length (filter-no P x xs t) in omega (arith, rest, e)
      ]

  -- what is found passes, and is in the list
  pub find-found : (T : A → Bool) (xs : List A) (x : A) → find T xs ≡ Some x → (T x ≡ true) × Among x xs
  find-found T [] x e = absurd (let no : ◌≡◌ {A = Option A} None (Some x) = e in cc)
  find-found T (y ∷ ys) x e = elim (cases_Bool (T y)) [
    | inl t ↦ let some : ◌≡◌ {A = Option A} (Some y) (Some x) = sym (cond-true (T y) (Some y) (find T ys) t) ∙ e in
        let same : y ≡ x = cc in (sym (ap T same) ∙ t, inl same)
    | inr t ↦ let rest = find-found T ys x (sym (cond-false (T y) (Some y) (find T ys) t) ∙ e) in (rest.0, inr rest.1)
  ]

  pub find-filter : (P T : A → Bool) (xs : List A) → ((x : A) → Among x xs → T x ≡ true → P x ≡ true) → find T (filter P xs) ≡ find T xs
  find-filter P T [] pass = refl
  find-filter P T (x ∷ xs) pass =
      let rest = find-filter P T xs (λ y among. pass y (inr among)) in
      elim (cases_Bool (P x)) [
        | inl p ↦ ap (find T) (filter-yes P x xs p) ∙ (λ i. cond (T x) (Some x) (rest i))
        | inr p ↦
            let t : T x ≡ false = elim (cases_Bool (T x)) [ inl t ↦ absurd (true≢false (sym (pass x (inl refl) t) ∙ p)) | inr t ↦ t ] in
            ap (find T) (filter-no P x xs p) ∙ rest ∙ sym (cond-false (T x) (Some x) (find T xs) t)
      ]

  -- none is found where each that passes is absurd
  pub find-none : (T : A → Bool) (xs : List A) → ((x : A) → find T xs ≡ Some x → ⊥) → find T xs ≡ None
  find-none T xs never = by (find T xs) refl
    where
      by : (o : Option A) → find T xs ≡ o → find T xs ≡ None
      by None e = e
      by (Some x) e = absurd (never x e)

-- without the first that passes
pub without-yes : (T : Request → Bool) (x : Request) (xs : List Request) → T x ≡ true → without_first T (x ∷ xs) ≡ xs
unfolding without_first
without-yes T x xs e = cond-true (T x) xs (x ∷ without_first T xs) e

pub without-no : (T : Request → Bool) (x : Request) (xs : List Request) → T x ≡ false → without_first T (x ∷ xs) ≡ x ∷ without_first T xs
unfolding without_first
without-no T x xs e = cond-false (T x) xs (x ∷ without_first T xs) e

pub without-nil : (T : Request → Bool) → without_first T [] ≡ []
unfolding without_first
without-nil T = refl

pub without-among : (T : Request → Bool) (x : Request) (xs : List Request) → Among x (without_first T xs) → Among x xs
without-among T x [] among = absurd (subst (Among x) (without-nil T) among)
without-among T x (y ∷ ys) among = elim (cases_Bool (T y)) [
  | inl t ↦ inr (subst (Among x) (without-yes T y ys t) among)
  | inr t ↦ elim (subst (Among x) (without-no T y ys t) among) [ inl e ↦ inl e | inr later ↦ inr (without-among T x ys later) ]
]

-- a filter that those pass which pass the test
pub filter-without : (P T : Request → Bool) (xs : List Request) → ((x : Request) → Among x xs → T x ≡ true → P x ≡ true)
    → filter P (without_first T xs) ≡ without_first T (filter P xs)
filter-without P T [] pass = ap (filter P) (without-nil T) ∙ sym (without-nil T)
filter-without P T (x ∷ xs) pass =
    let rest = filter-without P T xs (λ y among. pass y (inr among)) in
    elim (cases_Bool (T x)) [
      | inl t ↦
          let p = pass x (inl refl) t in
          ap (filter P) (without-yes T x xs t) ∙ sym (ap (without_first T) (filter-yes P x xs p) ∙ without-yes T x (filter P xs) t)
      | inr t ↦ elim (cases_Bool (P x)) [
        | inl p ↦
            ap (filter P) (without-no T x xs t) ∙ filter-yes P x (without_first T xs) p ∙ ap (λ ys. x ∷ ys) rest
            ∙ sym (ap (without_first T) (filter-yes P x xs p) ∙ without-no T x (filter P xs) t)
        | inr p ↦ ap (filter P) (without-no T x xs t) ∙ filter-no P x (without_first T xs) p ∙ rest ∙ sym (ap (without_first T) (filter-no P x xs p))
      ]
    ]

-- a filter that none of those pass which pass the test
pub filter-without-other : (P T : Request → Bool) (xs : List Request)
    → ((x : Request) → Among x xs → T x ≡ true → P x ≡ false) → filter P (without_first T xs) ≡ filter P xs
filter-without-other P T [] pass = ap (filter P) (without-nil T)
filter-without-other P T (x ∷ xs) pass =
    let rest = filter-without-other P T xs (λ y among. pass y (inr among)) in
    elim (cases_Bool (T x)) [
      | inl t ↦ ap (filter P) (without-yes T x xs t) ∙ sym (filter-no P x xs (pass x (inl refl) t))
      | inr t ↦ ap (filter P) (without-no T x xs t) ∙ (λ i. cond (P x) (x ∷ rest i) (rest i))
    ]

-- all pass, so the first goes
pub without-all : (T : Request → Bool) (xs : List Request) → ((x : Request) → Among x xs → T x ≡ true) → without_first T xs ≡ drop 1 xs
without-all T [] all = without-nil T
without-all T (x ∷ xs) all = without-yes T x xs (all x (inl refl))

module _ {A B : Type 0} (f : A → B) where
  pub filter-map : (P : B → Bool) (xs : List A) → filter P (map f xs) ≡ map f (filter (λ x. P (f x)) xs)
  filter-map P [] = refl
  filter-map P (x ∷ xs) =
      let rest = filter-map P xs in
      elim (cases_Bool (P (f x))) [
        | inl t ↦ filter-yes P (f x) (map f xs) t ∙ ap (λ ys. f x ∷ ys) rest ∙ ap (map f) (sym (filter-yes (λ y. P (f y)) x xs t))
        | inr t ↦ filter-no P (f x) (map f xs) t ∙ rest ∙ ap (map f) (sym (filter-no (λ y. P (f y)) x xs t))
      ]

  pub among-map : (y : B) (xs : List A) → Among y (map f xs) → (x : A) × Among x xs × (f x ≡ y)
  among-map y [] among = absurd among
  among-map y (x ∷ xs) (inl e) = (x, inl refl, e)
  among-map y (x ∷ xs) (inr among) = let rest = among-map y xs among in (rest.0, inr rest.1, rest.2)

  pub map-drop : (xs : List A) → map f (drop 1 xs) ≡ drop 1 (map f xs)
  map-drop [] = refl
  map-drop (x ∷ xs) = refl

module _ {A : Type 0} (f : A → Request) where
  -- what stands at the first place that passes
  find-at : (T : Request → Bool) (xs : List A) (i : ℕ) → i < length xs
      → ((d : A) → T (f (get_or xs i d)) ≡ true) → ((k : ℕ) (d : A) → k < i → T (f (get_or xs k d)) ≡ false)
      → (x : A) × (find T (map f xs) ≡ Some (f x)) × (map f (remove xs i) ≡ without_first T (map f xs))
  find-at T [] i below here before = absurd (omega (arith, below))
  find-at T (x ∷ xs) zero below here before =
      (x, cond-true (T (f x)) (Some (f x)) (find T (map f xs)) (here x), sym (without-yes T (f x) (map f xs) (here x)))
  find-at T (x ∷ xs) (suc i) below here before =
      let no = before 0 x (omega arith) in
      let rest = find-at T xs i (omega (arith, below)) here (λ k d less. before (suc k) d (omega (arith, less))) in (
        rest.0,
        cond-false (T (f x)) (Some (f x)) (find T (map f xs)) no ∙ rest.1,
        ap (λ ys. f x ∷ ys) rest.2 ∙ sym (without-no T (f x) (map f xs) no),
      )

  pub find-position : (T : Request → Bool) (xs : List A) (i : ℕ) → position (λ x. T (f x)) xs ≡ Some i
      → (x : A) × (find T (map f xs) ≡ Some (f x)) × (map f (remove xs i) ≡ without_first T (map f xs))
  find-position T [] i e = absurd (let no : ◌≡◌ {A = Option ℕ} None (Some i) = e in cc)
  find-position T (y ∷ ys) i e =
      let at = position-Some (λ x. T (f x)) (y ∷ ys) i in
      find-at T (y ∷ ys) i (at y e).0 (λ d. (at d e).1) (λ k d less. (at d e).2 k less)

  -- none passes
  pub find-nowhere : (T : Request → Bool) (xs : List A) → position (λ x. T (f x)) xs ≡ None → find T (map f xs) ≡ None
  find-nowhere T xs e = mapped T xs ∙ ap (option_map f) (find_at (λ x. T (f x)) xs ∙ slice_get_past xs (position_or_len (λ x. T (f x)) xs) (past xs e))
    where
      mapped : (T : Request → Bool) (xs : List A) → find T (map f xs) ≡ option_map f (find (λ x. T (f x)) xs)
      mapped T [] = refl
      mapped T (x ∷ xs) = elim (cases_Bool (T (f x))) [
        | inl t ↦ cond-true (T (f x)) (Some (f x)) (find T (map f xs)) t ∙ ap (option_map f) (sym (cond-true (T (f x)) (Some x) (find (λ y. T (f y)) xs) t))
        | inr t ↦ cond-false (T (f x)) (Some (f x)) (find T (map f xs)) t ∙ mapped T xs
            ∙ ap (option_map f) (sym (cond-false (T (f x)) (Some x) (find (λ y. T (f y)) xs) t))
      ]

      past : (ys : List A) → position (λ x. T (f x)) ys ≡ None → length ys ≤ position_or_len (λ x. T (f x)) ys
      past ys none = elim (cases_Bool (nat_lt (position_or_len (λ x. T (f x)) ys) (length ys))) [
        | inl t ↦ absurd (let some = sym
            (cond-true (nat_lt (position_or_len (λ x. T (f x)) ys) (length ys)) (Some (position_or_len (λ x. T (f x)) ys)) None t) ∙ none in cc)
        | inr t ↦ ltb-false (position_or_len (λ x. T (f x)) ys) (length ys) t
      ]
