-- Rights among routes: a further route counts exactly where its NetId has none.
use Rattle.std.proofs.Common.{zero, suc, drop, ◌≡◌, ℕ, true, false, List, [], ◌∷◌, ◌++◌, map, refl, sym, ◌∙◌, ap, inl, inr}
use Rattle.std.specs.Prelude.{Option, Some, None, is_some, option_map, bytes_eq, ◌==◌, slice_get}
use Rattle.std.specs.Map.{lookup}
use Rattle.std.proofs.lemmas.Bool.{cases_Bool, eqb-true, eq-eqb}
use Rattle.std.proofs.lemmas.Slice.Eq.{bytes_eq-Decides}
use Rattle.indexmap.specs.IndexMap.{insert_entry}
use Rattle.spec_plant.specs.Description as plain
use Rattle.spec_plant.specs.Rights.{rights_of}
use Rattle.type_layout.specs.Descriptions as seen
use Rattle.type_layout.specs.declared.description.Rights.{Rights}
use Rattle.net_routes.specs.Shown.{shown, rights_in}

nat_eq-comm : (x y : ℕ) → (x == y) ≡ (y == x)
nat_eq-comm x y =
    elim (cases_Bool (x == y)) [
      | inl t ↦ let back = eq-eqb y x (sym (eqb-true x y t)) in t ∙ sym back
      | inr f ↦ elim (cases_Bool (y == x)) [
        | inl t ↦ let back = eq-eqb x y (sym (eqb-true y x t)) in cc
        | inr g ↦ f ∙ sym g
      ]
    ]

pub bytes_eq-comm : (xs ys : List ℕ) → bytes_eq xs ys ≡ bytes_eq ys xs
bytes_eq-comm [] [] = refl
bytes_eq-comm [] (y ∷ ys) = refl
bytes_eq-comm (x ∷ xs) [] = refl
bytes_eq-comm (x ∷ xs) (y ∷ ys) = rw (nat_eq-comm x y, bytes_eq-comm xs ys) refl

-- the map's look-up is that of the routes
pub rights_of-shown : (net : List ℕ) (es : List (List ℕ × Rights)) → option_map seen.rights_of (lookup (λ k. bytes_eq net k) es) ≡ rights_of net (map shown es)
rights_of-shown net [] = refl
rights_of-shown net (e ∷ es) =
    let other = bytes_eq-comm net e.0 in
    let rest = rights_of-shown net es in
    elim (cases_Bool (bytes_eq e.0 net)) [
      | inl t ↦ let s : bytes_eq net e.0 ≡ true = other ∙ t in rw (s, t) refl
      | inr t ↦ let s : bytes_eq net e.0 ≡ false = other ∙ t in rw (s, t) rest
    ]

-- a route of another NetId is passed over
rights_of-other : (n : List ℕ) (routes : List plain.Route) (r : plain.Route) → bytes_eq r.net n ≡ false → rights_of n (routes ++ r ∷ []) ≡ rights_of n routes
rights_of-other n [] r other = rw other refl
rights_of-other n (x ∷ xs) r other =
    let rest = rights_of-other n xs r other in
    elim (cases_Bool (bytes_eq x.net n)) [ inl t ↦ rw t refl | inr t ↦ rw t rest ]

bytes_eq-trans : (xs ys zs : List ℕ) → bytes_eq xs ys ≡ true → bytes_eq xs zs ≡ bytes_eq ys zs
bytes_eq-trans xs ys zs t = let same : xs ≡ ys = (bytes_eq-Decides xs ys).0 t in ap (λ v. bytes_eq v zs) same

-- where the NetId has a route, a further one changes nothing
pub rights_of-there : (routes : List plain.Route) (r : plain.Route) → is_some (rights_of r.net routes) ≡ true
    → (n : List ℕ) → rights_of n routes ≡ rights_of n (routes ++ r ∷ [])
rights_of-there [] r there n = cc
rights_of-there (x ∷ xs) r there n =
    elim (cases_Bool (bytes_eq x.net n)) [
      | inl t ↦ rw t refl
      | inr t ↦ elim (cases_Bool (bytes_eq x.net r.net)) [
        | inl s ↦
            let other : bytes_eq r.net n ≡ false = sym (bytes_eq-trans x.net r.net n s) ∙ t in
            let rest = sym (rights_of-other n xs r other) in
            rw t rest
        | inr s ↦
            let in_rest : is_some (rights_of r.net xs) ≡ true = rw s at there in
            let rest = rights_of-there xs r in_rest n in
            rw t rest
      ]
    ]

-- a further route, after routes with the same rights
pub rights_of-more : (some others : List plain.Route) (r : plain.Route) → ((n : List ℕ) → rights_of n some ≡ rights_of n others)
    → (n : List ℕ) → rights_of n (some ++ r ∷ []) ≡ rights_of n (others ++ r ∷ [])
rights_of-more some others r same n = last some ∙ ap (behind r) (same n) ∙ sym (last others)
  where
    behind : plain.Route → Option plain.Rights → Option plain.Rights
    behind r (Some x) = Some x
    behind r None = rights_of n (r ∷ [])

    last : (xs : List plain.Route) → rights_of n (xs ++ r ∷ []) ≡ behind r (rights_of n xs)
    last [] = refl
    last (x ∷ xs) = elim (cases_Bool (bytes_eq x.net n)) [ inl t ↦ rw t refl | inr t ↦ rw t (last xs) ]

-- a new key goes last
pub inserted : (key : List ℕ) (v : Rights) (es : List (List ℕ × Rights)) → rights_of key (map shown es) ≡ None
    → map shown (insert_entry (λ k l. bytes_eq k l) es key v) ≡ map shown es ++ record { net = key; rights = seen.rights_of v } ∷ []
inserted key v [] none = refl
inserted key v (e ∷ es) none =
    let other = bytes_eq-comm key e.0 in
    elim (cases_Bool (bytes_eq e.0 key)) [
      | inl t ↦ let found = rw t at none in cc
      | inr t ↦
          let s : bytes_eq key e.0 ≡ false = other ∙ t in
          let rest : rights_of key (map shown es) ≡ None = rw t at none in
          rw s (ap (λ routes. shown e ∷ routes) (inserted key v es rest))
    ]

pub is_some-option_map : {X Y : Type 0} (f : X → Y) (o : Option X) → is_some (option_map f o) ≡ is_some o
is_some-option_map f None = refl
is_some-option_map f (Some x) = refl

pub option_map-none : {X Y : Type 0} (f : X → Y) (o : Option X) → is_some o ≡ false → option_map f o ≡ None
option_map-none f None e = refl
option_map-none f (Some x) e = cc

-- a route of another machine is passed over in a walk
pub walked-past : (net : List ℕ) (routes : List plain.Route) (i : ℕ) → rights_in net (slice_get routes i) ≡ None
    → rights_of net (drop (suc i) routes) ≡ rights_of net (drop i routes)
walked-past net [] zero none = refl
walked-past net [] (suc i) none = refl
walked-past net (r ∷ rs) zero none = elim (cases_Bool (bytes_eq r.net net)) [
  | inl t ↦ absurd (let there = rw t at none in cc)
  | inr t ↦ rw t refl
]
walked-past net (r ∷ rs) (suc i) none = walked-past net rs i none

-- the route where a walk ends
pub walked-to : (net : List ℕ) (routes : List plain.Route) (i : ℕ) (x : plain.Rights)
    → rights_in net (slice_get routes i) ≡ Some x → rights_of net (drop i routes) ≡ Some x
walked-to net [] i x there = absurd (let none : ◌≡◌ {A = Option plain.Rights} None (Some x) = there in cc)
walked-to net (r ∷ rs) zero x there = elim (cases_Bool (bytes_eq r.net net)) [
  | inl t ↦ rw t (rw t at there)
  | inr t ↦ absurd (let none = rw t at there in cc)
]
walked-to net (r ∷ rs) (suc i) x there = walked-to net rs i x there
