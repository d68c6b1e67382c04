-- Named types of two lists: which are the same is told one type after another.
use Rattle.std.proofs.Common.{◌≡◌, ℕ, zero, suc, ◌+◌, ◌<◌, ◌≤◌, List, [], ◌∷◌, ◌++◌, length, get_or, map, take}
use Rattle.std.proofs.Common.{true, false, refl, sym, ◌∙◌, ap, subst, arith, inl, inr, append-nil}
use Rattle.std.proofs.Common.{length-append}
use Rattle.std.specs.Prelude.{Bool, Option, Some, None, MatchOption, slice_get, bytes_eq, ◌==◌, ◌&&◌, not, nat_lt}
use Rattle.std.specs.List.{list_all}
use Rattle.std.specs.Option.{option_map_or}
use Rattle.std.proofs.lemmas.Bool.{cases_Bool, and_parts, eq-eqb, eqb-true, ltb-true, ltb-false}
use Rattle.std.proofs.lemmas.Bool.Decides.{nat_tests}
use Rattle.std.proofs.lemmas.List.{take_all}
use Rattle.std.proofs.lemmas.Option.{slice_get-get_or}
use Rattle.std.proofs.lemmas.Slice.Eq.{bytes_eq-Decides}
use Rattle.name_paths.specs.Identifier.{lower}
use Rattle.spec_plant.specs.Listed.{Shape, Member, NamedType, Structure, Enumeration, type_name}
use Rattle.spec_plant.specs.Trees.{TypeTree, EnumTree, StructTree, tree_at, trees_of, tree_of, named_tree, member_trees}
use Rattle.spec_plant.specs.Spelling.{type_text}
use Rattle.spec_plant.specs.AcceptedTypes.{AreTypes, are_types_behind, is_next_type, has_parts, is_member, is_shape, differ}
use Rattle.spec_plant.specs.SameTypes.{is_same_kind, has_same_parts, has_same_members, is_same_type}
use Rattle.spec_plant.proofs.TypeLemmas.{stands_at, list_all-get}
use Rattle.type_layout.specs.SameShapes.{ArePartners, HasNoPartner, IsPartnerAt, has_place, is_partner, same_shape, same_members, same_named}
use Rattle.type_layout.proofs.SameShapeLemmas.{and_false, same_shape-is, same_members-is}

-- names of an accepted list differ

all_first : {X : Type 0} (test : X → Bool) (xs : List X) (x : X) → list_all test (xs ++ x ∷ []) ≡ true → (list_all test xs ≡ true) × (test x ≡ true)
all_first test [] x h = (refl, (and_parts (test x) true h).0)
all_first test (y ∷ xs) x h =
    let parts = and_parts (test y) (list_all test (xs ++ x ∷ [])) h in
    let rest = all_first test xs x parts.1 in
    (rw (parts.0, rest.0) refl, rest.1)

next_differs : (known : List NamedType) (t : NamedType) → is_next_type known t ≡ true → list_all (λ u. differ (type_name u) (type_name t)) known ≡ true
next_differs known t h = (and_parts _ _ ((and_parts _ _ ((and_parts _ _ h).0)).0)).1

known_differ : (known ts : List NamedType) (j : ℕ) (u : NamedType) → are_types_behind known ts ≡ true
    → slice_get ts j ≡ Some u → list_all (λ t. differ (type_name t) (type_name u)) known ≡ true
known_differ known [] j u h e = cc
known_differ known (t ∷ ts) zero u h e =
    let parts = and_parts (is_next_type known t) (are_types_behind (known ++ t ∷ []) ts) h in
    let is_it : t ≡ u = cc in
    let P : NamedType → Type 0 = λ v. list_all (λ w. differ (type_name w) (type_name v)) known ≡ true in
    subst P is_it (next_differs known t parts.0)
known_differ known (t ∷ ts) (suc j) u h e =
    let parts = and_parts (is_next_type known t) (are_types_behind (known ++ t ∷ []) ts) h in
    (all_first (λ w. differ (type_name w) (type_name u)) known t (known_differ (known ++ t ∷ []) ts j u parts.1 e)).0

later_differ : (known ts : List NamedType) (i j : ℕ) (t u : NamedType) → are_types_behind known ts ≡ true
    → i < j → slice_get ts i ≡ Some t → slice_get ts j ≡ Some u → differ (type_name t) (type_name u) ≡ true
later_differ known [] i j t u h less e f = cc
later_differ known (x ∷ ts) i zero t u h less e f = absurd (omega (arith, less))
later_differ known (x ∷ ts) zero (suc j) t u h less e f =
    let parts = and_parts (is_next_type known x) (are_types_behind (known ++ x ∷ []) ts) h in
    let is_it : x ≡ t = cc in
    let P : NamedType → Type 0 = λ v. differ (type_name v) (type_name u) ≡ true in
    subst P is_it ((all_first (λ w. differ (type_name w) (type_name u)) known x (known_differ (known ++ x ∷ []) ts j u parts.1 f)).1)
later_differ known (x ∷ ts) (suc i) (suc j) t u h less e f =
    let parts = and_parts (is_next_type known x) (are_types_behind (known ++ x ∷ []) ts) h in
    later_differ (known ++ x ∷ []) ts i j t u parts.1 (omega (arith, less)) e f

differ_not : (a b : List ℕ) → differ a b ≡ true → a ≡ b → ⊥
differ_not a b h e =
    let same : bytes_eq (lower a) (lower b) ≡ true = (bytes_eq-Decides (lower a) (lower b)).1 (ap lower e) in
    let none : false ≡ true = sym (ap not same) ∙ h in
    cc

-- two places with one name are one
one_place : (types : List NamedType) (i j : ℕ) (t u : NamedType) → AreTypes types
    → slice_get types i ≡ Some t → slice_get types j ≡ Some u → type_name t ≡ type_name u → i ≡ j
one_place types i j t u a e f same =
    elim (cases_Bool (nat_lt i j)) [
      | inl less ↦ absurd (differ_not (type_name t) (type_name u) (later_differ [] types i j t u a.each (ltb-true i j less) e f) same)
      | inr most ↦ elim (cases_Bool (nat_lt j i)) [
        | inl more ↦ absurd (differ_not (type_name u) (type_name t) (later_differ [] types j i u t a.each (ltb-true j i more) f e) (sym same))
        | inr least ↦ let m = ltb-false i j most in let l = ltb-false j i least in omega (arith, m, l)
      ]
    ]

-- the same named types have one name
same_name : (partners : List (Option ℕ)) (t u : NamedType) → same_named partners t u ≡ true → type_name t ≡ type_name u
same_name partners (Structure n ms) (Structure m ns) h = (bytes_eq-Decides n m).0 ((and_parts (bytes_eq n m) (same_members partners ms ns) h).0)
same_name partners (Structure n ms) (Enumeration m l ws) h = cc
same_name partners (Enumeration n k vs) (Structure m ns) h = cc
same_name partners (Enumeration n k vs) (Enumeration m l ws) h = (bytes_eq-Decides n m).0 ((and_parts (bytes_eq n m) (is_same_kind k l) h).0)

-- the trees of named types

struct_parts : (before : List NamedType) (name : List ℕ) (ms : List Member)
    → has_parts before (Structure name ms) ≡ true → list_all (is_member before) ms ≡ true
struct_parts before name ms h = (and_parts _ _ ((and_parts _ _ h).0)).1

structures : (n m : List ℕ) (old new : List NamedType) (ms ns : List Member)
    → is_same_type (StructTree n (member_trees (trees_of old) ms)) (StructTree m (member_trees (trees_of new) ns))
    ≡ (bytes_eq n m && has_same_members 0 (member_trees (trees_of old) ms) 0 (member_trees (trees_of new) ns))
unfolding type_text has_same_parts
structures n m old new ms ns = refl

module _ (old new : List NamedType) (p : ℕ) (partners : List (Option ℕ)) (ao : AreTypes old) (an : AreTypes new) (are : ArePartners old new p partners) where
  pub same_named-is : (t u : NamedType) (q : ℕ) → slice_get old p ≡ Some t → slice_get new q ≡ Some u
      → same_named partners t u ≡ is_same_type (tree_at (trees_of old) p) (tree_at (trees_of new) q)
  unfolding type_text has_same_parts
  same_named-is (Structure n ms) (Structure m ns) q e f =
      let x = stands_at old p (Structure n ms) ao e in
      let y = stands_at new q (Structure m ns) an f in
      let members = same_members-is old new p partners ao an are 0 q ms ns (struct_parts (take p old) n ms x.parts) (struct_parts (take q new) m ns y.parts) in
      ap (λ b. bytes_eq n m && b) members ∙ sym (structures n m old new ms ns)
      ∙ ap (λ t. is_same_type t (StructTree m (member_trees (trees_of new) ns))) (sym x.tree) ∙ ap (is_same_type (tree_at (trees_of old) p)) (sym y.tree)
  same_named-is (Structure n ms) (Enumeration m l ws) q e f =
      let x = stands_at old p (Structure n ms) ao e in
      let y = stands_at new q (Enumeration m l ws) an f in
      sym (and_false (bytes_eq n m))
      ∙ ap (λ t. is_same_type t (EnumTree m l)) (sym x.tree) ∙ ap (is_same_type (tree_at (trees_of old) p)) (sym y.tree)
  same_named-is (Enumeration n k vs) (Structure m ns) q e f =
      let x = stands_at old p (Enumeration n k vs) ao e in
      let y = stands_at new q (Structure m ns) an f in
      sym (and_false (bytes_eq n m))
      ∙ ap (λ t. is_same_type t (StructTree m (member_trees (trees_of new) ns))) (sym x.tree) ∙ ap (is_same_type (tree_at (trees_of old) p)) (sym y.tree)
  same_named-is (Enumeration n k vs) (Enumeration m l ws) q e f =
      let x = stands_at old p (Enumeration n k vs) ao e in
      let y = stands_at new q (Enumeration m l ws) an f in
      ap (λ t. is_same_type t (EnumTree m l)) (sym x.tree) ∙ ap (is_same_type (tree_at (trees_of old) p)) (sym y.tree)

  -- one that has the same name, and is the same, is the only one
  partner_is : (t : NamedType) (r : Option ℕ) (q : ℕ) (u : NamedType) → slice_get old p ≡ Some t → slice_get new q ≡ Some u
      → MatchOption r (HasNoPartner partners t new) (IsPartnerAt partners t new) → has_place q r ≡ same_named partners t u
  partner_is t None q u e f none = sym (none q u f)
  partner_is t (Some place) q u e f some =
      elim (cases_Bool (place == q)) [
        | inl here ↦
            let at_q : place ≡ q = eqb-true place q here in
            let both : Some some.other ≡ Some u = sym some.there ∙ ap (slice_get new) at_q ∙ f in
            let is_it : some.other ≡ u = cc in
            here ∙ sym (ap (same_named partners t) (sym is_it) ∙ some.same)
        | inr apart ↦ apart ∙ sym (other apart)
      ]
    where
      other : (place == q) ≡ false → same_named partners t u ≡ false
      other apart =
          elim (cases_Bool (same_named partners t u)) [
            | inl both ↦
                let one = one_place new place q some.other u an some.there f (sym (same_name partners t some.other some.same) ∙ same_name partners t u both) in
                let clash : true ≡ false = sym (eq-eqb place q one) ∙ apart in
                cc
            | inr not_same ↦ not_same
          ]

-- an element of a longer list
get_front : {X : Type 0} (xs : List X) (x : X) (i : ℕ) → i < length xs → slice_get (xs ++ x ∷ []) i ≡ slice_get xs i
get_front [] x i h = absurd (omega (arith, h))
get_front (y ∷ xs) x zero h = refl
get_front (y ∷ xs) x (suc i) h = get_front xs x i (omega (arith, h))

get_last : {X : Type 0} (xs : List X) (x : X) → slice_get (xs ++ x ∷ []) (length xs) ≡ Some x
get_last [] x = refl
get_last (y ∷ xs) x = get_last xs x

-- what is told of one type more
pub partners_more : (old new : List NamedType) (p : ℕ) (partners : List (Option ℕ)) (t : NamedType) (r : Option ℕ)
    → AreTypes old → AreTypes new → ArePartners old new p partners → slice_get old p ≡ Some t
    → MatchOption r (HasNoPartner partners t new) (IsPartnerAt partners t new) → ArePartners old new (p + 1) (partners ++ r ∷ [])
partners_more old new p partners t r ao an are e told =
    let counted = are.counted in
    record {
      counted = simp length-append (omega (arith, counted));
      each = λ i q below within. each_is i q below within;
    }
  where
    each_is : (i q : ℕ) → i < p + 1 → q < length new → is_partner (partners ++ r ∷ []) i q ≡ is_same_type (tree_at (trees_of old) i) (tree_at (trees_of new) q)
    each_is i q below within =
        let counted = are.counted in
        elim (cases_Bool (nat_lt i p)) [
          | inl less ↦
              let before = ltb-true i p less in
              ap (λ o. option_map_or (has_place q) o false) (get_front partners r i (omega (arith, before, counted))) ∙ are.each i q before within
          | inr most ↦
              let least = ltb-false i p most in
              let here : i ≡ p = omega (arith, least, below) in
              let last : i ≡ length partners = omega (arith, here, counted) in
              let u = get_or new q t in
              let f = slice_get-get_or new q t within in
              ap (λ o. option_map_or (has_place q) o false) (ap (slice_get (partners ++ r ∷ [])) last ∙ get_last partners r)
              ∙ partner_is old new p partners ao an are t r q u e f told ∙ same_named-is old new p partners ao an are t u q e f
              ∙ ap (λ j. is_same_type (tree_at (trees_of old) j) (tree_at (trees_of new) q)) (sym here)
        ]

-- shapes of the whole lists
pub shapes_are : (old new : List NamedType) (partners : List (Option ℕ)) (s t : Shape) → AreTypes old
    → AreTypes new → ArePartners old new (length old) partners → is_shape old s ≡ true → is_shape new t ≡ true
    → same_shape partners s t ≡ is_same_type (tree_of old s) (tree_of new t)
shapes_are old new partners s t ao an are hs ht =
    let P : List NamedType → Type 0 = λ known. is_shape known s ≡ true in
    same_shape-is old new (length old) partners ao an are s t (subst P (sym (take_all (length old) old (omega arith))) hs) ht

pub none_yet : (old new : List NamedType) → ArePartners old new 0 []
none_yet old new = record { counted = refl; each = λ p q below within. absurd (omega (arith, below)) }
