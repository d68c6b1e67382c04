-- That shapes are the same, where it is known which named types are, is that their trees are the same types.
use Rattle.std.proofs.Common.{◌≡◌, ℕ, zero, suc, ◌+◌, ◌<◌, ◌≤◌, min, List, [], ◌∷◌, ◌++◌, length, map, take}
use Rattle.std.proofs.Common.{true, false, refl, sym, ◌∙◌, ap, subst, arith, inl, inr}
use Rattle.std.specs.Prelude.{Bool, Option, Some, None, slice_get, bytes_eq, codes, decimal, ◌==◌, ◌&&◌, ℤ, pos, ◌+ℤ◌, ◌-ℤ◌}
use Rattle.std.specs.List.{list_all}
use Rattle.std.specs.Option.{option_map_or}
use Rattle.std.proofs.lemmas.Bool.{cases_Bool, and_parts, eq-eqb, eqb-true}
use Rattle.std.proofs.lemmas.Int.{ints}
use Rattle.std.proofs.lemmas.Slice.Eq.{bytes_eq-Decides}
use Rattle.name_paths.specs.Identifier.{lower}
use Rattle.spec_plant.specs.Plain.{Kind}
use Rattle.spec_plant.specs.Listed.{Bound, Elem, Plain, Text, Struct, Enum, Shape, One, Array, Member}
use Rattle.spec_plant.specs.Listed.{NamedType, Structure, Enumeration, is_structure, is_enumeration}
use Rattle.spec_plant.specs.Trees.{TypeTree, PlainTree, TextTree, EnumTree, ArrayTree, StructTree, tree_at}
use Rattle.spec_plant.specs.Trees.{trees_of, tree_of, elem_tree, shape_tree, member_trees}
use Rattle.spec_plant.specs.Sizes.{element_count, aligned, type_size, member_start}
use Rattle.spec_plant.specs.Spelling.{type_text, bound_text, joined_by_comma, high_of}
use Rattle.spec_plant.specs.TypeTexts.{Ends, TypeText, type_text_of}
use Rattle.spec_plant.specs.WrittenTypes.{ends_of_bound, written_type}
use Rattle.spec_plant.specs.AcceptedTypes.{AreTypes, is_elem, is_shape, is_member, are_bounds, is_same_number}
use Rattle.spec_plant.specs.SameTypes.{is_same_kind, has_same_parts, has_same_members, is_same_type}
use Rattle.spec_plant.proofs.ReadBack.{read_back}
use Rattle.spec_plant.proofs.SameSizes.{same_parts-size}
use Rattle.spec_plant.proofs.TypeLemmas.{stands_at, at-below, elem-earlier, shape-elem, member-shape}
use Rattle.type_layout.specs.SameShapes.{ArePartners, is_partner, same_elem, same_bound, same_bounds, same_shape, same_member, same_members}
use Rattle.type_layout.proofs.SameNumbers.{same_number, number_is}

-- tests joined

pub and_false : (b : Bool) → (b && false) ≡ false
and_false true = refl
and_false false = refl

false_and : (b c : Bool) → b ≡ false → (b && c) ≡ false
false_and b c e = ap (λ x. x && c) e

and_when : (b c : Bool) → (c ≡ true → b ≡ true) → c ≡ (b && c)
and_when b true h = ap (λ x. x && true) (sym (h refl))
and_when b false h = sym (and_false b)

-- bounds

bound_equal : (b c : Bound) → b.low ≡ c.low → b.count ≡ c.count → b ≡ c
bound_equal b c e f =
    let mk : ℤ → ℕ → Bound = λ l n. record { low = l; count = n } in
    ap (λ l. mk l b.count) e ∙ ap (λ n. mk c.low n) f

bounds_equal : (bs cs : List Bound) → same_bounds bs cs ≡ true → bs ≡ cs
bounds_equal [] [] e = refl
bounds_equal [] (c ∷ cs) e = cc
bounds_equal (b ∷ bs) [] e = cc
bounds_equal (b ∷ bs) (c ∷ cs) e =
    let parts = and_parts (same_bound b c) (same_bounds bs cs) e in
    let both = and_parts (is_same_number b.low c.low) (b.count == c.count) parts.0 in
    let head : b ≡ c = bound_equal b c (number_is b.low c.low both.0) (eqb-true b.count c.count both.1) in
    let rest : bs ≡ cs = bounds_equal bs cs parts.1 in
    ap (λ x. x ∷ bs) head ∙ ap (λ xs. c ∷ xs) rest

high_count : (y z : ℤ) (m n : ℕ) → y ≡ z → (y +ℤ pos m) -ℤ pos 1 ≡ (z +ℤ pos n) -ℤ pos 1 → m ≡ n
high_count y z m n e f = omega (arith, ints)

ends_same : (bs cs : List Bound) → map ends_of_bound bs ≡ map ends_of_bound cs → same_bounds bs cs ≡ true
ends_same [] [] e = refl
ends_same [] (c ∷ cs) e = cc
ends_same (b ∷ bs) [] e = cc
ends_same (b ∷ bs) (c ∷ cs) e =
    let head : ends_of_bound b ≡ ends_of_bound c = cc in
    let rest : map ends_of_bound bs ≡ map ends_of_bound cs = cc in
    let low : b.low ≡ c.low = ap (λ (x : Ends). x.low) head in
    let high : high_of b ≡ high_of c = ap (λ (x : Ends). x.high) head in
    let number = same_number b.low c.low low in
    let count = eq-eqb b.count c.count (high_count b.low c.low b.count c.count low high) in
    rw (number, count, ends_same bs cs rest) refl

-- types of two kinds

abbrev tag : TypeTree → ℕ
tag (PlainTree k) = 0
tag (TextTree n) = 1
tag (EnumTree name k) = 2
tag (ArrayTree bs t) = 3
tag (StructTree name ms) = 4

parts_differ : (t u : TypeTree) → (tag t == tag u) ≡ false → has_same_parts t u ≡ false
unfolding has_same_parts
parts_differ (PlainTree k) (PlainTree l) e = cc
parts_differ (TextTree m) (TextTree n) e = cc
parts_differ (EnumTree n k) (EnumTree m l) e = cc
parts_differ (ArrayTree bs t) (ArrayTree cs u) e = cc
parts_differ (StructTree n ms) (StructTree m ns) e = cc
parts_differ t u e = refl

differ : (t u : TypeTree) (x y : ℕ) → tag t ≡ x → tag u ≡ y → (x == y) ≡ false → is_same_type t u ≡ false
differ t u x y e f h =
    let apart : (tag t == tag u) ≡ false = ap (λ n. n == tag u) e ∙ ap (λ n. x == n) f ∙ h in
    ap (λ b. bytes_eq (type_text t) (type_text u) && b) (parts_differ t u apart) ∙ and_false (bytes_eq (type_text t) (type_text u))

abbrev elem_tag : Elem → ℕ
elem_tag (Plain k) = 0
elem_tag (Text n) = 1
elem_tag (Struct p) = 4
elem_tag (Enum p) = 2

struct_tag : (types : List NamedType) (p : ℕ) (o : Option NamedType) → AreTypes types
    → slice_get types p ≡ o → option_map_or is_structure o false ≡ true → tag (tree_at (trees_of types) p) ≡ 4
struct_tag types p None a e h = cc
struct_tag types p (Some (Structure n ms)) a e h = ap tag (stands_at types p (Structure n ms) a e).tree
struct_tag types p (Some (Enumeration n k vs)) a e h = cc

enum_tag : (types : List NamedType) (p : ℕ) (o : Option NamedType) → AreTypes types → slice_get types p ≡ o
    → option_map_or is_enumeration o false ≡ true → tag (tree_at (trees_of types) p) ≡ 2
enum_tag types p None a e h = cc
enum_tag types p (Some (Structure n ms)) a e h = cc
enum_tag types p (Some (Enumeration n k vs)) a e h = ap tag (stands_at types p (Enumeration n k vs) a e).tree

tag_elem : (types : List NamedType) (e : Elem) → AreTypes types → is_elem types e ≡ true → tag (elem_tree (trees_of types) e) ≡ elem_tag e
tag_elem types (Plain k) a h = refl
tag_elem types (Text n) a h = refl
tag_elem types (Struct p) a h = struct_tag types p (slice_get types p) a refl h
tag_elem types (Enum p) a h = enum_tag types p (slice_get types p) a refl h

no_array : (e : Elem) → (elem_tag e == 3) ≡ false
no_array (Plain k) = refl
no_array (Text n) = refl
no_array (Struct p) = refl
no_array (Enum p) = refl

array_none : (e : Elem) → (3 == elem_tag e) ≡ false
array_none (Plain k) = refl
array_none (Text n) = refl
array_none (Struct p) = refl
array_none (Enum p) = refl

-- texts with the same beginning
begins_same : (p x y : List ℕ) → bytes_eq (p ++ x) (p ++ y) ≡ bytes_eq x y
begins_same [] x y = refl
begins_same (c ∷ p) x y = ap (λ b. b && bytes_eq (p ++ x) (p ++ y)) (eq-eqb c c refl) ∙ begins_same p x y

abbrev array_text : List Bound → List ℕ → List ℕ
array_text bounds element = codes "ARRAY [" ++ joined_by_comma (map bound_text bounds) ++ codes "] OF " ++ element

alike : (bs : List Bound) (t u : TypeTree) → (bytes_eq (type_text t) (type_text u) && has_same_parts t u) ≡ is_same_type (ArrayTree bs t) (ArrayTree bs u)
unfolding type_text has_same_parts
alike bs t u =
    let texts : bytes_eq (array_text bs (type_text t)) (array_text bs (type_text u)) ≡ bytes_eq (type_text t) (type_text u)
    = begins_same (codes "ARRAY [" ++ joined_by_comma (map bound_text bs) ++ codes "] OF ") (type_text t) (type_text u) in
    let count : (element_count bs == element_count bs) ≡ true = eq-eqb (element_count bs) (element_count bs) refl in
    sym (ap (λ b. b && ((element_count bs == element_count bs) && has_same_parts t u)) texts
    ∙ ap (λ b. bytes_eq (type_text t) (type_text u) && (b && has_same_parts t u)) count)

arrays_alike : (bs cs : List Bound) (t u : TypeTree) → bs ≡ cs → is_same_type t u ≡ is_same_type (ArrayTree bs t) (ArrayTree cs u)
arrays_alike bs cs t u e =
    let P : List Bound → Type 0 = λ ds. is_same_type t u ≡ is_same_type (ArrayTree bs t) (ArrayTree ds u) in
    subst P e (alike bs t u)

-- arrays with other bounds have other texts
arrays_differ : (old new : List NamedType) (bs cs : List Bound) (a b : Elem) → AreTypes old → AreTypes new
    → is_shape old (Array bs a) ≡ true → is_shape new (Array cs b) ≡ true → same_bounds bs cs ≡ false
    → is_same_type (tree_of old (Array bs a)) (tree_of new (Array cs b)) ≡ false
arrays_differ old new bs cs a b ao an ha hb other =
    let x = type_text (tree_of old (Array bs a)) in
    let y = type_text (tree_of new (Array cs b)) in
    elim (cases_Bool (bytes_eq x y)) [
      | inl same ↦
          let texts : x ≡ y = (bytes_eq-Decides x y).0 same in
          let both : Some (written_type old (Array bs a)) ≡ Some (written_type new (Array cs b)) =
          sym (read_back old (Array bs a) ao ha) ∙ ap type_text_of texts ∙ read_back new (Array cs b) an hb in
          let written : written_type old (Array bs a) ≡ written_type new (Array cs b) = cc in
          let ends : map ends_of_bound bs ≡ map ends_of_bound cs = ap (λ (t : TypeText). t.ends) written in
          let clash : true ≡ false = sym (ends_same bs cs ends) ∙ other in
          cc
      | inr apart ↦ false_and (bytes_eq x y) (has_same_parts (tree_of old (Array bs a)) (tree_of new (Array cs b))) apart
    ]

-- what names types before a place names types of the list
pub shape_more : (types : List NamedType) (k : ℕ) (s : Shape) → is_shape (take k types) s ≡ true → is_shape types s ≡ true
shape_more types k (One e) h = (elem-earlier types k e h).named
shape_more types k (Array bs e) h =
    let parts = and_parts (are_bounds bs) (is_elem (take k types) e) h in
    let named = (elem-earlier types k e parts.1).named in
    rw (parts.0, named) refl

module _ (old new : List NamedType) (k : ℕ) (partners : List (Option ℕ)) (ao : AreTypes old) (an : AreTypes new) (are : ArePartners old new k partners) where
  pub same_elem-is : (a b : Elem) → is_elem (take k old) a ≡ true → is_elem new b ≡ true
      → same_elem partners a b ≡ is_same_type (elem_tree (trees_of old) a) (elem_tree (trees_of new) b)
  unfolding type_text has_same_parts
  same_elem-is (Plain x) (Plain y) ha hb = and_when (is_same_kind x y) (is_same_kind x y) (λ e. e)
  same_elem-is (Text m) (Text n) ha hb =
      let f : ℕ → List ℕ = λ n. codes "STRING(" ++ decimal n ++ codes ")" in
      and_when (bytes_eq (f m) (f n)) (m == n) (λ e. (bytes_eq-Decides (f m) (f n)).1 (ap f (eqb-true m n e)))
  same_elem-is (Struct p) (Struct q) ha hb =
      let before = (elem-earlier old k (Struct p) ha).earlier in
      are.each p q (omega (arith, before)) (at-below is_structure new q hb)
  same_elem-is (Enum p) (Enum q) ha hb =
      let before = (elem-earlier old k (Enum p) ha).earlier in
      are.each p q (omega (arith, before)) (at-below is_enumeration new q hb)
  same_elem-is a b ha hb =
      sym (differ (elem_tree (trees_of old) a) (elem_tree (trees_of new) b) (elem_tag a)
      (elem_tag b) (tag_elem old a ao (elem-earlier old k a ha).named) (tag_elem new b an hb) refl)

  pub same_shape-is : (s t : Shape) → is_shape (take k old) s ≡ true → is_shape new t ≡ true
      → same_shape partners s t ≡ is_same_type (tree_of old s) (tree_of new t)
  same_shape-is (One a) (One b) hs ht = same_elem-is a b hs ht
  same_shape-is (One a) (Array cs b) hs ht =
      sym (differ (elem_tree (trees_of old) a) (ArrayTree cs (elem_tree (trees_of new) b))
      (elem_tag a) 3 (tag_elem old a ao (elem-earlier old k a hs).named) refl (no_array a))
  same_shape-is (Array bs a) (One b) hs ht =
      sym (differ (ArrayTree bs (elem_tree (trees_of old) a)) (elem_tree (trees_of new) b) 3 (elem_tag b) refl (tag_elem new b an ht) (array_none b))
  same_shape-is (Array bs a) (Array cs b) hs ht =
      let ha = shape-elem (take k old) (Array bs a) hs in
      let hb = shape-elem new (Array cs b) ht in
      elim (cases_Bool (same_bounds bs cs)) [
        | inl same ↦
            ap (λ x. x && same_elem partners a b) same ∙ same_elem-is a b ha hb
            ∙ arrays_alike bs cs (elem_tree (trees_of old) a) (elem_tree (trees_of new) b) (bounds_equal bs cs same)
        | inr other ↦ ap (λ x. x && same_elem partners a b) other ∙ sym (arrays_differ old new bs cs a b ao an (shape_more old k (Array bs a) hs) ht other)
      ]

  -- members, when those before them end at one place
  join : (l s st y r q : Bool) → s ≡ y → y ≡ true → st ≡ true → r ≡ q → ((l && s) && r) ≡ (((l && st) && y) && q)
  join false s st y r q e f g h = refl
  join true s st y r q e f g h = rw (e, f, g, h) refl

  apart : (l s st y r q : Bool) → s ≡ y → y ≡ false → ((l && s) && r) ≡ (((l && st) && y) && q)
  apart false s st y r q e f = refl
  apart true s true y r q e f = rw (e, f) refl
  apart true s false y r q e f = rw (e, f) refl

  pub same_members-is : (at j : ℕ) (ms ns : List Member) → list_all (is_member (take k old)) ms ≡ true → list_all (is_member (take j new)) ns ≡ true
      → same_members partners ms ns ≡ has_same_members at (member_trees (trees_of old) ms) at (member_trees (trees_of new) ns)
  unfolding has_same_members
  same_members-is at j [] [] hm hn = refl
  same_members-is at j [] (n ∷ ns) hm hn = refl
  same_members-is at j (m ∷ ms) [] hm hn = refl
  same_members-is at j (m ∷ ms) (n ∷ ns) hm hn =
      let pm = and_parts (is_member (take k old) m) (list_all (is_member (take k old)) ms) hm in
      let pn = and_parts (is_member (take j new) n) (list_all (is_member (take j new)) ns) hn in
      let t = tree_of old m.shape in
      let u = tree_of new n.shape in
      let same = same_shape-is m.shape n.shape (member-shape (take k old) m pm.0) (shape_more new j n.shape (member-shape (take j new) n pn.0)) in
      let l = bytes_eq (lower m.name) (lower n.name) in
      let here = member_start at t + type_size t in
      let there = member_start at u + type_size u in
      let mt = member_trees (trees_of old) ms in
      let nt = member_trees (trees_of new) ns in
      elim (cases_Bool (is_same_type t u)) [
        | inl yes_same ↦
            let sizes = same_parts-size t u ((and_parts (bytes_eq (type_text t) (type_text u)) (has_same_parts t u) yes_same).1) in
            let starts : member_start at t ≡ member_start at u = ap (λ a. aligned at (min a 8)) sizes.align in
            let ends : here ≡ there = ap (λ a. a + type_size t) starts ∙ ap (λ a. member_start at u + a) sizes.size in
            let rest = same_members-is here j ms ns pm.1 pn.1 ∙ ap (λ b. has_same_members here mt b nt) ends in
            join l (same_shape partners m.shape n.shape) (member_start at t == member_start at u)
            (is_same_type t u) (same_members partners ms ns) (has_same_members here mt there nt)
            same yes_same (eq-eqb (member_start at t) (member_start at u) starts) rest
        | inr not_same ↦
            apart l (same_shape partners m.shape n.shape) (member_start at t == member_start at u)
            (is_same_type t u) (same_members partners ms ns) (has_same_members here mt there nt)
            same not_same
      ]
