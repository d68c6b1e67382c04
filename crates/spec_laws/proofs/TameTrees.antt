-- The trees of an accepted list of types are tame, and the name of a part grows by 296 bytes a type at most.
use Rattle.std.proofs.Common.{◌≡◌, ℕ, zero, suc, ◌+◌, ◌*◌, ◌≤◌, List, [], ◌∷◌, ◌++◌, length, true, arith}
use Rattle.std.specs.Prelude.{◌&&◌}
use Rattle.std.specs.List.{list_all}
use Rattle.std.proofs.Math.Nat.{max-le}
use Rattle.std.proofs.lemmas.Bool.{and_parts, leb-true}
use Rattle.spec_plant.specs.Listed.{Elem, Plain, Text, Struct, Enum, Shape, One, Array, Member, NamedType, Structure, Enumeration, type_name}
use Rattle.spec_plant.specs.Trees.{TypeTree, tree_at, elem_tree, shape_tree, member_trees, named_tree, trees_behind, trees_of}
use Rattle.spec_plant.specs.Spelling.{type_text}
use Rattle.spec_plant.specs.AcceptedTypes.{AreTypes, are_types_behind, is_next_type, has_parts, is_member}
use Rattle.spec_plant.specs.AcceptedTypes.{is_shape, is_elem, are_bounds, is_type_name, is_short_identifier}
use Rattle.spec_plant.specs.AcceptedTypes.{is_comment, is_small_shape, is_small_type, is_count, all_pairs}
use Rattle.spec_plant.specs.AcceptedTypes.{differ}
use Rattle.spec_plant.proofs.TextLengths.{short_name, short_type_name, short_comment, kind-short, string-short}
use Rattle.spec_laws.specs.Soundness.{Each}
use Rattle.spec_laws.proofs.Footprints.{each_both}
use Rattle.spec_laws.proofs.TameTypes.{IsTame, AreTame, path_len, members_path}

pub record IsTameTree (most : ℕ) (t : TypeTree) : Type 0 where
  pub tame : IsTame t
  pub path : path_len t ≤ most
  pub text : length (type_text t) ≤ 300

raise : (a b : ℕ) → a ≤ b → (ts : List TypeTree) → Each (IsTameTree a) ts → Each (IsTameTree b) ts
raise a b l [] e = tt
raise a b l (t ∷ ts) e = let p = (e.0).path in (record { tame = (e.0).tame; path = omega (arith, l, p); text = (e.0).text }, raise a b l ts (e.1))

at-tame : (most : ℕ) (known : List TypeTree) (place : ℕ) → Each (IsTameTree most) known → IsTameTree most (tree_at known place)
unfolding type_text
at-tame most [] place e = record { tame = (omega arith, tt); path = omega arith; text = omega arith }
at-tame most (t ∷ ts) zero e = e.0
at-tame most (t ∷ ts) (suc n) e = at-tame most ts n (e.1)

elem-tame : (most : ℕ) (before : List NamedType) (known : List TypeTree) (x : Elem)
    → Each (IsTameTree most) known → is_elem before x ≡ true → IsTameTree most (elem_tree known x)
unfolding type_text
elem-tame most before known (Plain kind) e h = let k = kind-short kind in record { tame = tt; path = omega arith; text = omega (arith, k) }
elem-tame most before known (Text n) e h =
    let l = leb-true n 65534 h in
    let t = string-short n l in
    record { tame = l; path = omega arith; text = omega (arith, t) }
elem-tame most before known (Struct place) e h = at-tame most known place e
elem-tame most before known (Enum place) e h = at-tame most known place e

pub shape-tame : (most : ℕ) (before : List NamedType) (known : List TypeTree) (s : Shape) → Each (IsTameTree most) known
    → is_shape before s ≡ true → IsTame (shape_tree known s) × (path_len (shape_tree known s) ≤ 40 + most)
shape-tame most before known (One x) e h = let t = elem-tame most before known x e h in let p = t.path in (t.tame, omega (arith, p))
shape-tame most before known (Array bounds x) e h =
    let q = and_parts (are_bounds bounds) (is_elem before x) h in
    let t = elem-tame most before known x e (q.1) in
    let p = t.path in
    ((q.0, (t.text, t.tame)), omega (arith, p))

members-tame : (most : ℕ) (before : List NamedType) (known : List TypeTree) (ms : List Member)
    → Each (IsTameTree most) known → list_all (is_member before) ms ≡ true
    → AreTame (member_trees known ms) × (members_path (member_trees known ms) ≤ 296 + most)
members-tame most before known [] e h = (tt, omega arith)
members-tame most before known (m ∷ ms) e h =
    let p = and_parts (is_member before m) (list_all (is_member before) ms) h in
    let q = and_parts (is_short_identifier m.name && is_comment m.comment && is_shape before m.shape) (is_small_shape m.shape) (p.0) in
    let r = and_parts (is_short_identifier m.name && is_comment m.comment) (is_shape before m.shape) (q.0) in
    let s = and_parts (is_short_identifier m.name) (is_comment m.comment) (r.0) in
    let here = shape-tame most before known m.shape e (r.1) in
    let rest = members-tame most before known ms e (p.1) in
    let l = here.1 in
    ((short_name m.name (s.0), (short_comment m.comment (s.1), (here.0, rest.0))), max-le (omega (arith, l)) (rest.1))

named-tame : (most : ℕ) (before : List NamedType) (known : List TypeTree) (t : NamedType) → Each (IsTameTree most) known
    → (length (type_name t) ≤ 255) → has_parts before t ≡ true → IsTameTree (296 + most) (named_tree known t)
unfolding type_text
named-tame most before known (Structure name ms) e l h =
    let p = and_parts (is_count (length ms) && list_all (is_member before) ms) (all_pairs (λ (m n : Member). differ m.name n.name) ms) h in
    let q = and_parts (is_count (length ms)) (list_all (is_member before) ms) (p.0) in
    let m = members-tame most before known ms e (q.1) in
    record { tame = (l, m.0); path = m.1; text = omega (arith, l) }
named-tame most before known (Enumeration name base values) e l h = record { tame = l; path = omega arith; text = omega (arith, l) }

next-tame : (most : ℕ) (before : List NamedType) (known : List TypeTree) (t : NamedType)
    → Each (IsTameTree most) known → is_next_type before t ≡ true → IsTameTree (296 + most) (named_tree known t)
next-tame most before known t e h =
    let p = and_parts (is_type_name (type_name t) && list_all (λ u. differ (type_name u) (type_name t)) before && has_parts before t)
    (is_small_type (named_tree (trees_of before) t)) h in
    let q = and_parts (is_type_name (type_name t) && list_all (λ u. differ (type_name u) (type_name t)) before) (has_parts before t) (p.0) in
    let r = and_parts (is_type_name (type_name t)) (list_all (λ u. differ (type_name u) (type_name t)) before) (q.0) in
    named-tame most before known t e (short_type_name (type_name t) (r.0)) (q.1)

behind-tame : (ts before : List NamedType) (known : List TypeTree) (most : ℕ) → Each (IsTameTree most) known
    → are_types_behind before ts ≡ true → Each (IsTameTree (most + 296 * length ts)) (trees_behind known ts)
unfolding trees_behind
behind-tame [] before known most e h = raise most (most + 0) (omega arith) known e
behind-tame (t ∷ ts) before known most e h =
    let p = and_parts (is_next_type before t) (are_types_behind (before ++ t ∷ []) ts) h in
    let next = next-tame most before known t e (p.0) in
    let all = each_both (IsTameTree (296 + most)) known (named_tree known t ∷ []) (raise most (296 + most) (omega arith) known e) (next, tt) in
    raise (296 + most + 296 * length ts) (most + 296 * length (t ∷ ts)) (omega arith) (trees_behind (known ++ named_tree known t ∷ []) ts)
    (behind-tame ts (before ++ t ∷ []) (known ++ named_tree known t ∷ []) (296 + most) all (p.1))

-- of at most 1,000 types
pub trees-tame : (types : List NamedType) → AreTypes types → Each (IsTameTree 296000) (trees_of types)
unfolding trees_of
trees-tame types a =
    let few = a.count in
    raise (0 + 296 * length types) 296000 (omega (arith, few)) (trees_behind [] types) (behind-tame types [] [] 0 tt a.each)
