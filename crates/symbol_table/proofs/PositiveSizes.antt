-- Each accepted type has at least one byte.
use Rattle.std.proofs.Common.{◌≡◌, ℕ, zero, suc, ◌+◌, ◌*◌, ◌<◌, ◌≤◌, true, false, List, [], ◌∷◌, take, length, refl, arith}
use Rattle.std.specs.Prelude.{Option, Some, None, slice_get, nat_lt, ◌&&◌}
use Rattle.std.specs.List.{list_all}
use Rattle.std.specs.Option.{option_map_or}
use Rattle.std.proofs.lemmas.Bool.{and_parts, ltb-true}
use Rattle.std.proofs.Math.Nat.{le-mul_of_pos_right}
use Rattle.spec_plant.specs.Listed.{Bound, Elem, Plain, Text, Struct, Enum, Shape, One, Array, Member}
use Rattle.spec_plant.specs.Listed.{NamedType, Structure, Enumeration, is_structure, is_enumeration}
use Rattle.spec_plant.specs.Trees.{TypeTree, tree_at, trees_of, elem_tree, shape_tree, member_trees, tree_of}
use Rattle.spec_plant.specs.Sizes.{type_size, members_end, greatest_align, element_count, member_start, aligned}
use Rattle.spec_plant.specs.AcceptedTypes.{AreTypes, is_elem, is_shape, is_bound, are_bounds, is_member, is_count, elem_within}
use Rattle.spec_plant.proofs.SizeLemmas.{kind_size-bounds, members_end-le}
use Rattle.spec_plant.proofs.TypeLemmas.{stands_at, rank, good_members, member-shape, shape-elem}

mul_pos : {m n : ℕ} → 0 < m → 0 < n → 0 < m * n
mul_pos {m} {n} some other = let le = le-mul_of_pos_right m other in omega (arith, some, le)

-- an array of elements that have bytes has elements
count-positive : (bounds : List Bound) → list_all is_bound bounds ≡ true → 0 < element_count bounds
count-positive [] h = omega arith
count-positive (b ∷ bs) h =
    let parts = and_parts (is_bound b) (list_all is_bound bs) h in
    let rest = count-positive bs parts.1 in
    let some = ltb-true 0 b.count ((and_parts (nat_lt 0 b.count) _ ((and_parts _ _ parts.0).0)).0) in
    mul_pos some rest

shape-positive : (known : List TypeTree) (before : List NamedType) (s : Shape) → is_shape before s ≡ true
    → 0 < type_size (elem_tree known (elem_within s)) → 0 < type_size (shape_tree known s)
unfolding type_size
shape-positive known before (One e) h some = some
shape-positive known before (Array bounds e) h some =
    let bounds_are = (and_parts (are_bounds bounds) (is_elem before e) h).0 in
    let each = (and_parts _ (list_all is_bound bounds) bounds_are).1 in
    mul_pos (count-positive bounds each) some

-- a structure whose first member has bytes
structure-positive : (known : List TypeTree) (name : List ℕ) (m : Member) (ms : List Member) → 0 < type_size (shape_tree known m.shape)
    → 0 < aligned (members_end 0 (member_trees known (m ∷ ms))) (greatest_align (member_trees known (m ∷ ms)))
unfolding members_end
structure-positive known name m ms some =
    let rise = members_end-le (member_start 0 (shape_tree known m.shape) + type_size (shape_tree known m.shape)) (member_trees known ms) in
    omega (arith, some, rise)

-- by the place of the last type that is named
elem-positive : (types : List NamedType) → AreTypes types → (fuel : ℕ) (e : Elem)
    → rank e ≤ fuel → is_elem types e ≡ true → 0 < type_size (elem_tree (trees_of types) e)
unfolding type_size
elem-positive types a fuel (Plain k) below h = (kind_size-bounds k).0
elem-positive types a fuel (Text n) below h = omega arith
elem-positive types a zero (Struct p) below h = absurd (omega (arith, below))
elem-positive types a zero (Enum p) below h = absurd (omega (arith, below))
elem-positive types a (suc fuel) (Struct p) below h = go (λ e le named. elem-positive types a fuel e le named) (slice_get types p) refl h
  where
    member : ((e : Elem) → rank e ≤ fuel → is_elem types e ≡ true → 0 < type_size (elem_tree (trees_of types) e))
        → (name : List ℕ) (ms : List Member) → slice_get types p ≡ Some (Structure name ms)
        → 0 < type_size (tree_at (trees_of types) p)
    member earlier_ones name [] e = let parts = (stands_at types p (Structure name []) a e).parts in cc
    member earlier_ones name (m ∷ ms) e =
        let there = stands_at types p (Structure name (m ∷ ms)) a e in
        let good = good_members types p name (m ∷ ms) 0 m there.parts refl in
        let each = (and_parts (is_count (length (m ∷ ms)) && list_all (is_member (take p types)) (m ∷ ms)) _ there.parts).0 in
        let own = (and_parts (is_member (take p types) m) (list_all (is_member (take p types)) ms) ((and_parts (is_count (length (m ∷ ms))) _ each).1)).0 in
        let earlier = good.names.earlier in
        let elem = earlier_ones (elem_within m.shape) (omega (arith, earlier, below)) good.names.named in
        let shape = shape-positive (trees_of types) (take p types) m.shape (member-shape (take p types) m own) elem in
        let tree = there.tree in
        rw tree (structure-positive (trees_of types) name m ms shape)

    go : ((e : Elem) → rank e ≤ fuel → is_elem types e ≡ true → 0 < type_size (elem_tree (trees_of types) e))
        → (o : Option NamedType) → slice_get types p ≡ o → option_map_or is_structure o false ≡ true
        → 0 < type_size (tree_at (trees_of types) p)
    go earlier_ones None e f = cc
    go earlier_ones (Some (Enumeration name base values)) e f = cc
    go earlier_ones (Some (Structure name ms)) e f = member earlier_ones name ms e
elem-positive types a (suc fuel) (Enum p) below h = go (slice_get types p) refl h
  where
    go : (o : Option NamedType) → slice_get types p ≡ o → option_map_or is_enumeration o false ≡ true → 0 < type_size (tree_at (trees_of types) p)
    go None e f = cc
    go (Some (Structure name ms)) e f = cc
    go (Some (Enumeration name base values)) e f =
        let tree = (stands_at types p (Enumeration name base values) a e).tree in
        rw tree ((kind_size-bounds base).0)

pub size-positive : (types : List NamedType) (s : Shape) → AreTypes types → is_shape types s ≡ true → 0 < type_size (tree_of types s)
size-positive types s a h =
    shape-positive (trees_of types) types s h (elem-positive types a (rank (elem_within s)) (elem_within s) (omega arith) (shape-elem types s h))
