-- One member of a structure after another: what is known of each, and where the members end.
use Rattle.std.proofs.Common.{◌≡◌, ℕ, zero, suc, ◌+◌, ◌<◌, ◌≤◌, min, max, List, [], ◌∷◌, drop, refl, ap, arith, add-one}
use Rattle.std.specs.Prelude.{Some, slice_get}
use Rattle.spec_plant.specs.Listed.{Shape, Member, NamedType, Structure}
use Rattle.spec_plant.specs.Trees.{TypeTree, MemberTrees, trees_of, tree_of, shape_tree, member_trees}
use Rattle.spec_plant.specs.Sizes.{aligned, type_align, greatest_align, type_size, members_end, member_start}
use Rattle.spec_plant.specs.AcceptedTypes.{IsSized, LIMIT, elem_within}
use Rattle.spec_plant.proofs.TypeLemmas.{StandsAt, rank, good_members}
use Rattle.spec_plant.proofs.SizeLemmas.{type_align-bounds, members_end-le}

-- no alignment is above 8
pub member_start-align : (at : ℕ) (t : TypeTree) → member_start at t ≡ aligned at (type_align t)
member_start-align at t =
    let high = (type_align-bounds t).1 in
    let same : min (type_align t) 8 ≡ type_align t = omega (arith, high) in
    rw same refl

drop-get_suc : {X : Type 0} (xs : List X) (i : ℕ) (x : X) → slice_get xs i ≡ Some x → drop i xs ≡ x ∷ drop (suc i) xs
drop-get_suc [] i x e = cc
drop-get_suc (y ∷ ys) zero x e = let same : y ≡ x = cc in ap (λ z. z ∷ ys) same
drop-get_suc (y ∷ ys) (suc i) x e = drop-get_suc ys i x e

pub drop-get : {X : Type 0} (xs : List X) (i : ℕ) (x : X) → slice_get xs i ≡ Some x → drop i xs ≡ x ∷ drop (i + 1) xs
drop-get xs i x e = rw add-one (drop-get_suc xs i x e)

-- members end within the limit
pub ends_within : (types : List NamedType) (place : ℕ) (name : List ℕ) (ms : List Member)
    → StandsAt types place (Structure name ms) → members_end 0 (member_trees (trees_of types) ms) ≤ LIMIT
unfolding type_size
ends_within types place name ms s = let small = s.small in omega (arith, small)

-- what is known at a member, when the members before it end at `end`
pub record IsTurn (types : List NamedType) (place end : ℕ) (shape : Shape) (left rest : MemberTrees) : Type 0 where
  pub sized : IsSized types shape
  pub earlier : rank (elem_within shape) ≤ place
  pub ends : member_start end (tree_of types shape) + type_size (tree_of types shape) ≤ LIMIT
  pub begins : end ≤ LIMIT
  pub low : 0 < type_align (tree_of types shape)
  pub high : type_align (tree_of types shape) ≤ 8
  pub next : members_end end left ≡ members_end (member_start end (tree_of types shape) + type_size (tree_of types shape)) rest
  pub aligns : greatest_align left ≡ max (type_align (tree_of types shape)) (greatest_align rest)

pub is_turn : (types : List NamedType) (place : ℕ) (name : List ℕ) (ms : List Member) (i : ℕ) (m : Member) (end : ℕ)
    → StandsAt types place (Structure name ms) → slice_get ms i ≡ Some m
    → members_end 0 (member_trees (trees_of types) ms) ≡ members_end end (member_trees (trees_of types) (drop i ms))
    → IsTurn types place end m.shape (member_trees (trees_of types) (drop i ms)) (member_trees (trees_of types) (drop (i + 1) ms))
unfolding members_end greatest_align
is_turn types place name ms i m end s e h =
    let known = trees_of types in
    let tree = shape_tree known m.shape in
    let rest = member_trees known (drop (i + 1) ms) in
    let good = good_members types place name ms i m s.parts e in
    let whole = ends_within types place name ms s in
    let left : drop i ms ≡ m ∷ drop (i + 1) ms = drop-get ms i m e in
    let next : members_end end (member_trees known (drop i ms)) ≡ members_end (member_start end tree + type_size tree) rest = rw left refl in
    let rise = members_end-le (member_start end tree + type_size tree) rest in
    let bounds = type_align-bounds tree in
    let ends : member_start end tree + type_size tree ≤ LIMIT = omega (arith, whole, h, next, rise) in
    record {
      sized = record { named = good.names.named; few_elements = good.few_elements; few_bytes = omega (arith, ends) };
      earlier = good.names.earlier;
      ends = ends;
      begins = omega (arith, ends);
      low = bounds.0;
      high = bounds.1;
      next = next;
      aligns = rw left refl;
    }
