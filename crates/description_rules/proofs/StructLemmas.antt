-- How a structure lies in memory, member by member.
use Rattle.std.proofs.Common.{◌≡◌, ℕ, suc, ◌+◌, ◌<◌, min, max, List, ◌∷◌, length, get_or, drop, ap, sym, ◌∙◌, arith, add-one, drop-cons}
use Rattle.spec_plant.specs.Listed.{Member}
use Rattle.spec_plant.specs.Trees.{TypeTree, MemberTrees, NoMember, MemberTree, shape_tree, member_trees}
use Rattle.spec_plant.specs.Sizes.{aligned, type_size, type_align, type_depth, members_end, greatest_align, greatest_depth}
use Rattle.description_rules.specs.Extents.{TypeExtent, extent_view, extent_of}
use Rattle.description_rules.specs.Known.{extent_behind, IsStructExtent}
use Rattle.description_rules.specs.declared.extents.Extent.{Extent}

pub dropped : {X : Type 0} (xs : List X) (i : ℕ) (x : X) → i < length xs → x ≡ get_or xs i x → drop i xs ≡ x ∷ drop (i + 1) xs
dropped xs i x below is = rw add-one (drop-cons xs i x below ∙ ap (λ y. y ∷ drop (suc i) xs) (sym is))

-- one more member
pub extent_behind-more : (so_far e new : Extent) (known : List TypeTree) (m : Member) (ms : List Member) → extent_view e ≡ extent_of (shape_tree known m.shape)
    → new.size ≡ aligned so_far.size (min e.align 8) + e.size → new.align ≡ max so_far.align e.align → new.depth ≡ max so_far.depth e.depth
    → extent_behind new (member_trees known ms) ≡ extent_behind so_far (member_trees known (m ∷ ms))
unfolding members_end greatest_align greatest_depth
extent_behind-more so_far e new known m ms is size align depth =
    let t = shape_tree known m.shape in
    let rest = member_trees known ms in
    let e_size : e.size ≡ type_size t = ap (λ (x : TypeExtent). x.size) is in
    let e_align : e.align ≡ type_align t = ap (λ (x : TypeExtent). x.align) is in
    let e_depth : e.depth ≡ type_depth t = ap (λ (x : TypeExtent). x.depth) is in
    let end : new.size ≡ aligned so_far.size (min (type_align t) 8) + type_size t =
    size ∙ ap (λ n. aligned so_far.size (min n 8) + e.size) e_align ∙ ap (λ n. aligned so_far.size (min (type_align t) 8) + n) e_size in
    let greatest : max new.align (greatest_align rest) ≡ max so_far.align (max (type_align t) (greatest_align rest)) = omega arith in
    let deepest : max new.depth (greatest_depth rest) ≡ max so_far.depth (max (type_depth t) (greatest_depth rest)) = omega arith in
    same_extent _ _ _ _ _ _ (ap (λ n. members_end n rest) end) greatest deepest
  where
    same_extent : (a b c d e f : ℕ) → a ≡ d → b ≡ e → c ≡ f
        → ◌≡◌ {A = TypeExtent} (record { size = a; align = b; depth = c }) (record { size = d; align = e; depth = f })
    same_extent a b c d e f p q r = cc

some_align : (ms : MemberTrees) → 0 < greatest_align ms
unfolding greatest_align
some_align NoMember = omega arith
some_align (MemberTree name type comment ms) = let rest = some_align ms in omega arith

-- all members
pub IsStructExtent-end : (so_far : Extent) (ms : MemberTrees) (size : ℕ) → 0 < so_far.align
    → extent_behind so_far NoMember ≡ extent_behind (record { size = 0; align = 1; depth = 0 }) ms
    → size ≡ aligned so_far.size so_far.align → IsStructExtent ms (record { size = size; align = so_far.align; depth = so_far.depth + 1 })
unfolding members_end greatest_align greatest_depth
IsStructExtent-end so_far ms size some whole is =
    let some_greatest = some_align ms in
    let end : so_far.size ≡ members_end 0 ms = ap (λ (x : TypeExtent). x.size) whole in
    let greatest : max so_far.align 1 ≡ max 1 (greatest_align ms) = ap (λ (x : TypeExtent). x.align) whole in
    let deepest : max so_far.depth 0 ≡ max 0 (greatest_depth ms) = ap (λ (x : TypeExtent). x.depth) whole in
    let align : so_far.align ≡ greatest_align ms = omega arith in
    record {
      size = is ∙ ap (λ n. aligned n so_far.align) end ∙ ap (aligned (members_end 0 ms)) align;
      align = align;
      depth = omega arith;
    }
