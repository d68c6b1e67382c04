-- The extent at a place of a list.
use Rattle.std.proofs.Common.{◌≡◌, ℕ, true, ◌&&◌, nat_le, List, [], map, refl, ap, sym, ◌∙◌, arith, Option, Some, None, option_map, unwrap_or, slice_get}
use Rattle.std.specs.List.{list_all}
use Rattle.std.proofs.lemmas.Bool.{and_parts, leb-true}
use Rattle.std.proofs.lemmas.Option.{slice_get-map}
use Rattle.spec_plant.proofs.TypeLemmas.{list_all-get}
use Rattle.spec_plant.specs.Trees.{TypeTree, StructTree, NoMember, tree_at}
use Rattle.spec_plant.specs.Sizes.{type_size, type_align, type_depth, greatest_align, greatest_depth, members_end}
use Rattle.description_rules.specs.Extents.{TypeExtent, extent_view, extent_of}
use Rattle.description_rules.specs.Known.{IsFair, is_fair}
use Rattle.description_rules.specs.declared.extents.Extent.{Extent}

abbrev nothing_extent : TypeExtent
nothing_extent = record { size = 0; align = 1; depth = 1 }

extent_of-nothing : extent_of (StructTree [] NoMember) ≡ nothing_extent
unfolding type_size type_align type_depth greatest_align greatest_depth members_end
extent_of-nothing = refl

mapped_get : {X : Type 0} (f : X → TypeExtent) (xs : List X) (i : ℕ) → option_map f (slice_get xs i) ≡ slice_get (map f xs) i
mapped_get f xs i = sym (slice_get-map f xs i)

extent_of-unwrap_or : (o : Option TypeTree) → extent_of (unwrap_or o (StructTree [] NoMember)) ≡ unwrap_or (option_map extent_of o) nothing_extent
extent_of-unwrap_or None = extent_of-nothing
extent_of-unwrap_or (Some tree) = refl

-- what stands at a place of the extents is the extent of the tree there
pub extent_of-tree_at : (extents : List Extent) (trees : List TypeTree) (place : ℕ) (found : Option Extent) → map extent_view extents ≡ map extent_of trees
    → found ≡ slice_get extents place → unwrap_or (option_map extent_view found) nothing_extent ≡ extent_of (tree_at trees place)
extent_of-tree_at extents trees place found same e =
    let got = mapped_get extent_view extents place ∙ ap (λ (es : List TypeExtent). slice_get es place) same ∙ sym (mapped_get extent_of trees place) in
    ap (λ (o : Option Extent). unwrap_or (option_map extent_view o) nothing_extent) e ∙ ap (λ (o : Option TypeExtent). unwrap_or o nothing_extent) got
    ∙ sym (extent_of-unwrap_or (slice_get trees place))

fair_parts : (e : Extent) → is_fair e ≡ true → IsFair e
fair_parts e h =
    let one = and_parts (nat_le e.size 1048576 && nat_le e.align 8 && nat_le 1 e.align) (nat_le e.depth 16) h in
    let two = and_parts (nat_le e.size 1048576 && nat_le e.align 8) (nat_le 1 e.align) one.0 in
    let three = and_parts (nat_le e.size 1048576) (nat_le e.align 8) two.0 in
    let some = leb-true 1 e.align two.1 in
    record { size = leb-true e.size 1048576 three.0; align = leb-true e.align 8 three.1; some_align = omega arith; depth = leb-true e.depth 16 one.1 }

-- what stands at a place of fair extents is fair
pub IsFair-at : (extents : List Extent) (place : ℕ) (e : Extent) → list_all is_fair extents ≡ true → Some e ≡ slice_get extents place → IsFair e
IsFair-at extents place e fair got = fair_parts e (list_all-get is_fair extents place e fair (sym got))
