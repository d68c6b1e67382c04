-- Sizes and alignments that are known of the first types of a list.
use Rattle.std.proofs.Common.{◌≡◌, ℕ, ◌+◌, ◌<◌, List, [], ◌∷◌, ◌++◌, length, get_or, map, take, true, refl, sym, ◌∙◌, ap, subst, arith}
use Rattle.std.specs.Prelude.{Some, None, slice_get, unwrap_or}
use Rattle.std.specs.Option.{option_map_or}
use Rattle.std.proofs.lemmas.List.{get_or-take, get_or-map, length-map, length-take-le, take_more, take_all}
use Rattle.std.proofs.lemmas.Option.{unwrap_or-slice_get}
use Rattle.spec_plant.specs.Listed.{NamedType, Structure, Enumeration, is_structure, is_enumeration}
use Rattle.spec_plant.specs.Trees.{TypeTree, StructTree, NoMember, tree_at, trees_of}
use Rattle.spec_plant.specs.Sizes.{type_size, type_align}
use Rattle.spec_plant.proofs.TypeLemmas.{length-trees_behind}
use Rattle.type_layout.specs.Extents.{HasExtent, AreExtents, extent_of, extents_of}
use Rattle.type_layout.specs.declared.extent.Extent.{Extent}

pub no_extents : (types : List NamedType) → AreExtents types []
no_extents types p d below = absurd (omega (arith, below))

length-trees_of : (types : List NamedType) → length (trees_of types) ≡ length types
unfolding trees_of
length-trees_of types = let h = length-trees_behind [] types in omega (arith, h)

pub length-extents_of : (types : List NamedType) → length (extents_of types) ≡ length types
length-extents_of types = length-map (trees_of types) extent_of ∙ length-trees_of types

-- the extent at a place
extent_there : (types : List NamedType) (p : ℕ) (d : Extent) → p < length types → get_or (extents_of types) p d ≡ extent_of (tree_at (trees_of types) p)
extent_there types p d below =
    let within : p < length (trees_of types) = rw length-trees_of below in
    get_or-map extent_of (trees_of types) p (StructTree [] NoMember) d within
    ∙ ap extent_of (sym (unwrap_or-slice_get (trees_of types) p (StructTree [] NoMember)))

is_extent : (tree : TypeTree) (e : Extent) → e ≡ extent_of tree → HasExtent tree e
is_extent tree e same = record { size = ap (λ (x : Extent). x.size) same; align = ap (λ (x : Extent). x.align) same }

pub from_extent : (tree : TypeTree) (e : Extent) → HasExtent tree e → e ≡ extent_of tree
from_extent tree e h =
    let mk : ℕ → ℕ → Extent = λ s a. record { size = s; align = a } in
    ap (λ s. mk s e.align) h.size ∙ ap (λ a. mk (type_size tree) a) h.align

-- the first so many
pub first_extents : (types : List NamedType) (known : List Extent) (k : ℕ) → k < length types + 1 → known ≡ take k (extents_of types) → AreExtents types known
first_extents types known k below same =
    let P : List Extent → Type 0 = λ es. AreExtents types es in
    subst P (sym same) (λ p d within.
    let count = length-extents_of types in
    let some : length (take k (extents_of types)) ≡ k = length-take-le k (extents_of types) (omega (arith, count, below)) in
    let short : p < k = omega (arith, within, some) in
    is_extent (tree_at (trees_of types) p) (get_or (take k (extents_of types)) p d)
    (get_or-take k (extents_of types) p d short ∙ extent_there types p d (omega (arith, short, below))))

pub all_extents : (types : List NamedType) (known : List Extent) → known ≡ extents_of types → AreExtents types known
all_extents types known same =
    let count = length-extents_of types in
    first_extents types known (length types) (omega arith) (same ∙ sym (take_all (length types) (extents_of types) (omega (arith, count))))

-- one more
pub extents_more : (types : List NamedType) (k : ℕ) (e : Extent) → k < length types
    → HasExtent (tree_at (trees_of types) k) e → take (k + 1) (extents_of types) ≡ take k (extents_of types) ++ e ∷ []
extents_more types k e below h =
    let count = length-extents_of types in
    take_more (extents_of types) k e (omega (arith, count, below))
    ∙ ap (λ x. take k (extents_of types) ++ x ∷ []) (extent_there types k e below ∙ sym (from_extent (tree_at (trees_of types) k) e h))
