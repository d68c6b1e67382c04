-- Layouts of the first types of a list, and what the elements of types name.
use Rattle.std.proofs.Common.{◌≡◌, ℕ, zero, suc, ◌≤◌, List, [], ◌∷◌, ◌++◌, length, map, true, inl, inr, ◌⊎◌, refl, sym, ap, ◌∙◌, subst}
use Rattle.std.specs.Prelude.{Some, slice_get}
use Rattle.spec_plant.specs.Listed.{Elem, Plain, Text, Struct, Enum, Shape, One, Array, NamedType, Structure, Enumeration, is_structure, is_enumeration}
use Rattle.spec_plant.specs.Trees.{tree_at, tree_of, trees_of, elem_tree}
use Rattle.spec_plant.specs.AcceptedTypes.{AreTypes, IsSized, is_elem, elem_within}
use Rattle.spec_plant.proofs.TypeLemmas.{rank, at-below, named_there, stands_at}
use Rattle.spec_formats.specs.TypeUpload.{dimension_of, dimensions_of}
use Rattle.type_layout.specs.Spelled.{IsThere, NamesThere}
use Rattle.type_upload.specs.Layouts.{AreKnown, HasLayout, reach}
use Rattle.type_upload.specs.NextMembers.{bounds_within}
use Rattle.type_upload.specs.declared.layouts.Layout.{Layout}

pub reach-le : (e : Elem) (n : ℕ) → rank e ≤ n → reach e ≤ n
reach-le (Plain kind) n h = h
reach-le (Text m) n h = h
reach-le (Struct place) n h = h
reach-le (Enum place) n h = h

-- what a longer list has at a place
slice_get-push : {X : Type 0} (xs : List X) (x y : X) (place : ℕ) → slice_get (xs ++ x ∷ []) place ≡ Some y
    → (slice_get xs place ≡ Some y) ⊎ ((place ≡ length xs) × (y ≡ x))
slice_get-push [] x y zero e = inr (refl, cc)
slice_get-push [] x y (suc n) e = cc
slice_get-push (z ∷ zs) x y zero e = inl e
slice_get-push (z ∷ zs) x y (suc n) e =
    elim (slice_get-push zs x y n e) [
      | inl there ↦ inl there
      | inr last ↦ inr (ap suc (last.0), last.1)
    ]

pub AreKnown-push : (types : List NamedType) (known longer : List Layout) (l : Layout) → AreKnown types known
    → HasLayout (tree_at (trees_of types) (length known)) l → longer ≡ known ++ l ∷ [] → AreKnown types longer
AreKnown-push types known longer l h new e = record {
  each = λ place m got.
      elim (slice_get-push known l m place (sym (ap (λ (xs : List Layout). slice_get xs place) e) ∙ got)) [
        | inl there ↦ h.each place m there
        | inr last ↦
            let P : ℕ → Type 0 = λ n. HasLayout (tree_at (trees_of types) n) m in
            subst P (sym (last.0)) (subst (HasLayout (tree_at (trees_of types) (length known))) (sym (last.1)) new)
      ];
}

-- what an accepted type names can be written
elem_is_there : (types : List NamedType) (e : Elem) → is_elem types e ≡ true → IsThere types e
elem_is_there types (Plain kind) h = tt
elem_is_there types (Text n) h = tt
elem_is_there types (Struct place) h = at-below is_structure types place h
elem_is_there types (Enum place) h = at-below is_enumeration types place h

pub names_are_there : (types : List NamedType) (s : Shape) → IsSized types s → NamesThere types s
names_are_there types s h = elem_is_there types (elem_within s) h.named

-- a named type has no dimensions
dimensions_of-named : (types : List NamedType) (place : ℕ) (t : NamedType) → AreTypes types
    → slice_get types place ≡ Some t → dimensions_of (tree_at (trees_of types) place) ≡ []
dimensions_of-named types place (Structure name ms) a e = let there = (stands_at types place (Structure name ms) a e).tree in rw there refl
dimensions_of-named types place (Enumeration name base values) a e = let there =
    (stands_at types place (Enumeration name base values) a e).tree in rw there refl

dimensions_of-elem : (types : List NamedType) (e : Elem) → AreTypes types → is_elem types e ≡ true → dimensions_of (elem_tree (trees_of types) e) ≡ []
dimensions_of-elem types (Plain kind) a h = refl
dimensions_of-elem types (Text n) a h = refl
dimensions_of-elem types (Struct place) a h = let there = named_there is_structure types place h in dimensions_of-named types place (there.0) a (there.1)
dimensions_of-elem types (Enum place) a h = let there = named_there is_enumeration types place h in dimensions_of-named types place (there.0) a (there.1)

pub dimensions_of-shape : (types : List NamedType) (s : Shape) → AreTypes types
    → IsSized types s → map dimension_of (bounds_within s) ≡ dimensions_of (tree_of types s)
dimensions_of-shape types (One e) a h = sym (dimensions_of-elem types e a h.named)
dimensions_of-shape types (Array bounds e) a h = refl
