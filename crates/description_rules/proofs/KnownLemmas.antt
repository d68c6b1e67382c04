-- One more type goes behind those that are known.
use Rattle.std.proofs.Common.{◌≡◌, ℕ, suc, ◌+◌, ◌≤◌, ◌<◌, true, false, cond, ◌&&◌, nat_le, List, [], ◌∷◌, ◌++◌}
use Rattle.std.proofs.Common.{map, refl, ap, sym, ◌∙◌, arith, append_assoc, append-nil, Option, Some, None}
use Rattle.std.proofs.Common.{option_map}
use Rattle.std.specs.List.{list_all}
use Rattle.std.proofs.lemmas.Bool.{and_from, le-leb}
use Rattle.std.proofs.lemmas.List.{map-append}
use Rattle.std.proofs.lemmas.List.Folds.{list_all-append}
use Rattle.spec_plant.specs.Listed.{NamedType}
use Rattle.spec_plant.specs.Trees.{TypeTree, trees_of, trees_behind, named_tree}
use Rattle.spec_plant.specs.Sizes.{type_size, type_depth}
use Rattle.spec_rules.specs.Written.{WrittenType}
use Rattle.spec_rules.specs.Places.{first_wrong}
use Rattle.spec_rules.specs.SizeRules.{wrong_size, is_right_size, members_of}
use Rattle.spec_rules.specs.Described.{type_described, types_behind, types_described}
use Rattle.description_rules.specs.TypesLeft.{types_left}
use Rattle.description_rules.specs.Built.{are_small_members}
use Rattle.description_rules.specs.Extents.{TypeExtent, extent_view, extent_of}
use Rattle.description_rules.specs.Known.{AreKnown, is_fair}
use Rattle.description_rules.specs.declared.extents.Extent.{Extent}
use Rattle.description_rules.proofs.FirstLemmas.{place_from, place_from-suc, from_zero}

trees_behind-push : (known : List TypeTree) (ts : List NamedType) (t : NamedType)
    → trees_behind known (ts ++ t ∷ []) ≡ trees_behind known ts ++ named_tree (trees_behind known ts) t ∷ []
unfolding trees_behind
trees_behind-push known [] t = refl
trees_behind-push known (s ∷ ss) t = trees_behind-push (known ++ named_tree known s ∷ []) ss t

trees_of-push : (ts : List NamedType) (t : NamedType) → trees_of (ts ++ t ∷ []) ≡ trees_of ts ++ named_tree (trees_of ts) t ∷ []
unfolding trees_of
trees_of-push ts t = trees_behind-push [] ts t

fair_from : (e : Extent) → e.size ≤ 1048576 → e.align ≤ 8 → 0 < e.align → e.depth ≤ 16 → is_fair e ≡ true
fair_from e size align some depth =
    and_from (nat_le e.size 1048576 && nat_le e.align 8 && nat_le 1 e.align) (nat_le e.depth 16)
    (and_from (nat_le e.size 1048576 && nat_le e.align 8) (nat_le 1 e.align)
    (and_from (nat_le e.size 1048576) (nat_le e.align 8) (le-leb e.size 1048576 size) (le-leb e.align 8 align)) (le-leb 1 e.align (omega arith)))
    (le-leb e.depth 16 depth)

pub AreKnown-push : (types more : List NamedType) (extents longer : List Extent) (t : NamedType) (e : Extent) → AreKnown types extents
    → extent_view e ≡ extent_of (named_tree (trees_of types) t) → e.size ≤ 1048576 → e.align ≤ 8 → 0 < e.align → e.depth ≤ 16
    → more ≡ types ++ t ∷ [] → longer ≡ extents ++ e ∷ [] → AreKnown more longer
AreKnown-push types more extents longer t e known is size align some depth m l = record {
  same = ap (map extent_view) l ∙ map-append extent_view extents (e ∷ [])
      ∙ ap (λ (es : List TypeExtent). es ++ extent_view e ∷ []) known.same
      ∙ ap (λ (x : TypeExtent). map extent_of (trees_of types) ++ x ∷ []) is
      ∙ sym (map-append extent_of (trees_of types) (named_tree (trees_of types) t ∷ []))
      ∙ ap (map extent_of) (sym (trees_of-push types t)) ∙ ap (λ ts. map extent_of (trees_of ts)) (sym m);
  fair = ap (list_all is_fair) l ∙ list_all-append is_fair extents (e ∷ [])
      ∙ and_from (list_all is_fair extents) (is_fair e && true) known.fair (and_from (is_fair e) true (fair_from e size align some depth) refl);
}

pub is_right_size-from : (before : List NamedType) (t : NamedType) (e : Extent) → are_small_members (members_of t) ≡ true
    → extent_view e ≡ extent_of (named_tree (trees_of before) t) → e.size ≤ 1048576 → e.depth ≤ 16 → true ≡ is_right_size before t
is_right_size-from before t e small is size depth =
    let tree = named_tree (trees_of before) t in
    let e_size : e.size ≡ type_size tree = ap (λ (x : TypeExtent). x.size) is in
    let e_depth : e.depth ≡ type_depth tree = ap (λ (x : TypeExtent). x.depth) is in
    sym (and_from (are_small_members (members_of t)) (nat_le (type_size tree) 1048576 && nat_le (type_depth tree) 16) small
    (and_from (nat_le (type_size tree) 1048576) (nat_le (type_depth tree) 16)
    (le-leb (type_size tree) 1048576 (omega arith)) (le-leb (type_depth tree) 16 (omega arith))))

types_left-cons : (known : List NamedType) (w : WrittenType) (ws : List WrittenType)
    → types_left known (w ∷ ws) ≡ type_described known w ∷ types_left (known ++ type_described known w ∷ []) ws
unfolding types_left
types_left-cons known w ws = refl

-- the next type is right
pub first_wrong-right : (known more : List NamedType) (left : List WrittenType) (w : WrittenType) (ws : List WrittenType) (i : ℕ) (place : Option ℕ)
    → left ≡ w ∷ ws
    → more ≡ known ++ type_described known w ∷ [] → is_right_size known (type_described known w) ≡ true
    → place ≡ place_from i (first_wrong is_right_size known (types_left known left))
    → place ≡ place_from (i + 1) (first_wrong is_right_size more (types_left more ws))
first_wrong-right known more left w ws i place l m right so_far =
    so_far ∙ ap (λ ts. place_from i (first_wrong is_right_size known (types_left known ts))) l
    ∙ ap (λ ts. place_from i (first_wrong is_right_size known ts)) (types_left-cons known w ws)
    ∙ ap (λ b. place_from i
    (cond b (option_map suc (first_wrong is_right_size (known ++ type_described known w ∷ []) (types_left (known ++ type_described known w ∷ []) ws)))
    (Some 0))) right
    ∙ place_from-suc i (first_wrong is_right_size (known ++ type_described known w ∷ []) (types_left (known ++ type_described known w ∷ []) ws))
    ∙ ap (λ ts. place_from (i + 1) (first_wrong is_right_size ts (types_left ts ws))) (sym m)

-- the next type is wrong
pub first_wrong-wrong : (known : List NamedType) (left : List WrittenType) (w : WrittenType) (ws : List WrittenType) (i : ℕ) (place : Option ℕ) → left ≡ w ∷ ws
    → is_right_size known (type_described known w) ≡ false → place ≡ place_from i (first_wrong is_right_size known (types_left known left)) → place ≡ Some i
first_wrong-wrong known left w ws i place l wrong so_far =
    so_far ∙ ap (λ ts. place_from i (first_wrong is_right_size known (types_left known ts))) l
    ∙ ap (λ ts. place_from i (first_wrong is_right_size known ts)) (types_left-cons known w ws)
    ∙ ap (λ b. place_from i
    (cond b (option_map suc (first_wrong is_right_size (known ++ type_described known w ∷ []) (types_left (known ++ type_described known w ∷ []) ws)))
    (Some 0))) wrong
    ∙ ap Some (omega arith)

-- the types so far and those that are left, after one more
pub types_left-more : (known more : List NamedType) (left : List WrittenType) (w : WrittenType) (ws : List WrittenType) (all : List NamedType) → left ≡ w ∷ ws
    → more ≡ known ++ type_described known w ∷ [] → all ≡ known ++ types_left known left → all ≡ more ++ types_left more ws
types_left-more known more left w ws all l m so_far =
    let d = type_described known w in
    so_far ∙ ap (λ ts. known ++ types_left known ts) l ∙ ap (λ ts. known ++ ts) (types_left-cons known w ws)
    ∙ sym (append_assoc known (d ∷ []) (types_left (known ++ d ∷ []) ws)) ∙ ap (λ ts. ts ++ types_left ts ws) (sym m)

pub AreKnown-none : AreKnown [] []
unfolding trees_of trees_behind
AreKnown-none = record { same = refl; fair = refl }

types_behind-left : (known : List NamedType) (ws : List WrittenType) → types_behind known ws ≡ known ++ types_left known ws
unfolding types_behind types_left
types_behind-left known [] = sym (append-nil known)
types_behind-left known (w ∷ ws) =
    let d = type_described known w in
    types_behind-left (known ++ d ∷ []) ws ∙ append_assoc known (d ∷ []) (types_left (known ++ d ∷ []) ws)

-- before the first type
pub types_described-left : (ws : List WrittenType) → types_described ws ≡ types_left [] ws
types_described-left ws = types_behind-left [] ws

pub wrong_size-start : (ws : List WrittenType) → wrong_size (types_described ws) ≡ place_from 0 (first_wrong is_right_size [] (types_left [] ws))
unfolding wrong_size
wrong_size-start ws = ap wrong_size (types_described-left ws) ∙ from_zero (first_wrong is_right_size [] (types_left [] ws))

types_left-none : (known : List NamedType) → types_left known [] ≡ []
unfolding types_left
types_left-none known = refl

-- behind the last type
pub known-end : (known : List NamedType) (left : List WrittenType) (i : ℕ) (place : Option ℕ) (all : List NamedType) → left ≡ []
    → place ≡ place_from i (first_wrong is_right_size known (types_left known left)) → all ≡ known ++ types_left known left → (place ≡ None) × (known ≡ all)
known-end known left i place all none wrong built =
    let rest : types_left known left ≡ [] = ap (types_left known) none ∙ types_left-none known in
    (wrong ∙ ap (λ ts. place_from i (first_wrong is_right_size known ts)) rest, sym (built ∙ ap (λ ts. known ++ ts) rest ∙ append-nil known))
