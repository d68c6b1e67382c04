-- The texts of the entry of a part are short, since structures are nested at most 16 deep.
use Rattle.std.proofs.Common.{◌≡◌, ℕ, zero, suc, ◌+◌, ◌*◌, ◌≤◌, List, [], ◌∷◌, ◌++◌, length, map, true, refl, sym, ◌∙◌, ap, subst, arith}
use Rattle.std.specs.Prelude.{Option, Some, None, nat_le, slice_get, find, option_map, option_and_then}
use Rattle.std.specs.List.{list_all}
use Rattle.std.proofs.Math.Nat.{max-le, le-max_left, le-max_right}
use Rattle.std.proofs.lemmas.Bool.{and_parts, leb-true}
use Rattle.std.proofs.lemmas.Option.{slice_get-map}
use Rattle.name_paths.specs.Path.{Step}
use Rattle.spec_plant.specs.Listed.{Elem, Plain, Text, Struct, Enum, Shape, One, Array, Member, NamedType, Structure, Enumeration}
use Rattle.spec_plant.specs.Trees.{TypeTree, tree_at, elem_tree, shape_tree, member_trees, named_tree, trees_behind, trees_of, tree_of}
use Rattle.spec_plant.specs.Sizes.{type_size, type_depth, greatest_depth}
use Rattle.spec_plant.specs.Sound.{Each}
use Rattle.spec_plant.specs.Parts.{TypePart, part_behind}
use Rattle.spec_plant.specs.PartTexts.{name_of_found, comment_of_found}
use Rattle.spec_plant.specs.Spelling.{type_text}
use Rattle.spec_plant.specs.Description.{Port}
use Rattle.spec_plant.specs.World.{PlantSymbol, plant_symbol}
use Rattle.spec_plant.specs.Finding.{Found, whole_of, is_named_by, steps_behind_name, found_in_symbol, found_of_steps}
use Rattle.spec_plant.specs.AcceptedTypes.{AreTypes, are_types_behind, is_next_type, is_small_type, is_shape, LIMIT}
use Rattle.spec_plant.proofs.FoundLemmas.{find-place}
use Rattle.spec_laws.proofs.Footprints.{each_both}
use Rattle.spec_laws.proofs.TameTypes.{IsTame, path_len, members_path, text-short, tame-steps}
use Rattle.spec_laws.proofs.TameTrees.{trees-tame, shape-tame}
use Rattle.symbol_table.specs.Tables.{TableSymbol, SymbolTable, table_symbol, IsTableOf, IsTableWith}
use Rattle.symbol_table.proofs.PlacesInOrder.{mapped_at}
use Rattle.port_device.specs.Uploads.{has_short_texts}
use Rattle.port_device.proofs.EntryRows.{shape_accepted, short_texts_at}

-- the name of a part grows by 296 bytes a structure at most
record IsShallow (t : TypeTree) : Type 0 where
  path : path_len t ≤ 296 * type_depth t
  depth : type_depth t ≤ 16

at-shallow : (known : List TypeTree) (place : ℕ) → Each IsShallow known → IsShallow (tree_at known place)
unfolding type_depth greatest_depth
at-shallow [] place e = record { path = omega arith; depth = omega arith }
at-shallow (t ∷ ts) zero e = e.0
at-shallow (t ∷ ts) (suc n) e = at-shallow ts n (e.1)

elem-shallow : (known : List TypeTree) (x : Elem) → Each IsShallow known → IsShallow (elem_tree known x)
unfolding type_depth greatest_depth
elem-shallow known (Plain kind) e = record { path = omega arith; depth = omega arith }
elem-shallow known (Text n) e = record { path = omega arith; depth = omega arith }
elem-shallow known (Struct place) e = at-shallow known place e
elem-shallow known (Enum place) e = at-shallow known place e

shape-shallow : (known : List TypeTree) (s : Shape) → Each IsShallow known
    → (path_len (shape_tree known s) ≤ 40 + 296 * type_depth (shape_tree known s)) × (type_depth (shape_tree known s) ≤ 16)
unfolding type_depth greatest_depth
shape-shallow known (One x) e = let t = elem-shallow known x e in let p = t.path in (omega (arith, p), t.depth)
shape-shallow known (Array bounds x) e = let t = elem-shallow known x e in let p = t.path in (omega (arith, p), t.depth)

members-shallow : (known : List TypeTree) (ms : List Member) → Each IsShallow known
    → members_path (member_trees known ms) ≤ 296 + 296 * greatest_depth (member_trees known ms)
unfolding type_depth greatest_depth
members-shallow known [] e = omega arith
members-shallow known (m ∷ ms) e =
    let here = (shape-shallow known m.shape e).0 in
    let rest = members-shallow known ms e in
    let own = type_depth (shape_tree known m.shape) in
    let others = greatest_depth (member_trees known ms) in
    let l = le-max_left own others in
    let r = le-max_right own others in
    max-le (omega (arith, here, l)) (omega (arith, rest, r))

named-shallow : (known : List TypeTree) (t : NamedType) → Each IsShallow known → type_depth (named_tree known t) ≤ 16 → IsShallow (named_tree known t)
unfolding type_depth greatest_depth
named-shallow known (Structure name ms) e h = let m = members-shallow known ms e in record { path = omega (arith, m); depth = h }
named-shallow known (Enumeration name base values) e h = record { path = omega arith; depth = h }

-- one type more
trees-push : (known : List TypeTree) (before : List NamedType) (t : NamedType)
    → trees_behind known (before ++ t ∷ []) ≡ trees_behind known before ++ named_tree (trees_behind known before) t ∷ []
unfolding trees_behind
trees-push known [] t = refl
trees-push known (u ∷ before) t = trees-push (known ++ named_tree known u ∷ []) before t

behind-shallow : (ts before : List NamedType) → Each IsShallow (trees_of before) → are_types_behind before ts ≡ true
    → Each IsShallow (trees_behind (trees_of before) ts)
unfolding trees_behind trees_of
behind-shallow [] before e h = e
behind-shallow (t ∷ ts) before e h =
    let p = and_parts (is_next_type before t) (are_types_behind (before ++ t ∷ []) ts) h in
    let small : is_small_type (named_tree (trees_of before) t) ≡ true = (and_parts _ _ p.0).1 in
    let deep = and_parts (nat_le (type_size (named_tree (trees_of before) t)) LIMIT) (nat_le (type_depth (named_tree (trees_of before) t)) 16) small in
    let next = named-shallow (trees_of before) t e (leb-true (type_depth (named_tree (trees_of before) t)) 16 deep.1) in
    let push = trees-push [] before t in
    let all = each_both IsShallow (trees_of before) (named_tree (trees_of before) t ∷ []) e (next, tt) in
    let rest = behind-shallow ts (before ++ t ∷ []) (subst (Each IsShallow) (sym push) all) p.1 in
    let P : List TypeTree → Type 0 = λ known. Each IsShallow (trees_behind known ts) in
    subst P push rest

trees-shallow : (types : List NamedType) → AreTypes types → Each IsShallow (trees_of types)
unfolding trees_behind trees_of
trees-shallow types a = behind-shallow types [] tt a.each

-- what is found has a short name, type and comment
pub record IsShortFound (led : Found) : Type 0 where
  pub name : length (name_of_found led) ≤ 5287
  pub type : length (type_text led.part.type) ≤ 400
  pub comment : length (comment_of_found led) ≤ 255

part-short : (types : List NamedType) (s : TableSymbol) (p : PlantSymbol) → AreTypes types → is_shape types s.shape ≡ true → length s.name ≤ 255
    → length s.comment ≤ 255 → p.name ≡ s.name → p.comment ≡ s.comment → p.type ≡ tree_of types s.shape → (steps : List Step) (part : TypePart)
    → part_behind (whole_of p) steps ≡ Some part → IsShortFound (record { symbol = p; steps = steps; part = part })
part-short types s p a shape name comment en ec et steps part e =
    let tame = (shape-tame 296000 types (trees_of types) s.shape (trees-tame types a) shape).0 in
    let shallow = shape-shallow (trees_of types) s.shape (trees-shallow types a) in
    let own = shallow.0 in
    let deep = shallow.1 in
    let P : TypeTree → Type 0 = λ t. IsTame t × (path_len t ≤ 5032) in
    let whole = subst P (sym et) (tame, omega (arith, own, deep)) in
    let path = whole.1 in
    let t = tame-steps (whole_of p) steps p.name p.comment part 5287 whole.0
    (omega (arith, ap length en, name, path)) (omega (arith, ap length ec, comment)) e in
    record { name = t.short_name; type = text-short part.type t.tame; comment = t.short_comment }

pub found_short : (types : List NamedType) (table : SymbolTable) (port : Port) → IsTableOf types port table → list_all has_short_texts table.symbols ≡ true
    → (steps : List Step) (led : Found) → found_of_steps (map (plant_symbol types) port.symbols) steps ≡ Some led → IsShortFound led
found_short types table port is_of texts steps led e = go (find (is_named_by steps) symbols) refl e
  where
    symbols : List PlantSymbol
    symbols = map (plant_symbol types) port.symbols

    at : (n : ℕ) (p : PlantSymbol) → slice_get symbols n ≡ Some p → (behind : List Step) (o : Option TypePart) → part_behind (whole_of p) behind ≡ o
        → option_map (λ part. record { symbol = p; steps = behind; part = part }) o ≡ Some led → IsShortFound led
    at n p there behind None q f = cc
    at n p there behind (Some part) q f =
        let here : Found = record { symbol = p; steps = behind; part = part } in
        let same : here ≡ led = cc in
        let own = mapped_at (plant_symbol types) port.symbols n p there in
        let s = table_symbol types own.0 in
        let in_table : slice_get table.symbols n ≡ Some s
        = ap (λ (t : SymbolTable). slice_get t.symbols n) is_of.same
        ∙ slice_get-map (table_symbol types) port.symbols n ∙ ap (option_map (table_symbol types)) own.1 in
        let short = short_texts_at table n s texts in_table in
        let with_ : IsTableWith types table = record { port = port; is_of = is_of } in
        subst IsShortFound same (part-short types s p is_of.placed.types (shape_accepted types table n s with_ in_table) short.0 short.1
        (sym (ap (λ (x : PlantSymbol). x.name) own.2)) (sym (ap (λ (x : PlantSymbol). x.comment) own.2)) (sym (ap (λ (x : PlantSymbol). x.type) own.2))
        behind part q)

    go : (o : Option PlantSymbol) → find (is_named_by steps) symbols ≡ o → option_and_then (found_in_symbol steps) o ≡ Some led → IsShortFound led
    go None q f = cc
    go (Some p) q f =
        let there = find-place (is_named_by steps) symbols p q in
        at there.0 p there.1 (steps_behind_name steps p) (part_behind (whole_of p) (steps_behind_name steps p)) refl f
