-- The first wrong element of a mapped list.
use Rattle.std.proofs.Common.{◌≡◌, ℕ, suc, Bool, true, false, cond, ◌&&◌, List, [], ◌∷◌, ◌++◌, map, refl, ap, sym, ◌∙◌, Option, Some, None, option_map, ℤ}
use Rattle.std.proofs.Math.Path.{fun_ext}
use Rattle.std.specs.Option.{option_map_or}
use Rattle.std.specs.List.{list_all}
use Rattle.std.proofs.lemmas.List.{map-append}
use Rattle.std.proofs.lemmas.List.Folds.{list_all-map}
use Rattle.spec_plant.specs.Listed.{NamedType}
use Rattle.spec_rules.specs.Written.{WrittenSymbol, WrittenPort}
use Rattle.spec_rules.specs.Places.{first_wrong}
use Rattle.spec_rules.specs.SymbolRules.{is_right_place, is_right_signal, has_other_signal, is_signal}
use Rattle.spec_plant.specs.Accepted.{may_have_signal}
use Rattle.spec_rules.specs.Described.{sizes_described, shape_described}
use Rattle.description_rules.specs.Placed.{place_of, are_apart_places, is_placed, is_right_behind, use_of, is_right_use, is_right_number, names_other}

-- a test of mapped elements beside a test of the elements
pub first_wrong-map : {A X : Type 0} (view : A → X) (f : List X → X → Bool) (h : List A → A → Bool)
    → ((before : List A) (a : A) → f (map view before) (view a) ≡ h before a)
    → (before xs : List A) → first_wrong f (map view before) (map view xs) ≡ first_wrong h before xs
first_wrong-map view f h same before [] = refl
first_wrong-map view f h same before (a ∷ xs) =
    ap (λ b. cond b (option_map suc (first_wrong f (map view before ++ view a ∷ []) (map view xs))) (Some 0)) (same before a)
    ∙ ap (λ ys. cond (h before a) (option_map suc (first_wrong f ys (map view xs))) (Some 0)) (sym (map-append view before (a ∷ [])))
    ∙ ap (λ place. cond (h before a) (option_map suc place) (Some 0)) (first_wrong-map view f h same (before ++ a ∷ []) xs)

-- places beside symbols
pub first_wrong-places : (types : List NamedType) (p : WrittenPort) (symbols : List WrittenSymbol)
    → first_wrong is_right_behind [] (map (place_of types (sizes_described p)) symbols) ≡ first_wrong (is_right_place types p) [] symbols
first_wrong-places types p symbols =
    let view = place_of types (sizes_described p) in
    first_wrong-map view is_right_behind (is_right_place types p)
    (λ before s. ap (λ b. is_placed types (sizes_described p) s && b) (list_all-map (λ e. are_apart_places e (view s)) view before)) [] symbols

swapped : (a b c : Bool) → ((a && b) && c) ≡ ((a && c) && b)
swapped true true true = refl
swapped true true false = refl
swapped true false true = refl
swapped true false false = refl
swapped false b c = refl

same_use : (o : Option ℤ) (signal other : ℤ → Bool) (may : Bool)
    → option_map_or (λ n. option_map_or (λ m. signal m && may) o true && other n) o true ≡ option_map_or (λ n. (signal n && other n) && may) o true
same_use None signal other may = refl
same_use (Some n) signal other may = swapped (signal n) may (other n)

-- signals beside symbols
pub first_wrong-uses : (types : List NamedType) (signals : ℕ) (symbols : List WrittenSymbol)
    → first_wrong is_right_use [] (map (use_of types signals) symbols) ≡ first_wrong (is_right_signal types signals) [] symbols
first_wrong-uses types signals symbols =
    first_wrong-map (use_of types signals) is_right_use (is_right_signal types signals) same [] symbols
  where
    same : (before : List WrittenSymbol) (s : WrittenSymbol)
        → is_right_use (map (use_of types signals) before) (use_of types signals s) ≡ is_right_signal types signals before s
    same before s =
        ap (λ (other : ℤ → Bool). option_map_or (λ n. option_map_or (is_right_number types signals s.type) s.signal true && other n) s.signal true)
        (fun_ext (λ n. list_all-map (names_other n) (use_of types signals) before))
        ∙ same_use s.signal (is_signal signals) (λ n. list_all (has_other_signal n) before) (may_have_signal (shape_described types s.type))
