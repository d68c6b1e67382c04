-- A test of each element, or of some element, of a mapped list.
use Rattle.std.proofs.Common.{◌≡◌, Bool, ◌||◌, List, [], ◌∷◌, map, refl, ap, ◌∙◌}
use Rattle.std.specs.List.{list_any, list_all}
use Rattle.std.proofs.lemmas.List.Folds.{list_all-map}

pub list_any-map : {X Y : Type 0} (p : X → Bool) (f : Y → X) (ys : List Y) → list_any p (map f ys) ≡ list_any (λ y. p (f y)) ys
list_any-map p f [] = refl
list_any-map p f (y ∷ ys) = ap (λ b. p (f y) || b) (list_any-map p f ys)

pub list_all-map-map : {X Y Z : Type 0} (p : X → Bool) (f : Y → X) (g : Z → Y) (zs : List Z) → list_all p (map f (map g zs)) ≡ list_all (λ z. p (f (g z))) zs
list_all-map-map p f g zs = list_all-map p f (map g zs) ∙ list_all-map (λ y. p (f y)) g zs

pub ruleset mapped = (list_all-map-map, list_all-map, list_any-map)
