-- One more route is looked at.
use Rattle.std.proofs.Common.{◌≡◌, ℕ, ◌+◌, ◌<◌, Bool, not, ◌&&◌, List, [], ◌∷◌, ◌++◌, length, get_or, take, map, ap, sym, ◌∙◌, add-one, is_some}
use Rattle.std.proofs.Math.Seq.{take-suc}
use Rattle.std.specs.Prelude.{bytes_eq}
use Rattle.std.specs.List.{list_all}
use Rattle.std.proofs.lemmas.List.{map-append}
use Rattle.std.proofs.lemmas.List.Folds.{list_all-map}
use Rattle.spec_rules.specs.Nets.{net_of}
use Rattle.spec_rules.specs.Written.{WrittenRoute}
use Rattle.spec_rules.specs.RouteRules.{is_right_route}

abbrev net_in : WrittenRoute → List ℕ
net_in r = r.net

-- the answer about a route behind those that are noted
pub is_right_route-noted : (before : List WrittenRoute) (r : WrittenRoute) (seen : List (List ℕ)) (found : Bool)
    → seen ≡ map (λ (r : WrittenRoute). r.net) before
    → found ≡ (is_some (net_of r.net) && list_all (λ e. not (bytes_eq e r.net)) seen) → is_right_route before r ≡ found
is_right_route-noted before r seen found noted answer =
    sym (answer ∙ ap (λ (s : List (List ℕ)). is_some (net_of r.net) && list_all (λ e. not (bytes_eq e r.net)) s) noted
    ∙ ap (λ b. is_some (net_of r.net) && b) (list_all-map (λ e. not (bytes_eq e r.net)) net_in before))

-- one more NetId is noted
pub noted-more : {A : Type 0} (view : A → WrittenRoute) (xs : List A) (i : ℕ) (x : A) (seen more : List (List ℕ)) → i < length xs → x ≡ get_or xs i x
    → seen ≡ map (λ (r : WrittenRoute). r.net) (map view (take i xs)) → more ≡ seen ++ (view x).net ∷ []
    → more ≡ map (λ (r : WrittenRoute). r.net) (map view (take (i + 1) xs))
noted-more view xs i x seen more below is noted m =
    let longer : take (i + 1) xs ≡ take i xs ++ x ∷ [] =
    rw add-one (take-suc xs i x below ∙ ap (λ y. take i xs ++ y ∷ []) (sym is)) in
    m ∙ ap (λ (s : List (List ℕ)). s ++ (view x).net ∷ []) noted
    ∙ sym (ap (λ ys. map net_in (map view ys)) longer ∙ ap (map net_in) (map-append view (take i xs) (x ∷ []))
    ∙ map-append net_in (map view (take i xs)) (view x ∷ []))
