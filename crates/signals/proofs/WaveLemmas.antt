-- The waves of a list of signals, one of which was stepped.
use Rattle.std.specs.Prelude.{◌≡◌, ℕ, zero, suc, ◌<◌, List, [], ◌∷◌, length, map, get_or, slice_get, Some, option_map, refl}
use Rattle.std.proofs.Common.{◌∙◌, ap, set, subst}
use Rattle.std.proofs.lemmas.Option.{slice_get-map, slice_get_read}
use Rattle.std.proofs.lemmas.List.{length-map}
use Rattle.signals.specs.Wave.{Wave, value_of, wave_after_step, waves_after_step}

pub slice_get-map-map : {X : Type 0} (f : X → Wave) (xs : List X) (n : ℕ) (x : X) → n < length (map f xs) → x ≡ get_or xs n x
    → slice_get (map value_of (map f xs)) n ≡ Some (value_of (f x))
slice_get-map-map f xs n x within is = slice_get-map value_of (map f xs) n ∙ (ap (option_map value_of) (slice_get-map f xs n)
    ∙ ap (λ o. option_map value_of (option_map f o)) (slice_get_read xs (length xs) n x refl (subst (λ k. n < k) (length-map xs f) within) is))

pub map-set-waves : {X : Type 0} (f : X → Wave) (xs : List X) (n : ℕ) (x y : X) → x ≡ get_or xs n x
    → f y ≡ wave_after_step (f x) → map f (set xs n y) ≡ waves_after_step n (map f xs)
map-set-waves f [] n x y is same = refl
map-set-waves f (s ∷ ss) zero x y is same = ap (λ w. w ∷ map f ss) (same ∙ ap (λ s. wave_after_step (f s)) is)
map-set-waves f (s ∷ ss) (suc n) x y is same = ap (λ ws. f s ∷ ws) (map-set-waves f ss n x y is same)
