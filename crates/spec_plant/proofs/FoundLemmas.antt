-- What a name leads to lies in a symbol of the port.
use Rattle.std.proofs.Common.{◌≡◌, ℕ, zero, suc, ◌+◌, ◌≤◌, List, [], ◌∷◌, Bool, refl, subst, inl, inr, arith}
use Rattle.std.specs.Prelude.{Option, Some, None, slice_get, find, option_map, option_and_then}
use Rattle.std.proofs.lemmas.Bool.{cases_Bool}
use Rattle.name_paths.specs.Path.{Step, steps_of}
use Rattle.spec_plant.specs.Sizes.{type_size}
use Rattle.spec_plant.specs.Parts.{TypePart, part_behind}
use Rattle.spec_plant.specs.World.{PlantSymbol, symbol_size}
use Rattle.spec_plant.specs.Finding.{Found, whole_of, is_named_by, steps_behind_name, found_in_symbol, found_of_steps, without_nul, found_of}
use Rattle.spec_plant.specs.FoundLaws.{LiesInSymbol, FoundLieInSymbols}
use Rattle.spec_plant.proofs.PartLemmas.{part_behind-end}

-- what is found in a list stands in it
pub find-place : {X : Type 0} (test : X → Bool) (xs : List X) (x : X) → find test xs ≡ Some x → (n : ℕ) × (slice_get xs n ≡ Some x)
find-place test [] x e = cc
find-place test (y ∷ ys) x e =
    elim (cases_Bool (test y)) [
      | inl t ↦ (zero, rw t at e)
      | inr t ↦ let f : find test ys ≡ Some x = rw t at e in let rest = find-place test ys x f in (suc rest.0, rest.1)
    ]

pub found_lie_in_symbols : FoundLieInSymbols
unfolding found_of
found_lie_in_symbols symbols name f e = steps_go (steps_of (without_nul name)) e
  where
    placed : (s : PlantSymbol) (n : ℕ) → slice_get symbols n ≡ Some s → (steps : List Step) (o : Option TypePart) → part_behind (whole_of s) steps ≡ o
        → option_map (λ part. record { symbol = s; steps = steps; part = part }) o ≡ Some f → LiesInSymbol symbols f
    placed s n there steps None q g = cc
    placed s n there steps (Some y) q g =
        let here : Found = record { symbol = s; steps = steps; part = y } in
        let same : here ≡ f = cc in
        let l = (part_behind-end (whole_of s) steps y q).1 in
        subst (LiesInSymbol symbols) same (record { number = n; there = there; ends = omega (arith, l) })

    symbol_go : (steps : List Step) (o : Option PlantSymbol) → find (is_named_by steps) symbols ≡ o → option_and_then (found_in_symbol steps) o ≡ Some f
        → LiesInSymbol symbols f
    symbol_go steps None q g = cc
    symbol_go steps (Some s) q g =
        let at_ = find-place (is_named_by steps) symbols s q in
        placed s at_.0 at_.1 (steps_behind_name steps s) (part_behind (whole_of s) (steps_behind_name steps s)) refl g

    steps_go : (o : Option (List Step)) → option_and_then (found_of_steps symbols) o ≡ Some f → LiesInSymbol symbols f
    steps_go None g = cc
    steps_go (Some steps) g = symbol_go steps (find (is_named_by steps) symbols) refl g
