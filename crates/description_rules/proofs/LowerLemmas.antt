-- Names that are noted in lower case.
use Rattle.std.proofs.Common.{◌≡◌, ℕ, ◌+◌, ◌<◌, Bool, not, ◌&&◌, List, [], ◌∷◌, ◌++◌, length, get_or, take, map, refl, ap, sym, ◌∙◌}
use Rattle.std.specs.Prelude.{bytes_eq}
use Rattle.std.specs.List.{list_all}
use Rattle.std.proofs.lemmas.List.Folds.{list_all-map}
use Rattle.name_paths.specs.Identifier.{lower}
use Rattle.spec_plant.specs.AcceptedTypes.{differ}
use Rattle.description_rules.specs.Next.{IsNext}
use Rattle.description_rules.specs.NameStarts.{is_none_of}
use Rattle.description_rules.proofs.FirstLemmas.{take-more}

module _ {A X : Type 0} (view : A → X) (name : X → List ℕ) where
  abbrev pub lower_name : A → List ℕ
  lower_name a = lower (name (view a))

  names-viewed : (xs : List A) → map lower_name xs ≡ map (λ x. lower (name x)) (map view xs)
  names-viewed [] = refl
  names-viewed (x ∷ xs) = ap (λ names. lower_name x ∷ names) (names-viewed xs)

  -- no name that is noted is the same
  pub none_of-lower : (xs : List A) (x : A) (seen : List (List ℕ)) → seen ≡ map lower_name xs
      → is_none_of seen (lower_name x) ≡ list_all (λ e. differ (name e) (name (view x))) (map view xs)
  none_of-lower xs x seen noted =
      ap (λ names. is_none_of names (lower_name x)) (noted ∙ names-viewed xs)
      ∙ list_all-map (λ e. not (bytes_eq e (lower_name x))) (λ e. lower (name e)) (map view xs)

  pub right-lower : (alone : Bool) (xs : List A) (x : A) (seen new : List (List ℕ)) (found : Bool)
      → seen ≡ map lower_name xs → IsNext alone seen new (lower_name x) found
      → (alone && list_all (λ e. differ (name e) (name (view x))) (map view xs)) ≡ found
  right-lower alone xs x seen new found noted next = sym (next.answer ∙ ap (λ b. alone && b) (none_of-lower xs x seen noted))

  -- one more name
  pub noted-lower : (xs : List A) (i : ℕ) (x : A) (seen new : List (List ℕ)) → i < length xs → x ≡ get_or xs i x → seen ≡ map lower_name (take i xs)
      → new ≡ seen ++ lower_name x ∷ [] → new ≡ map lower_name (take (i + 1) xs)
  noted-lower xs i x seen new below is noted more =
      more ∙ ap (λ names. names ++ lower_name x ∷ []) noted ∙ sym (take-more lower_name xs i x below is)
