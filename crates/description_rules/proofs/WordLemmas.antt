-- The names that no type may have.
use Rattle.std.proofs.Common.{◌≡◌, ℕ, Bool, true, false, cond, not, ◌&&◌, List, [], ◌∷◌, map, refl, ap, sym, ◌∙◌, Option, Some, is_none}
use Rattle.std.specs.Prelude.{codes, find}
use Rattle.std.specs.List.{list_all}
use Rattle.std.proofs.lemmas.List.Folds.{list_all-append}
use Rattle.name_paths.specs.Identifier.{lower}
use Rattle.spec_plant.specs.Plain.{Kind, kind_name, all_kinds}
use Rattle.spec_plant.specs.AcceptedTypes.{differ, type_words}
use Rattle.spec_plant.specs.TypeTexts.{is_same_word, kind_named}
use Rattle.description_rules.proofs.TextLemmas.{bytes_eq-comm}

not_found : (b : Bool) (k : Kind) (r : Option Kind) → is_none (cond b (Some k) r) ≡ (not b && is_none r)
not_found true k r = refl
not_found false k r = refl

kinds_differ : (text : List ℕ) (ks : List Kind) → is_none (find (λ k. is_same_word (kind_name k) text) ks) ≡ list_all (differ text) (map kind_name ks)
kinds_differ text [] = refl
kinds_differ text (k ∷ ks) =
    let others = find (λ k. is_same_word (kind_name k) text) ks in
    not_found (is_same_word (kind_name k) text) k others
    ∙ ap (λ b. not b && is_none others) (bytes_eq-comm (lower (kind_name k)) (lower text))
    ∙ ap (λ b. differ text (kind_name k) && b) (kinds_differ text ks)

abbrev pub other_words : List (List ℕ)
other_words = codes "STRING" ∷ codes "ARRAY" ∷ codes "OF" ∷ []

pub type_words_differ : (text : List ℕ) (kind : Option Kind) → kind ≡ kind_named text
    → list_all (differ text) type_words ≡ (is_none kind && list_all (differ text) other_words)
type_words_differ text kind e =
    list_all-append (differ text) (map kind_name all_kinds) other_words
    ∙ ap (λ b. b && list_all (differ text) other_words) (sym (kinds_differ text all_kinds) ∙ ap is_none (sym e))
