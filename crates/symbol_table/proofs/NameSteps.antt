-- The steps behind as many as a name has identifiers.
use Rattle.std.proofs.Common.{◌≡◌, ℕ, ◌+◌, suc, List, ◌∷◌, drop, length, refl, sym, ◌∙◌, ap, add-one}
use Rattle.std.specs.Prelude.{count_by}
use Rattle.std.proofs.lemmas.List.Splits.{length-slice_split}
use Rattle.name_paths.specs.Name.{identifiers_of, is_full_stop}
use Rattle.name_paths.specs.Path.{Step}

pub behind_name : (name : List ℕ) (path later : List Step) (first : Step) → path ≡ first ∷ later
    → drop (length (identifiers_of name)) path ≡ drop (count_by is_full_stop name) later
behind_name name path later first e =
    ap (λ n. drop n path) (length-slice_split is_full_stop name) ∙ ap (drop (count_by is_full_stop name + 1)) e
    ∙ more (count_by is_full_stop name)
  where
    more : (n : ℕ) → drop (n + 1) (first ∷ later) ≡ drop n later
    more n = rw add-one refl
