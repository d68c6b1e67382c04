-- Names that are distinct, ASCII case aside.
use Rattle.std.proofs.Common.{◌≡◌, ℕ, ◌+◌, ◌<◌, List, [], ◌∷◌, length, get_or, drop, map, Bool, true, false, refl, sym, ap, ◌∙◌}
use Rattle.std.specs.Char.{to_ascii_lowercase}
use Rattle.std.proofs.lemmas.List.{at_drop_more}
use Rattle.std.proofs.lemmas.Slice.Eq.{bytes_eq-Decides}
use Rattle.std.specs.Str.{bytes_eq}
use Rattle.cli_words.specs.Values.{stands_in, are_distinct}

is_same : (word name : List ℕ) → map to_ascii_lowercase word ≡ map to_ascii_lowercase name
    → bytes_eq (map to_ascii_lowercase word) (map to_ascii_lowercase name) ≡ true
is_same word name same = (bytes_eq-Decides (map to_ascii_lowercase word) (map to_ascii_lowercase name)).1 same

is_other : (word name : List ℕ) → (map to_ascii_lowercase word ≡ map to_ascii_lowercase name → ⊥)
    → bytes_eq (map to_ascii_lowercase word) (map to_ascii_lowercase name) ≡ false
is_other word name other = not-equal _ (λ e. other ((bytes_eq-Decides (map to_ascii_lowercase word) (map to_ascii_lowercase name)).0 e))
  where
    not-equal : (b : Bool) → (b ≡ true → ⊥) → b ≡ false
    not-equal true h = absurd (h refl)
    not-equal false h = refl

pub stands_in-here : (words : List (List ℕ)) (name word : List ℕ) (i : ℕ) → i < length words → word ≡ get_or words i word
    → map to_ascii_lowercase word ≡ map to_ascii_lowercase name → stands_in (drop i words) name ≡ true
stands_in-here words name word i below is same =
    at_drop_more (λ ws. stands_in ws name) words i word below ∙ ap (λ w. stands_in (w ∷ drop (i + 1) words) name) (sym is) ∙ rw (is_same word name same) refl

pub stands_in-later : (words : List (List ℕ)) (name word : List ℕ) (i : ℕ) → i < length words → word ≡ get_or words i word
    → (map to_ascii_lowercase word ≡ map to_ascii_lowercase name → ⊥) → stands_in (drop i words) name ≡ stands_in (drop (i + 1) words) name
stands_in-later words name word i below is other =
    at_drop_more (λ ws. stands_in ws name) words i word below ∙ ap (λ w. stands_in (w ∷ drop (i + 1) words) name) (sym is) ∙ rw (is_other word name other) refl

pub are_distinct-here : (words : List (List ℕ)) (word : List ℕ) (i : ℕ) → i < length words
    → word ≡ get_or words i word → stands_in (drop (i + 1) words) word ≡ true → are_distinct (drop i words) ≡ false
unfolding are_distinct
are_distinct-here words word i below is again =
    at_drop_more are_distinct words i word below ∙ ap (λ w. are_distinct (w ∷ drop (i + 1) words)) (sym is) ∙ rw again refl

pub are_distinct-later : (words : List (List ℕ)) (word : List ℕ) (i : ℕ) → i < length words → word ≡ get_or words i word
    → stands_in (drop (i + 1) words) word ≡ false → are_distinct (drop i words) ≡ are_distinct (drop (i + 1) words)
unfolding are_distinct
are_distinct-later words word i below is new =
    at_drop_more are_distinct words i word below ∙ ap (λ w. are_distinct (w ∷ drop (i + 1) words)) (sym is) ∙ rw new refl

pub are_distinct-end : (words : List (List ℕ)) → words ≡ [] → are_distinct words ≡ true
unfolding are_distinct
are_distinct-end words e = rw e refl
