-- Names of a list by their numbers, ASCII case aside.
use Rattle.std.specs.Prelude.{◌≡◌, ℕ, List, length, Option, bytes_eq, position}
use Rattle.name_paths.specs.Identifier.{lower}
use Rattle.name_index.specs.Entries.{number_of}

-- the number of the first name that is this one, ASCII case aside
abbrev pub first_called : List (List ℕ) → List ℕ → Option ℕ
first_called names name = position (λ n. bytes_eq (lower n) (lower name)) names

-- names in lower case, each with a number, and how many names there were
pub record NameNumbers : Type 0 where
  pub entries : List (List ℕ × ℕ)
  pub count : ℕ

-- each name of a list in lower case has the number of the first name that it is, and all are counted
pub record AreNumbered (names : List (List ℕ)) (index : NameNumbers) : Type 0 where
  pub first : (low : List ℕ) → number_of low index.entries ≡ position (λ n. bytes_eq (lower n) low) names
  pub counted : index.count ≡ length names
