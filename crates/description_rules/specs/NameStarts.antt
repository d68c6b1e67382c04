-- For private contracts, and cited by no public clause: names by the texts with which they start.
use Rattle.std.specs.Prelude.{◌≡◌, ℕ, List, [], ◌∷◌, map, take, Bool, not, ◌&&◌, bytes_eq, if◌then◌else◌}
use Rattle.std.specs.List.{list_all}
use Rattle.name_paths.specs.Identifier.{lower}
use Rattle.name_paths.specs.Name.{is_full_stop}

-- a byte before each text
abbrev pub each_behind : ℕ → List (List ℕ) → List (List ℕ)
each_behind c texts = map (λ (text : List ℕ). c ∷ text) texts

-- what stands before each full stop of a text, and the whole text
abbrev pub starts_of : List ℕ → List (List ℕ)
starts_of [] = [] ∷ []
starts_of (c ∷ cs) = if is_full_stop c then [] ∷ each_behind c (starts_of cs) else each_behind c (starts_of cs)

-- none of these is the text
abbrev pub is_none_of : List (List ℕ) → List ℕ → Bool
is_none_of texts text = list_all (λ e. not (bytes_eq e text)) texts

-- none of these is one of the others
abbrev pub share_none : List (List ℕ) → List (List ℕ) → Bool
share_none texts others = list_all (is_none_of texts) others

-- the text before a byte, where that is a full stop
abbrev pub start_at : List ℕ → ℕ → ℕ → List (List ℕ)
start_at text i c = if is_full_stop c then take i text ∷ [] else []

-- the names before, in lower case: whole, and by what they start with
pub record AreNoted (names whole starts : List (List ℕ)) : Type 0 where
  pub in_full : (text : List ℕ) → is_none_of whole text ≡ list_all (λ name. not (bytes_eq (lower name) text)) names
  pub begun : (text : List ℕ) → is_none_of starts text ≡ list_all (λ name. is_none_of (starts_of (lower name)) text) names

-- texts that are added to others
abbrev pub IsAdded : List (List ℕ) → List (List ℕ) → List (List ℕ) → Type 0
IsAdded texts old new = (text : List ℕ) → is_none_of new text ≡ (is_none_of old text && is_none_of texts text)
