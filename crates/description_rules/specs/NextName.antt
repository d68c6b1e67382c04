-- For private contracts, and cited by no public clause: a name is looked at behind those that came before.
use Rattle.std.specs.Prelude.{◌≡◌, ℕ, List, [], ◌∷◌, Bool, true, ◌&&◌}
use Rattle.name_paths.specs.Identifier.{lower}
use Rattle.name_paths.specs.Name.{is_symbol_name}
use Rattle.description_table.specs.declared.written.WrittenSymbol.{WrittenSymbol}
use Rattle.description_rules.specs.NameStarts.{starts_of, is_none_of, share_none, IsAdded}

-- what holds of the answer, whether a text is apart from those that are noted: where it is, it has been noted
pub record NotesText (text : List ℕ) (whole starts more_whole more_starts : List (List ℕ)) (right : Bool) : Type 0 where
  pub answer : right ≡ (is_none_of starts text && share_none whole (starts_of text))
  pub in_full : right ≡ true → IsAdded (text ∷ []) whole more_whole
  pub begun : right ≡ true → IsAdded (starts_of text) starts more_starts

-- the same for a name, which is right by itself too
pub record IsNextName (name : List ℕ) (whole starts more_whole more_starts : List (List ℕ)) (right : Bool) : Type 0 where
  pub answer : right ≡ (is_symbol_name name && (is_none_of starts (lower name) && share_none whole (starts_of (lower name))))
  pub in_full : right ≡ true → IsAdded (lower name ∷ []) whole more_whole
  pub begun : right ≡ true → IsAdded (starts_of (lower name)) starts more_starts

-- the name of a symbol as the code borrows it
abbrev pub name_view : WrittenSymbol → List ℕ
name_view s = s.name.now
