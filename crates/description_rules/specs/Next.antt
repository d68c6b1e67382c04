-- For private contracts, and cited by no public clause: a text is looked at behind those that came before.
use Rattle.std.specs.Prelude.{◌≡◌, ℕ, List, [], ◌∷◌, ◌++◌, Bool, true, not, ◌&&◌, bytes_eq}
use Rattle.std.specs.List.{list_all}

-- what holds of the answer, whether the text is right by itself and new: where it is right, it has been noted
pub record IsNext (right : Bool) (old new : List (List ℕ)) (text : List ℕ) (found : Bool) : Type 0 where
  pub answer : found ≡ (right && list_all (λ e. not (bytes_eq e text)) old)
  pub noted : found ≡ true → new ≡ old ++ text ∷ []
