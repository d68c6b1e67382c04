-- What a log holds of the lines that it was told. This project's own choice.
use Rattle.std.specs.Prelude.{◌≡◌, ℕ, Bool, true, false, List, [], ◌∷◌, ◌++◌, if◌then◌else◌}
use Rattle.ads_outside.specs.Rose.{raised}

-- the bytes that are still to be given to the outlet, and how many lines were lost; that count stands still at its type's end
pub record HeldLines : Type 0 where
  pub waits : List ℕ
  pub lost : ℕ

-- a line that was told, and whether it was kept
pub record Line : Type 0 where
  pub text : List ℕ
  pub kept : Bool

-- of lines, the newest first: all in the order of telling; the bytes of those that were kept; how many were lost
abbrev pub texts_of : List Line → List (List ℕ)
texts_of [] = []
texts_of (line ∷ lines) = texts_of lines ++ line.text ∷ []

abbrev pub bytes_of_kept : List Line → List ℕ
bytes_of_kept [] = []
bytes_of_kept (line ∷ lines) = if line.kept then bytes_of_kept lines ++ line.text else bytes_of_kept lines

abbrev pub lost_of : List Line → ℕ
lost_of [] = 0
lost_of (line ∷ lines) = if line.kept then lost_of lines else raised (lost_of lines)

-- What was given to the outlet and what waits are the lines that were told, whole and in order, less the lost, of which the number is told.
pub record IsLog (told : List (List ℕ)) (given : List ℕ) (held : HeldLines) : Type 0 where
  pub lines : List Line
  pub texts : texts_of lines ≡ told
  pub whole : given ++ held.waits ≡ bytes_of_kept lines
  pub lost : held.lost ≡ lost_of lines
