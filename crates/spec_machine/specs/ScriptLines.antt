-- The lines of a script, and the words of a line. This project's own format.
use Rattle.std.specs.Prelude.{ℕ, ◌-◌, List, [], ◌∷◌, length, take, slice_index, ◌==◌, if◌then◌else◌}
use Rattle.std.specs.List.{onto_first, slice_split}
use Rattle.std.specs.Str.Lines.{strip_carriage_return}

-- the lines of a text, each with its end: a line goes up to an LF, which the last may lack
unfoldable pub lines_of : List ℕ → List (List ℕ)
lines_of [] = []
lines_of (b ∷ bs) = if b == 10 then (b ∷ []) ∷ lines_of bs else onto_first b (lines_of bs)

-- the text of a line: it is without its LF, and without a CR before that
abbrev pub text_of : List ℕ → List ℕ
text_of line =
    if slice_index line (length line - 1) == 10
    then strip_carriage_return (take (length line - 1) line) else line

-- the words of a line's text: it is cut at each space
abbrev pub words_of : List ℕ → List (List ℕ)
words_of text = slice_split (λ b. b == 32) text
