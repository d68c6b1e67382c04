-- The text of a summary. This project's own format.
use Rattle.std.specs.Prelude.{ℕ, ◌++◌, List, [], ◌∷◌, codes}
use Rattle.std.specs.Fmt.{decimal}
use Rattle.spec_machine.specs.Summary.{Summary}

-- a word, and a count
abbrev pub counted : List ℕ → ℕ → List ℕ
counted word n = word ++ decimal n

-- one line of six counts, the last two of which are the accepted and the refused reloads
abbrev pub summary_text_of : Summary → List ℕ
summary_text_of s =
    counted (codes "connections ") s.connections ++ counted (codes " requests ") s.requests
    ++ counted (codes " replies ") s.replies ++ counted (codes " samples ") s.samples
    ++ counted (codes " reloads ") s.accepted ++ counted (codes " ") s.refused ++ 10 ∷ []
