-- The rows of a table of samples after puts: the first put of each number, by rising number.
use Rattle.std.specs.Prelude.{ℕ, ◌+◌, ◌≤◌, List, [], ◌∷◌, nat_lt, ◌==◌, if◌then◌else◌, find, Option}
use Rattle.spec_samples.specs.Row.{Row}

-- the first of these rows with a number
abbrev pub row_numbered : ℕ → List Row → Option Row
row_numbered n rows = find (λ (r : Row). r.number == n) rows

-- the rows after a put: a row with a new number stands before all greater ones; a number that is there changes nothing
unfoldable pub rows_after_put : List Row → Row → List Row
rows_after_put [] new = new ∷ []
rows_after_put (r ∷ rs) new =
    if nat_lt r.number new.number then r ∷ rows_after_put rs new
    else if r.number == new.number then r ∷ rs else new ∷ r ∷ rs

-- the rows after all these puts, on top of what is there
unfoldable pub rows_after : List Row → List Row → List Row
rows_after rows [] = rows
rows_after rows (put ∷ puts) = rows_after (rows_after_put rows put) puts

-- the rows of a table that begins empty
abbrev pub rows_of : List Row → List Row
rows_of puts = rows_after [] puts

-- each put is of a number that is there or of the next one, where the numbers that are there are those up to `last`
unfoldable pub ArePuts : ℕ → List Row → Type 0
ArePuts last [] = Unit {0}
ArePuts last (put ∷ puts) =
    (1 ≤ put.number) × (put.number ≤ last + 1)
    × ArePuts (if nat_lt last put.number then last + 1 else last) puts
